use Rattle.std.proofs.Common.{◌≡◌, ◌≤◌, ℕ, List, sym, ◌∙◌, ap, subst, arith, length, length-drop, take, drop}
use Rattle.std.proofs.lemmas.List.{take-append-drop}
use Rattle.flash_names.specs.Told.{with_more}
use Rattle.flash_streams.proofs.Pieces.{written_on, take_on, slice_from}
use Rattle.flash_streams.proofs.writing.write_all.Goals as goal

pub returns-in-Err-clause-begun : goal.returns-in-Err-clause-begun
returns-in-Err-clause-begun g c =
    let bytes = c.args.bytes.now in
    let done = c.writes.done in
    record {
      front = take done bytes;
      rest = drop done bytes;
      parts = sym (take-append-drop done bytes);
      written = c.in-Err.ensures.failed ∙ c.writes.invariant.written;
    }

pub writes-preserved : goal.writes-preserved
writes-preserved g c =
    let bytes = c.args.bytes.now in
    let done = c.writes.done in
    let n = c.in-Ok.n in
    let one = c.in-Ok.ensures in
    let was = c.writes.invariant in
    let first = g.K.Sink.held c.args.sink.now in
    let mid = g.K.Sink.held c.writes.sink in
    let last = g.K.Sink.held c.write.new.self in
    let bound : n ≤ length (drop done bytes) = subst (λ (l : List ℕ). n ≤ length l) (slice_from done bytes) one.bound in
    let more : last ≡ with_more (take n (drop done bytes)) mid = one.appended ∙ ap (λ (l : List ℕ). with_more (take n l) mid) (slice_from done bytes) in
    record {
      within = omega (arith, was.within, bound, length-drop done bytes);
      written = written_on (take done bytes) (take n (drop done bytes)) first mid last was.written more ∙ ap (λ (l : List ℕ). with_more l first) (take_on done n bytes);
      kept = omega (arith, was.kept, c.write.ensures.counts.kept);
    }
