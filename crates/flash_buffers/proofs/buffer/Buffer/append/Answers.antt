use Rattle.std.proofs.Common.{◌≡◌, ℕ, ◌+◌, ◌≤◌, List, ◌++◌, length, take, drop, arith, subst}
use Rattle.flash_record.specs.Record.{Parts, record_bytes}
use Rattle.flash_buffers.proofs.BufferLemmas.{keeps}
use Rattle.flash_buffers.proofs.buffer.Buffer.append.Goals as goal

pub invariant_of-self-2 : goal.invariant_of-self-2
invariant_of-self-2 c =
    let items = c.self.inside.bytes.items in
    let used = c.self.inside.used in
    let n = c.in_ok-length.length in
    let new = c.write_behind.new.bytes in
    let p : Parts = record { key = c.args.key.now; flags = c.args.flags; cas = c.args.cas; version = c.in_ok-label.label.version; value = c.args.value.now } in
    let same : length new ≡ length items = omega arith in
    let inside : used + n ≤ length items = subst (λ (l : List ℕ). used + n ≤ length l) c.deref_mut.ensures.value c.in_ok-length.ensures.inside in
    let written : new ≡ take used items ++ (record_bytes p ++ drop (used + n) items) =
    subst (λ (l : List ℕ). new ≡ take used l ++ (record_bytes p ++ drop (used + n) l)) c.deref_mut.ensures.value c.in_ok-length.ensures.written in
    keeps c.self.inside.offset used n c.self.inside.bytes.len items new (record_bytes p) (omega arith) same inside written c.self.invariant
