use Rattle.std.proofs.Common.{◌≡◌, sym, ap, ◌∙◌, ℕ, Bool, Some, get_or, arith}
use Rattle.std.proofs.lemmas.Grind.{common_steps}
use Rattle.std.specs.FinMap as map
use Rattle.flash_io.specs.Slots.{rows_of, has_id}
use Rattle.flash_io.proofs.QueueLemmas.{is_first, find-absent}
use Rattle.flash_io.proofs.queue.find_id.Goals as goal

pub returns-in-None : goal.returns-in-None
returns-in-None c =
    let p : ℕ → Bool = λ slot. has_id c.args.id (map.get (rows_of c.args.rows.now) slot) in
    sym (find-absent p c.args.queue.now.items (sym c.index_with.ensures.exact ∙ c.in-None.is))

pub returns-in-Some : goal.returns-in-Some
returns-in-Some c =
    let p : ℕ → Bool = λ slot. has_id c.args.id (map.get (rows_of c.args.rows.now) slot) in
    let first = is_first p c.args.queue.now.items c.in-Some.index (sym c.index_with.ensures.exact ∙ c.in-Some.is) in
    let within = first.inside in
    let at : c.index.result.now ≡ get_or c.args.queue.now.items c.in-Some.index 0 = grind (arith, common_steps) in
    ap Some at ∙ sym first.found
