use Rattle.std.proofs.Common.{sym, ap, ◌∙◌, ℕ, Bool, Some}
use Rattle.std.specs.FinMap as map
use Rattle.flash_io.specs.Slots.{rows_of, has_id}
use Rattle.flash_io.specs.Queue.{without}
use Rattle.flash_io.proofs.QueueLemmas.{is_first, find-absent}
use Rattle.flash_io.proofs.queue.take_id.Goals as goal

pub returns-in-None-clause-exact : goal.returns-in-None-clause-exact
returns-in-None-clause-exact c =
    let p : ℕ → Bool = λ slot. has_id c.args.id (map.get (rows_of c.args.rows.now) slot) in
    sym (find-absent p c.args.queue.now.items (sym c.index_with.ensures.exact ∙ c.in-None.is))

pub returns-in-Some-clause-exact : goal.returns-in-Some-clause-exact
returns-in-Some-clause-exact c =
    let p : ℕ → Bool = λ slot. has_id c.args.id (map.get (rows_of c.args.rows.now) slot) in
    let first = is_first p c.args.queue.now.items c.in-Some.index (sym c.index_with.ensures.exact ∙ c.in-Some.is) in
    ap Some c.take_at.ensures.slot ∙ sym first.found

pub returns-in-Some-clause-taken : goal.returns-in-Some-clause-taken
returns-in-Some-clause-taken c =
    let p : ℕ → Bool = λ slot. has_id c.args.id (map.get (rows_of c.args.rows.now) slot) in
    let first = is_first p c.args.queue.now.items c.in-Some.index (sym c.index_with.ensures.exact ∙ c.in-Some.is) in
    c.take_at.ensures.left ∙ first.left ∙ ap (λ slot. without slot c.args.queue.now.items) (sym c.take_at.ensures.slot)
