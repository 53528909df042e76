use Rattle.std.proofs.Common.{sym, ◌∙◌, nat_eq}
use Rattle.flash_io.proofs.QueueLemmas.{left-slot, find-absent, without-absent}
use Rattle.flash_io.proofs.queue.take_slot.Goals as goal

pub returns-in-Some : goal.returns-in-Some
returns-in-Some c =
    c.take_at.ensures.left ∙ left-slot c.args.slot c.args.queue.now.items c.in-Some.index (sym c.index_of.ensures.exact ∙ c.in-Some.is)

pub returns-in_default : goal.returns-in_default
returns-in_default c =
    sym (without-absent c.args.slot c.args.queue.now.items (find-absent (λ other. nat_eq other c.args.slot) c.args.queue.now.items (sym c.index_of.ensures.exact ∙ c.in_default.is)))
