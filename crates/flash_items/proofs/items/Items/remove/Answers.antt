use Rattle.std.proofs.Common.{ℕ, ◌<◌, ◌≤◌, ◌∙◌, ap, sym, subst, arith}
use Rattle.std.specs.FinMap.{get, remove}
use Rattle.flash_items.proofs.Steps.{one_value}
use Rattle.flash_items.specs.Item.{parts_of}
use Rattle.flash_items.specs.ItemsState.{ItemsState}
use Rattle.flash_items.specs.Joined.{spare_of}
use Rattle.flash_items.proofs.Calls.{slot_some, has_card, item_is}
use Rattle.flash_items.proofs.Closings.{taken, spare_kept}
use Rattle.flash_lru.specs.Moves.{removed}
use Rattle.flash_items.proofs.items.Items.remove.Goals as goal

pub remove-entry-requires : goal.remove-entry-requires
remove-entry-requires c = slot_some c.self.inside.table c.self.inside.entries c.self.inside.segments c.args.self.now c.self.invariant c.self.view_is c.args.id c.requires

pub remove-requires : goal.remove-requires
remove-requires c = has_card c.self.inside.table c.self.inside.entries c.self.inside.segments c.args.self.now c.self.invariant c.self.view_is c.args.id c.requires

pub invariant_of-self : goal.invariant_of-self
invariant_of-self c = rw c.remove.ensures (taken c.self.inside.table c.take.new.self c.self.inside.entries c.remove-entry.new.self c.self.inside.segments c.args.self.now c.self.invariant c.self.view_is c.args.id c.remove-entry.result c.remove-entry.ensures.value c.remove-entry.ensures.updates (λ key name. c.take.ensures.taken.removed ∙ ap (remove c.self.inside.table.map) (one_value (get c.self.inside.table.keys c.remove-entry.result.key.number) c.take.ensures.taken.key key c.take.ensures.taken.named name)) c.take.ensures.keys).0

pub returns-clause-was : goal.returns-clause-was
returns-clause-was c = λ item there. sym (ap parts_of (item_is c.self.inside.table c.self.inside.entries c.self.inside.segments c.args.self.now c.self.invariant c.self.view_is c.args.id c.remove-entry.result c.remove-entry.ensures.value item there))

pub returns-clause-taken : goal.returns-clause-taken
returns-clause-taken c = rw c.remove.ensures (taken c.self.inside.table c.take.new.self c.self.inside.entries c.remove-entry.new.self c.self.inside.segments c.args.self.now c.self.invariant c.self.view_is c.args.id c.remove-entry.result c.remove-entry.ensures.value c.remove-entry.ensures.updates (λ key name. c.take.ensures.taken.removed ∙ ap (remove c.self.inside.table.map) (one_value (get c.self.inside.table.keys c.remove-entry.result.key.number) c.take.ensures.taken.key key c.take.ensures.taken.named name)) c.take.ensures.keys).1

pub returns-clause-spare : goal.returns-clause-spare
returns-clause-spare c =
    rw c.remove.ensures (subst (λ (n : ℕ). n ≤ spare_of c.take.new.self c.remove-entry.new.self (removed c.args.id c.self.inside.segments)) (ap (λ (s : ItemsState). s.spare) c.self.view_is) (spare_kept c.self.inside.table c.take.new.self c.self.inside.entries c.remove-entry.new.self c.self.inside.segments (removed c.args.id c.self.inside.segments)
    (omega (arith, c.take.ensures.spare)) c.remove-entry.ensures.room
    (subst (λ (n : ℕ). n < c.self.inside.segments.spare) (sym c.remove-entry.ensures.key_is_next) ((c.has_one_each.ensures.once c.args.id).below (has_card c.self.inside.table c.self.inside.entries c.self.inside.segments c.args.self.now c.self.invariant c.self.view_is c.args.id c.requires)))))
