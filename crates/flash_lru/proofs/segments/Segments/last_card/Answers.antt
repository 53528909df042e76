use Rattle.std.proofs.Common.{◌∙◌, ap, sym, subst, IfSome, Option, ◌<◌, ◌≤◌, ℕ, length}
use Rattle.flash_lru.specs.declared.card.Card.{Card}
use Rattle.flash_lru.specs.Ring.{some_card}
use Rattle.flash_lru.proofs.Calls.{last_read, last_inside, card_room}
use Rattle.flash_lru.proofs.segments.Segments.last_card.Goals as goal

pub card_of-requires : goal.card_of-requires
card_of-requires c =
    subst (λ (n : ℕ). 3 ≤ n → n < length c.self.inside.nodes.items) (sym c.last_of.ensures)
    (last_inside _ _ _ _ c.self.inside.memory _ c.self.invariant c.self.view_is c.args.segment)

pub returns-clause-exact : goal.returns-clause-exact
returns-clause-exact c =
    c.card_of.ensures ∙ ap (some_card c.self.inside.nodes.items) c.last_of.ensures
    ∙ sym (last_read _ _ _ _ c.self.inside.memory _ c.self.invariant c.self.view_is c.args.segment)

pub returns-clause-room : goal.returns-clause-room
returns-clause-room c =
    subst (λ (o : Option Card). IfSome o (λ card. card.item.key < c.args.self.now.spare)) (sym c.card_of.ensures)
    (card_room _ _ _ _ c.self.inside.memory _ c.self.invariant c.self.view_is c.last_of.result
    (subst (λ (n : ℕ). 3 ≤ n → n < length c.self.inside.nodes.items) (sym c.last_of.ensures)
    (last_inside _ _ _ _ c.self.inside.memory _ c.self.invariant c.self.view_is c.args.segment)))
