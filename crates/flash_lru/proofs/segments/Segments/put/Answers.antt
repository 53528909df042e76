use Rattle.std.proofs.Common.{◌≡◌, ◌∙◌, ap, sym}
use Rattle.std.proofs.lemmas.Bool.{both_ways}
use Rattle.flash_lru.specs.Lists.{cards_of}
use Rattle.flash_lru.specs.Card.{idle}
use Rattle.flash_lru.specs.Moves.{removed, put_front}
use Rattle.flash_lru.proofs.Gone.{removed_none, removed_same}
use Rattle.flash_lru.proofs.segments.Segments.put.Goals as goal
use Rattle.flash_lru.proofs.segments.Segments.put.Goals.{then-has_card, else-has_card}

-- either way the item's card is gone
pub put_new-requires-clause-absent : goal.put_new-requires-clause-absent
put_new-requires-clause-absent c =
    let gone : c.if-has_card.self ≡ removed c.args.item c.args.self.now = elim c.if-has_card.branch [
      | then-has_card w ↦ w.self-is ∙ w.remove.ensures
      | else-has_card w ↦ w.self-is ∙ sym (removed_same c.args.item c.args.self.now (λ some. both_ways _ w.if-has_card.false (c.has_card.ensures.1 some)))
    ] in
    ap (cards_of c.args.item) gone ∙ removed_none c.args.item c.args.self.now

pub returns : goal.returns
returns c =
    let gone : c.if-has_card.self ≡ removed c.args.item c.args.self.now = elim c.if-has_card.branch [
      | then-has_card w ↦ w.self-is ∙ w.remove.ensures
      | else-has_card w ↦ w.self-is ∙ sym (removed_same c.args.item c.args.self.now (λ some. both_ways _ w.if-has_card.false (c.has_card.ensures.1 some)))
    ] in
    c.put_new.ensures ∙ ap (put_front c.args.segment (idle c.args.item c.args.size)) gone
