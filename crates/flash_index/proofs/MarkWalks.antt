-- A mark moves to the front over items that can't move.
use Rattle.std.proofs.Common.{◌≡◌, ℕ, Bool, true, false, cond, List, [], ◌∷◌, length, Option, Some, None, refl, sym, ◌∙◌, ap, subst, arith}
use Rattle.std.specs.Prelude.{◌<◌}
use Rattle.std.specs.Option.{option_or}
use Rattle.std.specs.FinMap.{get}
use Rattle.flash_names.specs.declared.place.ItemId.{ItemId}
use Rattle.flash_lru.specs.declared.segment.Segment.{Segment}
use Rattle.flash_lru.specs.declared.card.Card.{Card}
use Rattle.flash_lru.specs.Card.{is_of}
use Rattle.flash_lru.specs.Lists.{list_of}
use Rattle.flash_lru.specs.Ends.{last_item, before_from, before}
use Rattle.flash_items.specs.declared.item.Parts.{Parts}
use Rattle.flash_items.specs.Item.{with_key}
use Rattle.flash_items.specs.ItemsState.{ItemMap, ItemsState, IsAt}
use Rattle.flash_items.specs.Law.{IsInStep}
use Rattle.flash_index.specs.declared.move_rule.MoveBounds.{MoveBounds}
use Rattle.flash_index.specs.Known.{known_parts}
use Rattle.flash_index.specs.NextToMove.{can_move}
use Rattle.flash_index.specs.Walk.{up_to, item_before}
use Rattle.flash_index.specs.Marking.{is_movable, IsFixed, AreFixed, from, IsMark}
use Rattle.flash_index.proofs.Lookups.{none_some}
use Rattle.flash_index.proofs.Walks.{IsIn, AreOnce, Steps, count_first, once_rest, apart_first, last_in, before_or, steps_on, before_in, once_in}

-- an item before which there is none is that of the first card
first_from : (id : ItemId) (cards : List Card) → IsIn id cards → before_from None id cards ≡ None → from id cards ≡ cards
first_from id [] inside none = refl
first_from id (card ∷ cards) inside none = by (is_of id card) refl where
  some : (o : Option ItemId) → option_or o (Some card.item) ≡ None → ⊥
  some None e = none_some card.item (sym e)
  some (Some x) e = none_some x (sym e)

  by : (b : Bool) → is_of id card ≡ b → cond b (card ∷ cards) (from id cards) ≡ card ∷ cards
  by true e = refl
  by false e =
      let rest : IsIn id cards = omega (arith, inside, count_first id card cards false e) in
      absurd (some (before_from None id cards)
      (sym (before_or card.item id cards rest) ∙ sym (ap (λ b. cond b None (before_from (Some card.item) id cards)) e) ∙ none))

either : (bounds : MoveBounds) (items : ItemMap) (b : Bool) (xs ys : List Card) → AreFixed bounds items xs → AreFixed bounds items ys → AreFixed bounds items (cond b xs ys)
either bounds items true xs ys a b = a
either bounds items false xs ys a b = b

module _ (bounds : MoveBounds) (items : ItemMap) (id : ItemId) (fixed : IsFixed bounds items id.key) where
  -- the cards from the last one on
  from_last : (cards : List Card) → AreOnce cards → last_item cards ≡ Some id → AreFixed bounds items (from id cards)
  from_last [] once last = tt
  from_last (card ∷ []) once last = by (is_of id card) where
    same : card.item ≡ id
    same = cc

    by : (b : Bool) → AreFixed bounds items (cond b (card ∷ []) [])
    by true = (subst (λ (i : ItemId). IsFixed bounds items i.key) (sym same) fixed, tt)
    by false = tt
  from_last (card ∷ next ∷ cards) once last =
      let else = apart_first id card (next ∷ cards) once (last_in (next ∷ cards) id last) in
      subst (λ t. AreFixed bounds items (cond t (card ∷ next ∷ cards) (from id (next ∷ cards)))) (sym else)
      (from_last (next ∷ cards) (once_rest card (next ∷ cards) once) last)

  fixed_from : (cards : List Card) → AreFixed bounds items cards → AreFixed bounds items (from id cards)
  fixed_from [] all = tt
  fixed_from (card ∷ cards) all = either bounds items (is_of id card) (card ∷ cards) (from id cards) all (fixed_from cards all.1)

  -- the cards from the one before the mark's on
  from_before : (mark : ItemId) (cards : List Card) → AreOnce cards → IsMark bounds items (Some mark) cards → before_from None mark cards ≡ Some id → AreFixed bounds items (from id cards)
  from_before mark [] once is at = tt
  from_before mark (card ∷ cards) once is at = by (is_of mark card) refl at (from_before mark cards (once_rest card cards once)) where
    -- the card before the mark's in the rest, if there is one, or else this card
    in_rest : IsMark bounds items (Some mark) cards → (p : Option ItemId) → before_from None mark cards ≡ p → option_or p (Some card.item) ≡ Some id
        → (IsMark bounds items (Some mark) cards → before_from None mark cards ≡ Some id → AreFixed bounds items (from id cards)) → AreFixed bounds items (from id (card ∷ cards))
    in_rest less None none here more =
        let same : card.item ≡ id = cc here in
        let rest : AreFixed bounds items cards = subst (λ l. AreFixed bounds items l) (first_from mark cards less.0 none) less.1 in
        either bounds items (is_of id card) (card ∷ cards) (from id cards) (subst (λ (i : ItemId). IsFixed bounds items i.key) (sym same) fixed, rest) (fixed_from cards rest)
    in_rest less (Some p) some here more =
        let same : p ≡ id = cc here in
        let there : before_from None mark cards ≡ Some id = some ∙ here in
        let inside = (steps_on (λ _. false) mark cards (once_rest card cards once) less.0 (λ _ _. refl)).inside id there in
        subst (λ t. AreFixed bounds items (cond t (card ∷ cards) (from id cards))) (sym (apart_first id card cards once inside)) (more less there)

    by : (b : Bool) → is_of mark card ≡ b → before_from None mark (card ∷ cards) ≡ Some id
        → (IsMark bounds items (Some mark) cards → before_from None mark cards ≡ Some id → AreFixed bounds items (from id cards)) → AreFixed bounds items (from id (card ∷ cards))
    by true e at more = absurd (none_some id (sym (ap (λ b. cond b None (before_from (Some card.item) mark cards)) e) ∙ at))
    by false e at more =
        let less : IsMark bounds items (Some mark) cards = (
          omega (arith, is.0, count_first mark card cards false e),
          subst (λ t. AreFixed bounds items (cond t (card ∷ cards) (from mark cards))) e is.1,
        ) in
        in_rest less (before_from None mark cards) refl
        (sym (before_or card.item mark cards less.0) ∙ sym (ap (λ b. cond b None (before_from (Some card.item) mark cards)) e) ∙ at) more

-- a mark of a segment's list, and the item before it
pub record Marks (s : ItemsState) (segment : Segment) (bounds : MoveBounds) (mark next : Option ItemId) : Type 0 where
  pub is : IsMark bounds s.items mark (list_of segment s.lists)
  pub at : next ≡ item_before mark (list_of segment s.lists)

-- the mark moves to the front
module _ (s : ItemsState) (step : IsInStep s) (segment : Segment) (bounds : MoveBounds) where
  abbrev list : List Card
  list = list_of segment s.lists

  once : AreOnce list
  once = once_in s.lists segment step.once

  before_inside : (mark : Option ItemId) (id : ItemId) → IsMark bounds s.items mark list → item_before mark list ≡ Some id → IsIn id list
  before_inside None id is at = last_in list id at
  before_inside (Some mark) id is at = (steps_on (λ _. false) mark list once is.0 (λ _ _. refl)).inside id at

  fixed_before : (mark : Option ItemId) (id : ItemId) → IsFixed bounds s.items id.key → IsMark bounds s.items mark list → item_before mark list ≡ Some id → AreFixed bounds s.items (from id list)
  fixed_before None id fixed is at = from_last bounds s.items id fixed list once at
  fixed_before (Some mark) id fixed is at = from_before bounds s.items id fixed mark list once is at

  pub next_inside : (mark next : Option ItemId) (id : ItemId) → Marks s segment bounds mark next → next ≡ Some id → IsIn id list
  next_inside mark next id marks some = before_inside mark id marks.is (sym marks.at ∙ some)

  -- the item that is lent can't move
  module _ (mark next : Option ItemId) (id : ItemId) (marks : Marks s segment bounds mark next) (some : next ≡ Some id) (own : List ℕ) (parts : Parts) (there : IsAt s id (with_key own parts)) where
    pub moves_on : (previous : Option ItemId) → previous ≡ before id s.lists → can_move bounds own (known_parts (length own) parts) ≡ false → Marks s segment bounds (Some id) previous
    moves_on previous at stays =
        let inside = next_inside mark next id marks some in
        let fixed : IsFixed bounds s.items id.key = ap (is_movable bounds) there ∙ stays in
        record {
          is = (inside, fixed_before mark id fixed marks.is (sym marks.at ∙ some));
          at = at ∙ before_in id s.lists segment (step.once id) inside;
        }

    pub less_is_left : (previous : Option ItemId) → previous ≡ before id s.lists → length (up_to previous list) < length (up_to next list)
    less_is_left previous at =
        let inside = next_inside mark next id marks some in
        let steps = steps_on (λ _. false) id list once inside (λ _ _. refl) in
        subst (λ (o : Option ItemId). length (up_to previous list) < length (up_to o list)) (sym some)
        (subst (λ (o : Option ItemId). length (up_to o list) < length (up_to (Some id) list)) (sym (at ∙ before_in id s.lists segment (step.once id) inside)) steps.shorter)
