-- The three lists without an item's card.
use Rattle.std.proofs.Common.{◌≡◌, ◌+◌, Bool, true, false, cond, not, List, [], ◌∷◌, count_by, refl, ◌∙◌, ap, inl, inr, arith}
use Rattle.std.proofs.lemmas.Bool.{cases_Bool, cases_lt}
use Rattle.std.proofs.lemmas.List.Sums.{sum_by-cons}
use Rattle.flash_names.specs.declared.place.ItemId.{ItemId}
use Rattle.flash_lru.specs.declared.card.Card.{Card}
use Rattle.flash_lru.specs.Card.{is_of}
use Rattle.flash_lru.specs.Lists.{SegmentLists, cards_of, HasCard}
use Rattle.flash_lru.specs.Moves.{without, removed}
use Rattle.flash_lru.proofs.Sound.{same_lists_of}

count_cons : (item : ItemId) (card : Card) (cards : List Card) (b : Bool) → is_of item card ≡ b → count_by (is_of item) (card ∷ cards) ≡ cond b 1 0 + count_by (is_of item) cards
count_cons item card cards b e = sum_by-cons (λ (c : Card). cond (is_of item c) 1 0) card cards ∙ ap (λ t. cond t 1 0 + count_by (is_of item) cards) e

count_gone : (item : ItemId) (cards : List Card) → count_by (is_of item) (without item cards) ≡ 0
count_gone item [] = refl
count_gone item (card ∷ cards) = elim (cases_Bool (is_of item card)) [
  | inl e ↦ ap (λ b. count_by (is_of item) (cond (not b) (card ∷ without item cards) (without item cards))) e ∙ count_gone item cards
  | inr e ↦
      ap (λ b. count_by (is_of item) (cond (not b) (card ∷ without item cards) (without item cards))) e
      ∙ count_cons item card (without item cards) false e ∙ omega (arith, count_gone item cards)
]

same_without : (item : ItemId) (cards : List Card) → count_by (is_of item) cards ≡ 0 → without item cards ≡ cards
same_without item [] none = refl
same_without item (card ∷ cards) none = elim (cases_Bool (is_of item card)) [
  | inl e ↦ absurd (omega (arith, none, count_cons item card cards true e))
  | inr e ↦
      ap (λ b. cond (not b) (card ∷ without item cards) (without item cards)) e
      ∙ ap (λ l. card ∷ l) (same_without item cards (omega (arith, none, count_cons item card cards false e)))
]

-- no card of the item is left
pub removed_none : (item : ItemId) (s : SegmentLists) → cards_of item (removed item s) ≡ 0
removed_none item s = omega (arith, count_gone item s.hot, count_gone item s.warm, count_gone item s.cold)

-- nothing is taken away of an item without a card
pub removed_same : (item : ItemId) (s : SegmentLists) → (HasCard s item → ⊥) → removed item s ≡ s
removed_same item s none =
    let zero : cards_of item s ≡ 0 = elim (cases_lt 0 (cards_of item s)) [ inl some ↦ absurd (none some) | inr few ↦ omega arith ] in
    same_lists_of _ _ _ _ _ _ _ _ s.memory (same_without item s.hot (omega arith)) (same_without item s.warm (omega arith)) (same_without item s.cold (omega arith)) refl
