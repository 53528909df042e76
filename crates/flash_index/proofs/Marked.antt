-- What each change of a list and its items leaves of a mark.
use Rattle.std.proofs.Common.{◌≡◌, ℕ, ◌+◌, Bool, true, false, cond, not, List, [], ◌∷◌, map, count_by, Option, Some, None, refl, sym, ◌∙◌, ap, subst, inl, inr, ◌⊎◌, arith, eqb, eq-eqb, ne_eqb}
use Rattle.std.specs.Prelude.{◌<◌, ◌≤◌}
use Rattle.std.specs.FinMap.{get, insert, remove}
use Rattle.std.proofs.lemmas.Bool.{cases_eq}
use Rattle.std.proofs.lemmas.List.Sums.{sum_by-cons}
use Rattle.flash_names.specs.declared.place.ItemId.{ItemId}
use Rattle.flash_lru.specs.declared.segment.Segment.{Segment}
use Rattle.flash_lru.specs.declared.segment.Segment.TheVariants.{Hot, Warm, Cold}
use Rattle.flash_lru.specs.declared.card.Card.{Card}
use Rattle.flash_lru.specs.Card.{is_of, idle}
use Rattle.flash_lru.specs.Lists.{SegmentLists, list_of}
use Rattle.flash_lru.specs.Moves.{without, with_change, changed, moved, removed}
use Rattle.flash_items.specs.declared.item.Item.{Item}
use Rattle.flash_items.specs.ItemsState.{ItemMap}
use Rattle.flash_index.specs.declared.move_rule.MoveBounds.{MoveBounds}
use Rattle.flash_index.specs.Marking.{is_movable, IsFixed, AreFixed, from, IsMark, passed}
use Rattle.flash_index.proofs.Walks.{IsIn, count_first, in_more, same_item}

module _ (bounds : MoveBounds) where
  -- what can't move in one map can't in another
  abbrev pub FixesMore : ItemMap → ItemMap → Type 0
  FixesMore old new = (n : ℕ) → IsFixed bounds old n → IsFixed bounds new n

  fixed_more : (old new : ItemMap) → FixesMore old new → (cards : List Card) → AreFixed bounds old cards → AreFixed bounds new cards
  fixed_more old new more [] fixed = tt
  fixed_more old new more (card ∷ cards) fixed = (more card.item.key fixed.0, fixed_more old new more cards fixed.1)

  -- the items change, and the list stays
  pub mark_kept : (old new : ItemMap) → FixesMore old new → (mark : Option ItemId) (cards : List Card) → IsMark bounds old mark cards → IsMark bounds new mark cards
  mark_kept old new more None cards is = tt
  mark_kept old new more (Some mark) cards is = (is.0, fixed_more old new more (from mark cards) is.1)

  -- a card of another item is put at the front
  pub mark_front : (items : ItemMap) (mark : Option ItemId) (card : Card) (cards : List Card) → count_by (is_of card.item) cards ≡ 0 → IsMark bounds items mark cards → IsMark bounds items mark (card ∷ cards)
  mark_front items None card cards none is = tt
  mark_front items (Some mark) card cards none is = by (is_of mark card) refl where
    by : (b : Bool) → is_of mark card ≡ b → (0 < count_by (is_of mark) (card ∷ cards)) × AreFixed bounds items (cond b (card ∷ cards) (from mark cards))
    by true e =
        let same : count_by (is_of mark) cards ≡ 0 = subst (λ (i : ItemId). count_by (is_of i) cards ≡ 0) (same_item mark card e) none in
        absurd (omega (arith, is.0, same))
    by false e = (in_more mark card cards is.0, is.1)

  module _ (items : ItemMap) (id : ItemId) where
    fixed_without : (cards : List Card) → AreFixed bounds items cards → AreFixed bounds items (without id cards)
    fixed_without [] fixed = tt
    fixed_without (card ∷ cards) fixed = by (is_of id card) (fixed_without cards fixed.1) where
      by : (b : Bool) → AreFixed bounds items (without id cards) → AreFixed bounds items (cond (not b) (card ∷ without id cards) (without id cards))
      by true rest = rest
      by false rest = (fixed.0, rest)

    -- the card of another item than the mark leaves
    mark_without : (mark : ItemId) → (mark ≡ id → ⊥) → (cards : List Card) → IsMark bounds items (Some mark) cards → IsMark bounds items (Some mark) (without id cards)
    mark_without mark apart [] is = is
    mark_without mark apart (card ∷ cards) is = by (is_of mark card) (is_of id card) refl refl (mark_without mark apart cards) where
      by : (b t : Bool) → is_of mark card ≡ b → is_of id card ≡ t → (IsMark bounds items (Some mark) cards → IsMark bounds items (Some mark) (without id cards))
          → IsMark bounds items (Some mark) (cond (not t) (card ∷ without id cards) (without id cards))
      by true true e f rest = absurd (apart (sym (same_item mark card e) ∙ same_item id card f))
      by true false e f rest =
          let fixed : AreFixed bounds items (card ∷ cards) = subst (λ t. AreFixed bounds items (cond t (card ∷ cards) (from mark cards))) e is.1 in (
            omega (arith, count_first mark card (without id cards) true e),
            subst (λ t. AreFixed bounds items (cond t (card ∷ without id cards) (from mark (without id cards)))) (sym e) (fixed.0, fixed_without cards fixed.1),
          )
      by false true e f rest = rest (
        omega (arith, is.0, count_first mark card cards false e),
        subst (λ t. AreFixed bounds items (cond t (card ∷ cards) (from mark cards))) e is.1,
      )
      by false false e f rest =
          let less = rest (
            omega (arith, is.0, count_first mark card cards false e),
            subst (λ t. AreFixed bounds items (cond t (card ∷ cards) (from mark cards))) e is.1,
          ) in (
            in_more mark card (without id cards) less.0,
            subst (λ t. AreFixed bounds items (cond t (card ∷ without id cards) (from mark (without id cards)))) (sym e) less.1,
          )

    -- the card of the item leaves, and another mark is known for that case
    pub mark_passed : (other mark : Option ItemId) (cards : List Card) → IsMark bounds items mark cards → (mark ≡ Some id → IsMark bounds items other (without id cards)) → IsMark bounds items (passed id other mark) (without id cards)
    mark_passed other None cards is then = tt
    mark_passed other (Some mark) cards is then = elim (cases_eq mark.key id.key) [
      | inl e ↦
          (let same : mark ≡ id = ap (λ k. let i : ItemId = record { key = k } in i) e in
          subst (λ t. IsMark bounds items (cond t other (Some mark)) (without id cards)) (sym (eq-eqb mark.key id.key e)) (then (ap (λ i. Some i) same)))
      | inr n ↦
          subst (λ t. IsMark bounds items (cond t other (Some mark)) (without id cards)) (sym (ne_eqb mark.key id.key n))
          (mark_without mark (λ same. n (ap (λ (i : ItemId). i.key) same)) cards is)
    ]

    -- the item has no card
    pub mark_absent : (mark : Option ItemId) (cards : List Card) → count_by (is_of id) cards ≡ 0 → IsMark bounds items mark cards → IsMark bounds items mark (without id cards)
    mark_absent None cards none is = tt
    mark_absent (Some mark) cards none is =
        mark_without mark (λ same. absurd (omega (arith, is.0, subst (λ (i : ItemId). count_by (is_of i) cards ≡ 0) (sym same) none))) cards is

  -- the items of the cards stay, but for one that has no card
  module _ (old new : ItemMap) (id : ItemId) (else : (n : ℕ) → (n ≡ id.key → ⊥) → get new n ≡ get old n) where
    fixed_else : (cards : List Card) → count_by (is_of id) cards ≡ 0 → AreFixed bounds old cards → AreFixed bounds new cards
    fixed_else [] none fixed = tt
    fixed_else (card ∷ cards) none fixed =
        let apart : card.item.key ≡ id.key → ⊥ = λ same. absurd (omega (arith, none, count_first id card cards true (eq-eqb card.item.key id.key same))) in
        let less : count_by (is_of id) cards ≡ 0 = omega (arith, none, count_first id card cards (is_of id card) refl) in
        (ap (is_movable bounds) (else card.item.key apart) ∙ fixed.0, fixed_else cards less fixed.1)

    none_from : (mark : ItemId) (cards : List Card) → count_by (is_of id) cards ≡ 0 → count_by (is_of id) (from mark cards) ≡ 0
    none_from mark [] none = none
    none_from mark (card ∷ cards) none = by (is_of mark card) (none_from mark cards (omega (arith, none, count_first id card cards (is_of id card) refl))) where
      by : (b : Bool) → count_by (is_of id) (from mark cards) ≡ 0 → count_by (is_of id) (cond b (card ∷ cards) (from mark cards)) ≡ 0
      by true rest = none
      by false rest = rest

    pub mark_else : (mark : Option ItemId) (cards : List Card) → count_by (is_of id) cards ≡ 0 → IsMark bounds old mark cards → IsMark bounds new mark cards
    mark_else None cards none is = tt
    mark_else (Some mark) cards none is = (is.0, fixed_else (from mark cards) (none_from mark cards none) is.1)

  -- a card is changed where it is, and its item can't move more than before
  module _ (old new : ItemMap) (more : FixesMore old new) (id : ItemId) (change : Card → Card) (same : (card : Card) → (change card).item ≡ card.item) where
    change_item : (card : Card) (b : Bool) → (cond b (change card) card).item ≡ card.item
    change_item card true = same card
    change_item card false = refl

    fixed_changed : (cards : List Card) → AreFixed bounds old cards → AreFixed bounds new (with_change id change cards)
    fixed_changed [] fixed = tt
    fixed_changed (card ∷ cards) fixed = (
      subst (λ (i : ItemId). IsFixed bounds new i.key) (sym (change_item card (is_of id card))) (more card.item.key fixed.0),
      fixed_changed cards fixed.1,
    )

    test_changed : (mark : ItemId) (card : Card) → is_of mark (cond (is_of id card) (change card) card) ≡ is_of mark card
    test_changed mark card = ap (λ (i : ItemId). eqb i.key mark.key) (change_item card (is_of id card))

    mark_of_changed : (mark : ItemId) (cards : List Card) → IsMark bounds old (Some mark) cards → IsMark bounds new (Some mark) (with_change id change cards)
    mark_of_changed mark [] is = absurd (omega (arith, is.0))
    mark_of_changed mark (card ∷ cards) is = by (is_of mark card) refl (mark_of_changed mark cards) where
      by : (b : Bool) → is_of mark card ≡ b → (IsMark bounds old (Some mark) cards → IsMark bounds new (Some mark) (with_change id change cards))
          → IsMark bounds new (Some mark) (cond (is_of id card) (change card) card ∷ with_change id change cards)
      by true e rest =
          let here = test_changed mark card ∙ e in
          let first = cond (is_of id card) (change card) card in
          let others = with_change id change cards in
          let fixed : AreFixed bounds old (card ∷ cards) = subst (λ t. AreFixed bounds old (cond t (card ∷ cards) (from mark cards))) e is.1 in (
            omega (arith, count_first mark first others true here),
            subst (λ t. AreFixed bounds new (cond t (first ∷ others) (from mark others))) (sym here) (fixed_changed (card ∷ cards) fixed),
          )
      by false e rest =
          let here = test_changed mark card ∙ e in
          let first = cond (is_of id card) (change card) card in
          let others = with_change id change cards in
          let less = rest (
            omega (arith, is.0, count_first mark card cards false e),
            subst (λ t. AreFixed bounds old (cond t (card ∷ cards) (from mark cards))) e is.1,
          ) in (
            in_more mark first others less.0,
            subst (λ t. AreFixed bounds new (cond t (first ∷ others) (from mark others))) (sym here) less.1,
          )

    pub mark_changed : (mark : Option ItemId) (cards : List Card) → IsMark bounds old mark cards → IsMark bounds new mark (with_change id change cards)
    mark_changed None cards is = tt
    mark_changed (Some mark) cards is = mark_of_changed mark cards is

-- a list without an item's card has none of it
pub none_without : (id : ItemId) (cards : List Card) → count_by (is_of id) (without id cards) ≡ 0
none_without id [] = refl
none_without id (card ∷ cards) = by (is_of id card) refl (none_without id cards) where
  by : (b : Bool) → is_of id card ≡ b → count_by (is_of id) (without id cards) ≡ 0 → count_by (is_of id) (cond (not b) (card ∷ without id cards) (without id cards)) ≡ 0
  by true e rest = rest
  by false e rest = omega (arith, rest, count_first id card (without id cards) false e)

-- a segment's list after a card moved to a front: without the card, or with it at the front
pub list_moved : (to segment : Segment) (id : ItemId) (size : ℕ) (lists : SegmentLists)
    → (list_of segment (moved to id size lists) ≡ idle id size ∷ without id (list_of segment lists)) ⊎ (list_of segment (moved to id size lists) ≡ without id (list_of segment lists))
list_moved Hot Hot id size lists = inl refl
list_moved Hot Warm id size lists = inr refl
list_moved Hot Cold id size lists = inr refl
list_moved Warm Hot id size lists = inr refl
list_moved Warm Warm id size lists = inl refl
list_moved Warm Cold id size lists = inr refl
list_moved Cold Hot id size lists = inr refl
list_moved Cold Warm id size lists = inr refl
list_moved Cold Cold id size lists = inl refl

pub list_removed : (segment : Segment) (id : ItemId) (lists : SegmentLists) → list_of segment (removed id lists) ≡ without id (list_of segment lists)
list_removed Hot id lists = refl
list_removed Warm id lists = refl
list_removed Cold id lists = refl

pub list_changed : (segment : Segment) (id : ItemId) (change : Card → Card) (lists : SegmentLists) → list_of segment (changed id change lists) ≡ with_change id change (list_of segment lists)
list_changed Hot id change lists = refl
list_changed Warm id change lists = refl
list_changed Cold id change lists = refl

-- a mark of the list without the card is one after the move
pub mark_moved : (bounds : MoveBounds) (items : ItemMap) (mark : Option ItemId) (to segment : Segment) (id : ItemId) (size : ℕ) (lists : SegmentLists)
    → IsMark bounds items mark (without id (list_of segment lists)) → IsMark bounds items mark (list_of segment (moved to id size lists))
mark_moved bounds items mark to segment id size lists is = elim (list_moved to segment id size lists) [
  | inl front ↦ subst (λ l. IsMark bounds items mark l) (sym front)
      (mark_front bounds items mark (idle id size) (without id (list_of segment lists)) (none_without id (list_of segment lists)) is)
  | inr rest ↦ subst (λ l. IsMark bounds items mark l) (sym rest) is
]
