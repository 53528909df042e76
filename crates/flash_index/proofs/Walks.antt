-- The search of a list from its last card, by the ids of the cards.
use Rattle.std.proofs.Common.{◌≡◌, ℕ, ◌+◌, Bool, true, false, cond, List, [], ◌∷◌, length, count_by, Option, Some, None, option_map, refl, sym, ◌∙◌, ap, subst, arith, eq-eqb, eqb-true}
use Rattle.std.specs.Prelude.{◌<◌, ◌≤◌, ◌&&◌, not}
use Rattle.std.specs.List.{AllByRecursion}
use Rattle.std.specs.Option.{option_or}
use Rattle.std.specs.FinMap.{get}
use Rattle.std.proofs.lemmas.List.Sums.{sum_by-cons}
use Rattle.flash_names.specs.declared.place.ItemId.{ItemId}
use Rattle.flash_lru.specs.declared.segment.Segment.{Segment}
use Rattle.flash_lru.specs.declared.segment.Segment.TheVariants.{Hot, Warm, Cold}
use Rattle.flash_lru.specs.declared.card.Card.{Card}
use Rattle.flash_lru.specs.Card.{is_of}
use Rattle.flash_lru.specs.Lists.{SegmentLists, list_of, cards_of}
use Rattle.flash_lru.specs.Ends.{last_item, before_from, before}
use Rattle.flash_items.specs.declared.item.Item.{Item}
use Rattle.flash_items.specs.declared.item.Parts.{Parts}
use Rattle.flash_items.specs.Item.{with_key}
use Rattle.flash_items.specs.ItemsState.{ItemMap, ItemsState, HasItem, IsAt}
use Rattle.flash_items.specs.Law.{IsInStep}
use Rattle.flash_machine.specs.Live.{is_expired_item}
use Rattle.flash_index.specs.declared.move_rule.MoveRule.{MoveRule}
use Rattle.flash_index.specs.Known.{known_item, known_parts}
use Rattle.flash_index.specs.declared.move_rule.MoveBounds.{MoveBounds}
use Rattle.flash_index.specs.NextToMove.{cache_at, bounds_of, can_move, may_move}
use Rattle.flash_index.specs.Walk.{last_passing, up_to, item_before, is_moving, card_may_move}
use Rattle.flash_index.specs.Marking.{is_movable, IsFixed, AreFixed, from, IsMark}
use Rattle.flash_index.proofs.Lookups.{none_some}

-- the item has a card in the list
abbrev pub IsIn : ItemId → List Card → Type 0
IsIn id cards = 0 < count_by (is_of id) cards

-- each item has one card at most in the list
abbrev pub AreOnce : List Card → Type 0
AreOnce cards = (id : ItemId) → count_by (is_of id) cards ≤ 1

pub count_first : (id : ItemId) (card : Card) (cards : List Card) (b : Bool) → is_of id card ≡ b → count_by (is_of id) (card ∷ cards) ≡ cond b 1 0 + count_by (is_of id) cards
count_first id card cards b e = sum_by-cons (λ (c : Card). cond (is_of id c) 1 0) card cards ∙ ap (λ t. cond t 1 0 + count_by (is_of id) cards) e

pub once_rest : (card : Card) (cards : List Card) → AreOnce (card ∷ cards) → AreOnce cards
once_rest card cards once id = omega (arith, once id, count_first id card cards (is_of id card) refl)

pub in_more : (id : ItemId) (card : Card) (cards : List Card) → IsIn id cards → IsIn id (card ∷ cards)
in_more id card cards inside = omega (arith, inside, count_first id card cards (is_of id card) refl)

-- a card is of one item
pub same_item : (id : ItemId) (card : Card) → is_of id card ≡ true → card.item ≡ id
same_item id card e = ap (λ k. let i : ItemId = record { key = k } in i) (eqb-true card.item.key id.key e)

itself : (card : Card) → is_of card.item card ≡ true
itself card = eq-eqb card.item.key card.item.key refl

in_first : (card : Card) (cards : List Card) → IsIn card.item (card ∷ cards)
in_first card cards = omega (arith, count_first card.item card cards true (itself card))

-- an item of the rest isn't that of the first card
pub apart_first : (id : ItemId) (card : Card) (cards : List Card) → AreOnce (card ∷ cards) → IsIn id cards → is_of id card ≡ false
apart_first id card cards once inside = by (is_of id card) refl where
  by : (b : Bool) → is_of id card ≡ b → b ≡ false
  by true e = absurd (omega (arith, inside, once id, count_first id card cards true e))
  by false e = refl

up_to_first : (id : ItemId) (card : Card) (cards : List Card) → is_of id card ≡ true → up_to (Some id) (card ∷ cards) ≡ card ∷ []
up_to_first id card cards e = ap (λ b. cond b (card ∷ []) (card ∷ up_to (Some id) cards)) e

up_to_rest : (id : ItemId) (card : Card) (cards : List Card) → is_of id card ≡ false → up_to (Some id) (card ∷ cards) ≡ card ∷ up_to (Some id) cards
up_to_rest id card cards e = ap (λ b. cond b (card ∷ []) (card ∷ up_to (Some id) cards)) e

-- the last item has a card
pub last_in : (cards : List Card) (id : ItemId) → last_item cards ≡ Some id → IsIn id cards
last_in [] id is = absurd (none_some id is)
last_in (card ∷ []) id is =
    let same : card.item ≡ id = cc in subst (λ i. IsIn i (card ∷ [])) same (in_first card [])
last_in (card ∷ next ∷ cards) id is = in_more id card (next ∷ cards) (last_in (next ∷ cards) id is)

last_some : (card : Card) (cards : List Card) → (id : ItemId) × (last_item (card ∷ cards) ≡ Some id)
last_some card [] = (card.item, refl)
last_some card (next ∷ cards) = last_some next cards

-- up to the last item there are all cards
pub up_to_last : (cards : List Card) → AreOnce cards → up_to (last_item cards) cards ≡ cards
up_to_last [] once = refl
up_to_last (card ∷ []) once = up_to_first card.item card [] (itself card)
up_to_last (card ∷ next ∷ cards) once =
    let last = last_some next cards in
    ap (λ o. up_to o (card ∷ next ∷ cards)) last.1
    ∙ up_to_rest last.0 card (next ∷ cards) (apart_first last.0 card (next ∷ cards) once (last_in (next ∷ cards) last.0 last.1))
    ∙ ap (λ l. card ∷ l) (sym (ap (λ o. up_to o (next ∷ cards)) last.1) ∙ up_to_last (next ∷ cards) (once_rest card (next ∷ cards) once))

kept_some : (p q : Option ItemId) (x y : ItemId) → p ≡ option_or q (Some y) → p ≡ option_or p (Some x)
kept_some p None x y e = e ∙ ap (λ o. option_or o (Some x)) (sym e)
kept_some p (Some z) x y e = e ∙ ap (λ o. option_or o (Some x)) (sym e)

-- the card before the list is before the first card alone
pub before_or : (x id : ItemId) (cards : List Card) → IsIn id cards → before_from (Some x) id cards ≡ option_or (before_from None id cards) (Some x)
before_or x id [] inside = absurd (omega (arith, inside))
before_or x id (card ∷ cards) inside = by (is_of id card) refl (before_or card.item id cards) where
  by : (b : Bool) → is_of id card ≡ b → (IsIn id cards → before_from (Some card.item) id cards ≡ option_or (before_from None id cards) (Some card.item))
      → cond b (Some x) (before_from (Some card.item) id cards) ≡ option_or (cond b None (before_from (Some card.item) id cards)) (Some x)
  by true e more = refl
  by false e more =
      kept_some (before_from (Some card.item) id cards) (before_from None id cards) x card.item
      (more (omega (arith, inside, count_first id card cards false e)))

-- no card is before that of an item that isn't in the list
none_before : (id : ItemId) (previous : Option ItemId) (cards : List Card) → count_by (is_of id) cards ≡ 0 → before_from previous id cards ≡ None
none_before id previous [] none = refl
none_before id previous (card ∷ cards) none = by (is_of id card) refl (none_before id (Some card.item) cards) where
  by : (b : Bool) → is_of id card ≡ b → (count_by (is_of id) cards ≡ 0 → before_from (Some card.item) id cards ≡ None) → cond b previous (before_from (Some card.item) id cards) ≡ None
  by true e more = absurd (omega (arith, none, count_first id card cards true e))
  by false e more = more (omega (arith, none, count_first id card cards false e))

module _ (test : Card → Bool) where
  -- from an item's card the search goes on at the card before it
  pub record Steps (id : ItemId) (cards : List Card) (previous : Option ItemId) : Type 0 where
    pub same : last_passing test (up_to (Some id) cards) ≡ last_passing test (up_to previous cards)
    pub shorter : length (up_to previous cards) < length (up_to (Some id) cards)
    pub inside : (other : ItemId) → previous ≡ Some other → IsIn other cards

  first_steps : (id : ItemId) (card : Card) (cards : List Card) → is_of id card ≡ true → test card ≡ false → Steps id (card ∷ cards) None
  first_steps id card cards is fails =
      let one = up_to_first id card cards is in
      record {
        same = ap (last_passing test) one ∙ ap (λ b. cond b (Some card) None) fails;
        shorter = omega (arith, ap (λ (l : List Card). length l) one);
        inside = λ other none. absurd (none_some other none);
      }

  rest_steps : (id : ItemId) (card : Card) (cards : List Card) → AreOnce (card ∷ cards) → is_of id card ≡ false → (previous : Option ItemId) → Steps id cards previous → Steps id (card ∷ cards) (option_or previous (Some card.item))
  rest_steps id card cards once else None steps =
      let here = up_to_rest id card cards else in
      let one = up_to_first card.item card cards (itself card) in
      record {
        same =
            ap (last_passing test) here ∙ ap (λ o. option_or o (cond (test card) (Some card) None)) steps.same
            ∙ sym (ap (last_passing test) one);
        shorter = omega (
          arith,
          steps.shorter,
          ap (λ (l : List Card). length l) here,
          ap (λ (l : List Card). length l) one,
        );
        inside = λ other is. (let same : card.item ≡ other = cc in subst (λ i. IsIn i (card ∷ cards)) same (in_first card cards));
      }
  rest_steps id card cards once else (Some previous) steps =
      let here = up_to_rest id card cards else in
      let there = steps.inside previous refl in
      let more = up_to_rest previous card cards (apart_first previous card cards once there) in
      record {
        same =
            ap (last_passing test) here ∙ ap (λ o. option_or o (cond (test card) (Some card) None)) steps.same
            ∙ sym (ap (last_passing test) more);
        shorter = omega (
          arith,
          steps.shorter,
          ap (λ (l : List Card). length l) here,
          ap (λ (l : List Card). length l) more,
        );
        inside = λ other is. (let same : previous ≡ other = cc in subst (λ i. IsIn i (card ∷ cards)) same (in_more previous card cards there));
      }

  -- the item's card doesn't pass
  abbrev pub Fails : ItemId → Type 0
  Fails id = (card : Card) → is_of id card ≡ true → test card ≡ false

  pub steps_on : (id : ItemId) (cards : List Card) → AreOnce cards → IsIn id cards → Fails id → Steps id cards (before_from None id cards)
  steps_on id [] once inside fails = absurd (omega (arith, inside))
  steps_on id (card ∷ cards) once inside fails = by (is_of id card) refl (steps_on id cards (once_rest card cards once)) where
    by : (b : Bool) → is_of id card ≡ b → (IsIn id cards → Fails id → Steps id cards (before_from None id cards)) → Steps id (card ∷ cards) (cond b None (before_from (Some card.item) id cards))
    by true e more = first_steps id card cards e (fails card e)
    by false e more =
        let rest : IsIn id cards = omega (arith, inside, count_first id card cards false e) in
        subst (λ o. Steps id (card ∷ cards) o) (sym (before_or card.item id cards rest))
        (rest_steps id card cards once e (before_from None id cards) (more rest fails))

  found_first : (id : ItemId) (p q : Option Card) → option_map (λ (card : Card). card.item) p ≡ Some id → option_map (λ (card : Card). card.item) (option_or p q) ≡ Some id
  found_first id None q is = absurd (none_some id is)
  found_first id (Some card) q is = is

  -- an item's card that passes is the last one up to it
  pub found_at : (id : ItemId) (cards : List Card) → IsIn id cards → ((card : Card) → is_of id card ≡ true → test card ≡ true)
      → option_map (λ (card : Card). card.item) (last_passing test (up_to (Some id) cards)) ≡ Some id
  found_at id [] inside passes = absurd (omega (arith, inside))
  found_at id (card ∷ cards) inside passes = by (is_of id card) refl (found_at id cards) where
    by : (b : Bool) → is_of id card ≡ b
        → (IsIn id cards → ((c : Card) → is_of id c ≡ true → test c ≡ true) → option_map (λ (c : Card). c.item) (last_passing test (up_to (Some id) cards)) ≡ Some id)
        → option_map (λ (c : Card). c.item) (last_passing test (cond b (card ∷ []) (card ∷ up_to (Some id) cards))) ≡ Some id
    by true e more =
        ap (λ t. option_map (λ (c : Card). c.item) (cond t (Some card) None)) (passes card e)
        ∙ ap (λ i. Some i) (same_item id card e)
    by false e more =
        found_first id (last_passing test (up_to (Some id) cards)) _
        (more (omega (arith, inside, count_first id card cards false e)) passes)

  -- no card from the item's on passes
  abbrev pub AllFail : List Card → Type 0
  AllFail cards = AllByRecursion (λ card. test card ≡ false) cards

  none_passes : (cards : List Card) → AllFail cards → last_passing test cards ≡ None
  none_passes [] fail = refl
  none_passes (card ∷ cards) fail =
      ap (λ o. option_or o (cond (test card) (Some card) None)) (none_passes cards fail.1) ∙ ap (λ b. cond b (Some card) None) fail.0

  -- then the search may begin at the item's card
  pub skips : (id : ItemId) (cards : List Card) → IsIn id cards → AllFail (from id cards) → last_passing test cards ≡ last_passing test (up_to (Some id) cards)
  skips id [] inside fail = absurd (omega (arith, inside))
  skips id (card ∷ cards) inside fail = by (is_of id card) refl (skips id cards) where
    by : (b : Bool) → is_of id card ≡ b → (IsIn id cards → AllFail (from id cards) → last_passing test cards ≡ last_passing test (up_to (Some id) cards))
        → last_passing test (card ∷ cards) ≡ last_passing test (cond b (card ∷ []) (card ∷ up_to (Some id) cards))
    by true e more =
        let all : AllFail (card ∷ cards) = subst (λ t. AllFail (cond t (card ∷ cards) (from id cards))) e fail in
        none_passes (card ∷ cards) all ∙ sym (ap (λ b. cond b (Some card) None) all.0)
    by false e more =
        ap (λ o. option_or o (cond (test card) (Some card) None))
        (more (omega (arith, inside, count_first id card cards false e)) (subst (λ t. AllFail (cond t (card ∷ cards) (from id cards))) e fail))

or_none : {A : Type 0} (o : Option A) → option_or o None ≡ o
or_none None = refl
or_none (Some x) = refl

-- the card before an item's is the one before it in its list
pub before_in : (id : ItemId) (lists : SegmentLists) (segment : Segment) → cards_of id lists ≤ 1 → IsIn id (list_of segment lists) → before id lists ≡ before_from None id (list_of segment lists)
before_in id lists Hot once inside =
    let warm = none_before id None lists.warm (omega (arith, once, inside)) in
    let cold = none_before id None lists.cold (omega (arith, once, inside)) in
    ap (option_or (before_from None id lists.hot)) (λ i. option_or (warm i) (cold i)) ∙ or_none (before_from None id lists.hot)
before_in id lists Warm once inside =
    let hot = none_before id None lists.hot (omega (arith, once, inside)) in
    let cold = none_before id None lists.cold (omega (arith, once, inside)) in
    (λ i. option_or (hot i) (option_or (before_from None id lists.warm) (cold i))) ∙ or_none (before_from None id lists.warm)
before_in id lists Cold once inside =
    let hot = none_before id None lists.hot (omega (arith, once, inside)) in
    let warm = none_before id None lists.warm (omega (arith, once, inside)) in
    λ i. option_or (hot i) (option_or (warm i) (before_from None id lists.cold))

pub once_in : (lists : SegmentLists) (segment : Segment) → ((id : ItemId) → cards_of id lists ≤ 1) → AreOnce (list_of segment lists)
once_in lists Hot once id = omega (arith, once id)
once_in lists Warm once id = omega (arith, once id)
once_in lists Cold once id = omega (arith, once id)

-- an item of a list is there
pub there_in : (s : ItemsState) (step : IsInStep s) (segment : Segment) (id : ItemId) → IsIn id (list_of segment s.lists) → HasItem s id
there_in s step Hot id inside = (step.carded id).0 (omega (arith, inside))
there_in s step Warm id inside = (step.carded id).0 (omega (arith, inside))
there_in s step Cold id inside = (step.carded id).0 (omega (arith, inside))

-- the search goes on from a card, if there is one, behind which none passes
pub record Begins (test : Card → Bool) (list : List Card) (next : Option ItemId) : Type 0 where
  pub same : last_passing test list ≡ last_passing test (up_to next list)
  pub inside : (id : ItemId) → next ≡ Some id → IsIn id list

-- the item of a mark can't move
mark_fixed : (bounds : MoveBounds) (items : ItemMap) (mark : ItemId) (cards : List Card) → IsMark bounds items (Some mark) cards → IsFixed bounds items mark.key
mark_fixed bounds items mark [] is = absurd (omega (arith, is.0))
mark_fixed bounds items mark (card ∷ cards) is = by (is_of mark card) refl (mark_fixed bounds items mark cards) where
  by : (b : Bool) → is_of mark card ≡ b → (IsMark bounds items (Some mark) cards → IsFixed bounds items mark.key) → IsFixed bounds items mark.key
  by true e more =
      let all : AreFixed bounds items (card ∷ cards) = subst (λ t. AreFixed bounds items (cond t (card ∷ cards) (from mark cards))) e is.1 in
      subst (λ (i : ItemId). IsFixed bounds items i.key) (same_item mark card e) all.0
  by false e more = more (
    omega (arith, is.0, count_first mark card cards false e),
    subst (λ t. AreFixed bounds items (cond t (card ∷ cards) (from mark cards))) e is.1,
  )

-- the search of the items of a segment
module _ (s : ItemsState) (step : IsInStep s) (rule : MoveRule) (segment : Segment) where
  abbrev pub list : List Card
  list = list_of segment s.lists

  abbrev pub test : Card → Bool
  test = card_may_move rule s.items

  once : AreOnce list
  once = once_in s.lists segment step.once

  -- an item that can't move may not
  fixed_stays : (o : Option Item) → is_movable (bounds_of rule) o ≡ false → is_moving rule o ≡ false
  fixed_stays None fixed = refl
  fixed_stays (Some item) fixed = by (not (is_expired_item (cache_at rule) (known_item item))) (can_move (bounds_of rule) item.key (known_item item)) fixed where
    by : (a b : Bool) → b ≡ false → (a && b) ≡ false
    by true b e = e
    by false b e = refl

  all_stay : (cards : List Card) → AreFixed (bounds_of rule) s.items cards → AllFail test cards
  all_stay [] fixed = tt
  all_stay (card ∷ cards) fixed = (fixed_stays (get s.items card.item.key) fixed.0, all_stay cards fixed.1)

  -- the search begins before the mark
  pub begins : (mark next : Option ItemId) → IsMark (bounds_of rule) s.items mark list → next ≡ item_before mark list → Begins test list next
  begins None next is at = record {
    same = sym (ap (last_passing test) (ap (λ o. up_to o list) at ∙ up_to_last list once));
    inside = λ id some. last_in list id (sym at ∙ some);
  }
  begins (Some mark) next is at =
      let fixed = mark_fixed (bounds_of rule) s.items mark list is in
      let fails : Fails test mark = λ card e. ap (λ (i : ItemId). is_moving rule (get s.items i.key)) (same_item mark card e) ∙ fixed_stays (get s.items mark.key) fixed in
      let steps = steps_on test mark list once is.0 fails in
      record {
        same = skips test mark list is.0 (all_stay (from mark list) is.1) ∙ steps.same ∙ ap (λ o. last_passing test (up_to o list)) (sym at);
        inside = λ id some. steps.inside id (sym at ∙ some);
      }

  -- at the card of an item that is lent
  module _ (id : ItemId) (own : List ℕ) (parts : Parts) (at : IsAt s id (with_key own parts)) (inside : IsIn id list) where
    tested : (card : Card) → is_of id card ≡ true → test card ≡ may_move rule own (known_parts (length own) parts)
    tested card is = ap (λ k. is_moving rule (get s.items k)) (eqb-true card.item.key id.key is) ∙ ap (is_moving rule) at

    pub found_here : (next : Option ItemId) → next ≡ Some id → may_move rule own (known_parts (length own) parts) ≡ true → last_passing test list ≡ last_passing test (up_to next list)
        → Some id ≡ option_map (λ (card : Card). card.item) (last_passing test list)
    found_here next is moves same =
        sym (ap (option_map (λ (card : Card). card.item)) (same ∙ ap (λ o. last_passing test (up_to o list)) is)
        ∙ found_at test id list inside (λ card e. tested card e ∙ moves))

    pub goes_on : (previous : Option ItemId) → previous ≡ before id s.lists → may_move rule own (known_parts (length own) parts) ≡ false → Steps test id list previous
    goes_on previous is stays =
        subst (λ o. Steps test id list o) (sym (is ∙ before_in id s.lists segment (step.once id) inside))
        (steps_on test id list once inside (λ card e. tested card e ∙ stays))
