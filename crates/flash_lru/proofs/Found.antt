-- The last card of a list, and the one before another, by their links.
use Rattle.std.proofs.Common.{◌≡◌, ℕ, ◌+◌, ◌-◌, ◌<◌, ◌≤◌, true, false, cond, eqb, ltb, List, [], ◌∷◌, Option, None, Some, refl, sym, ◌∙◌, ap, inl, inr, arith, lt-ltb, le-ltb}
use Rattle.std.specs.List.{last_or}
use Rattle.std.proofs.lemmas.Bool.{cases_eq}
use Rattle.flash_names.specs.declared.place.ItemId.{ItemId}
use Rattle.flash_lru.specs.declared.node.Node.{Node}
use Rattle.flash_lru.specs.Ends.{last_card, before_from}
use Rattle.flash_lru.specs.Ring.{next_of, prev_of, card_at, cards_at, item_of, some_card, count_of, Path}
use Rattle.flash_lru.proofs.Lists.{count_else, count_none}
use Rattle.flash_lru.proofs.Cards.{NoEnds, first_above, rest_above, card_here, card_else}

some_card_of : (nodes : List Node) (y : ℕ) → 3 ≤ y → some_card nodes y ≡ Some (card_at nodes y)
some_card_of nodes y above = let e : ltb y 3 ≡ false = le-ltb y 3 above in rw e refl

item_of_number : (y : ℕ) → 3 ≤ y → item_of y ≡ Some (record { key = y - 3 })
item_of_number y above = let e : ltb y 3 ≡ false = le-ltb y 3 above in rw e refl

last_from : (nodes : List Node) (a : ℕ) (xs : List ℕ) (z : ℕ) → NoEnds xs → Path (next_of nodes) (prev_of nodes) a xs z → last_or (some_card nodes a) (cards_at nodes xs) ≡ some_card nodes (prev_of nodes z)
last_from nodes a [] z none p = ap (some_card nodes) (sym p.1)
last_from nodes a (y ∷ ys) z none p =
    ap (λ o. last_or o (cards_at nodes ys)) (sym (some_card_of nodes y (first_above y ys none)))
    ∙ last_from nodes y ys z (rest_above y ys none) p.2

-- the last card of a list, by the link back from the end after it
pub last_is : (nodes : List Node) (a : ℕ) (xs : List ℕ) (z : ℕ) → a < 3 → NoEnds xs → Path (next_of nodes) (prev_of nodes) a xs z → last_card (cards_at nodes xs) ≡ some_card nodes (prev_of nodes z)
last_is nodes a xs z low none p =
    let e : ltb a 3 ≡ true = lt-ltb a 3 low in
    let start : some_card nodes a ≡ None = rw e refl in
    ap (λ o. last_or o (cards_at nodes xs)) (sym start) ∙ last_from nodes a xs z none p

-- the one before an item that is in the list, by its link, and before one that isn't
pub before_there : (nodes : List Node) (item : ItemId) (a : ℕ) (xs : List ℕ) (z : ℕ) → NoEnds xs → 0 < count_of (item.key + 3) xs → Path (next_of nodes) (prev_of nodes) a xs z → before_from (item_of a) item (cards_at nodes xs) ≡ item_of (prev_of nodes (item.key + 3))
before_there nodes item a [] z none some p = absurd (omega arith)
before_there nodes item a (y ∷ ys) z none some p = elim (cases_eq y (item.key + 3)) [
  | inl e ↦
      (let here : eqb (y - 3) item.key ≡ true = card_here item.key y e in
      ap (λ b. cond b (item_of a) (before_from (Some (card_at nodes y).item) item (cards_at nodes ys))) here
      ∙ ap item_of (sym p.1 ∙ ap (prev_of nodes) e))
  | inr n ↦
      (let else : eqb (y - 3) item.key ≡ false = card_else item.key y (first_above y ys none) n in
      ap (λ b. cond b (item_of a) (before_from (Some (card_at nodes y).item) item (cards_at nodes ys))) else
      ∙ ap (λ o. before_from o item (cards_at nodes ys)) (sym (item_of_number y (first_above y ys none)))
      ∙ before_there nodes item y ys z (rest_above y ys none) (omega (arith, count_else (item.key + 3) y ys n)) p.2)
]

pub before_absent : (nodes : List Node) (item : ItemId) (first : Option ItemId) (xs : List ℕ) → NoEnds xs → count_of (item.key + 3) xs ≡ 0 → before_from first item (cards_at nodes xs) ≡ None
before_absent nodes item first [] none absent = refl
before_absent nodes item first (y ∷ ys) none absent =
    let parts = count_none (item.key + 3) y ys absent in
    let else : eqb (y - 3) item.key ≡ false = card_else item.key y (first_above y ys none) parts.0 in
    ap (λ b. cond b first (before_from (Some (card_at nodes y).item) item (cards_at nodes ys))) else
    ∙ before_absent nodes item (Some (card_at nodes y).item) ys (rest_above y ys none) parts.1
