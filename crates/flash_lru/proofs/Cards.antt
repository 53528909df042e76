-- The cards of numbers: without one, with one changed, and how many are an item's.
use Rattle.std.proofs.Common.{◌≡◌, ℕ, ◌+◌, ◌-◌, ◌<◌, ◌≤◌, true, false, cond, not, eqb, List, [], ◌∷◌, count_by, refl, sym, ◌∙◌, ap, subst, inl, inr, arith, eq-eqb, ne_eqb}
use Rattle.std.proofs.lemmas.Bool.{cases_eq, cases_lt}
use Rattle.std.proofs.lemmas.List.Sums.{sum_by-cons}
use Rattle.flash_names.specs.declared.place.ItemId.{ItemId}
use Rattle.flash_lru.specs.declared.node.Node.{Node}
use Rattle.flash_lru.specs.declared.card.Card.{Card}
use Rattle.flash_lru.specs.Card.{is_of}
use Rattle.flash_lru.specs.Moves.{without, with_change}
use Rattle.flash_lru.specs.Ring.{count_of, card_at, cards_at}
use Rattle.flash_lru.proofs.Lists.{other_than, other_than_here, other_than_else, count_here, count_else, count_none}

-- none of the numbers is an end's
abbrev pub NoEnds : List ℕ → Type 0
NoEnds xs = (u : ℕ) → u < 3 → count_of u xs ≡ 0

pub first_above : (y : ℕ) (ys : List ℕ) → NoEnds (y ∷ ys) → 3 ≤ y
first_above y ys none = elim (cases_lt y 3) [
  | inl low ↦ absurd (omega (arith, none y low, count_here y y ys refl))
  | inr high ↦ high
]

pub rest_above : (y : ℕ) (ys : List ℕ) → NoEnds (y ∷ ys) → NoEnds ys
rest_above y ys none = λ u low. (count_none u y ys (none u low)).1

-- the card of a number is the item's where the number is
pub card_here : (key y : ℕ) → y ≡ key + 3 → eqb (y - 3) key ≡ true
card_here key y e = eq-eqb (y - 3) key (omega arith)

pub card_else : (key y : ℕ) → 3 ≤ y → (y ≡ key + 3 → ⊥) → eqb (y - 3) key ≡ false
card_else key y above n = ne_eqb (y - 3) key (λ e. n (omega arith))

pub cards_other : (nodes : List Node) (item : ItemId) (xs : List ℕ) → NoEnds xs → cards_at nodes (other_than (item.key + 3) xs) ≡ without item (cards_at nodes xs)
cards_other nodes item [] none = refl
cards_other nodes item (y ∷ ys) none = elim (cases_eq y (item.key + 3)) [
  | inl e ↦
      (let here : eqb (y - 3) item.key ≡ true = card_here item.key y e in
      ap (cards_at nodes) (other_than_here (item.key + 3) y ys e) ∙ cards_other nodes item ys (rest_above y ys none)
      ∙ sym (ap (λ b. cond (not b) (card_at nodes y ∷ without item (cards_at nodes ys)) (without item (cards_at nodes ys))) here))
  | inr n ↦
      (let else : eqb (y - 3) item.key ≡ false = card_else item.key y (first_above y ys none) n in
      ap (cards_at nodes) (other_than_else (item.key + 3) y ys n)
      ∙ ap (λ l. card_at nodes y ∷ l) (cards_other nodes item ys (rest_above y ys none))
      ∙ sym (ap (λ b. cond (not b) (card_at nodes y ∷ without item (cards_at nodes ys)) (without item (cards_at nodes ys))) else))
]

pub count_cards : (nodes : List Node) (item : ItemId) (xs : List ℕ) → NoEnds xs → count_by (is_of item) (cards_at nodes xs) ≡ count_of (item.key + 3) xs
count_cards nodes item [] none = refl
count_cards nodes item (y ∷ ys) none =
    let step = sum_by-cons (λ (c : Card). cond (is_of item c) 1 0) (card_at nodes y) (cards_at nodes ys) in
    let rest : count_by (is_of item) (cards_at nodes ys) ≡ count_of (item.key + 3) ys = count_cards nodes item ys (rest_above y ys none) in
    elim (cases_eq y (item.key + 3)) [
      | inl e ↦
          (let one : ℕ = 1 in
          let here : cond (eqb (y - 3) item.key) one 0 ≡ one = ap (λ b. cond b one 0) (card_here item.key y e) in
          omega (arith, step, rest, here, count_here (item.key + 3) y ys e))
      | inr n ↦
          (let one : ℕ = 1 in
          let zero : ℕ = 0 in
          let else : cond (eqb (y - 3) item.key) one zero ≡ zero = ap (λ b. cond b one zero) (card_else item.key y (first_above y ys none) n) in
          omega (arith, step, rest, else, count_else (item.key + 3) y ys n))
    ]

-- the cards are as they were, where each of theirs is
pub cards_same : (old new : List Node) (x : ℕ) (xs : List ℕ) → ((u : ℕ) → (u ≡ x → ⊥) → card_at new u ≡ card_at old u) → count_of x xs ≡ 0 → cards_at new xs ≡ cards_at old xs
cards_same old new x [] same none = refl
cards_same old new x (y ∷ ys) same none =
    let parts = count_none x y ys none in
    ap (λ c. c ∷ cards_at new ys) (same y parts.0) ∙ ap (λ l. card_at old y ∷ l) (cards_same old new x ys same parts.1)

-- one card is changed, wherever it is
pub cards_changed : (old new : List Node) (item : ItemId) (change : Card → Card) (xs : List ℕ) → ((u : ℕ) → (u ≡ item.key + 3 → ⊥) → card_at new u ≡ card_at old u) → card_at new (item.key + 3) ≡ change (card_at old (item.key + 3)) → NoEnds xs → cards_at new xs ≡ with_change item change (cards_at old xs)
cards_changed old new item change [] same there none = refl
cards_changed old new item change (y ∷ ys) same there none =
    let rest : cards_at new ys ≡ with_change item change (cards_at old ys) = cards_changed old new item change ys same there (rest_above y ys none) in
    elim (cases_eq y (item.key + 3)) [
      | inl e ↦
          (let here : eqb (y - 3) item.key ≡ true = card_here item.key y e in
          let this : card_at new y ≡ change (card_at old y) = subst (λ k. card_at new k ≡ change (card_at old k)) (sym e) there in
          ap (λ l. card_at new y ∷ l) rest ∙ ap (λ c. c ∷ with_change item change (cards_at old ys)) this
          ∙ sym (ap (λ b. cond b (change (card_at old y)) (card_at old y) ∷ with_change item change (cards_at old ys)) here))
      | inr n ↦
          (let else : eqb (y - 3) item.key ≡ false = card_else item.key y (first_above y ys none) n in
          ap (λ l. card_at new y ∷ l) rest ∙ ap (λ c. c ∷ with_change item change (cards_at old ys)) (same y n)
          ∙ sym (ap (λ b. cond b (change (card_at old y)) (card_at old y) ∷ with_change item change (cards_at old ys)) else))
    ]
