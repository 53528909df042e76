-- The sum of the sizes of numbers.
use Rattle.std.proofs.Common.{◌≡◌, ℕ, ◌+◌, ◌*◌, ◌≤◌, List, [], ◌∷◌, ◌++◌, length, refl, ap, inl, inr, arith}
use Rattle.std.proofs.lemmas.Bool.{cases_eq}
use Rattle.std.proofs.lemmas.List.Sums.{sum_by-cons}
use Rattle.flash_lru.specs.declared.node.Node.{Node}
use Rattle.flash_lru.specs.declared.card.Card.{Card}
use Rattle.flash_lru.specs.Juggle.{bytes}
use Rattle.flash_lru.specs.Ring.{count_of, card_at, cards_at, size_of, weight}
use Rattle.flash_lru.proofs.Lists.{other_than, other_than_here, other_than_else, count_here, count_else, count_none}

pub bytes_is : (nodes : List Node) (xs : List ℕ) → bytes (cards_at nodes xs) ≡ weight nodes xs
bytes_is nodes [] = refl
bytes_is nodes (y ∷ ys) = omega (arith, sum_by-cons (λ (c : Card). c.size) (card_at nodes y) (cards_at nodes ys), bytes_is nodes ys)

pub weight_same : (old new : List Node) (x : ℕ) (xs : List ℕ) → ((u : ℕ) → (u ≡ x → ⊥) → size_of new u ≡ size_of old u) → count_of x xs ≡ 0 → weight new xs ≡ weight old xs
weight_same old new x [] same none = refl
weight_same old new x (y ∷ ys) same none =
    let parts = count_none x y ys none in
    omega (arith, same y parts.0, weight_same old new x ys same parts.1)

pub weight_other : (nodes : List Node) (x : ℕ) (xs : List ℕ) → weight nodes (other_than x xs) + count_of x xs * size_of nodes x ≡ weight nodes xs
weight_other nodes x [] = omega arith
weight_other nodes x (y ∷ ys) = elim (cases_eq y x) [
  | inl e ↦
      (let parts : (1 + count_of x ys) * size_of nodes x ≡ size_of nodes x + count_of x ys * size_of nodes x = grind arith in
      let times : count_of x (y ∷ ys) * size_of nodes x ≡ (1 + count_of x ys) * size_of nodes x = ap (λ k. k * size_of nodes x) (count_here x y ys e) in
      omega (arith, weight_other nodes x ys, ap (weight nodes) (other_than_here x y ys e), times, parts, ap (size_of nodes) e))
  | inr n ↦
      (let times : count_of x (y ∷ ys) * size_of nodes x ≡ count_of x ys * size_of nodes x = ap (λ k. k * size_of nodes x) (count_else x y ys n) in
      omega (arith, weight_other nodes x ys, ap (weight nodes) (other_than_else x y ys n), times))
]

pub weight_below : (nodes : List Node) (b : ℕ) (xs : List ℕ) → ((u : ℕ) → size_of nodes u ≤ b) → weight nodes xs ≤ length xs * b
weight_below nodes b [] small = omega arith
weight_below nodes b (y ∷ ys) small =
    let parts : (1 + length ys) * b ≡ b + length ys * b = grind arith in
    omega (arith, small y, weight_below nodes b ys small, parts)

-- one size is changed
pub weight_changed : (old new : List Node) (x : ℕ) (xs : List ℕ) → ((u : ℕ) → (u ≡ x → ⊥) → size_of new u ≡ size_of old u) → weight new xs + count_of x xs * size_of old x ≡ weight old xs + count_of x xs * size_of new x
weight_changed old new x [] same = omega arith
weight_changed old new x (y ∷ ys) same =
    let rest : weight new ys + count_of x ys * size_of old x ≡ weight old ys + count_of x ys * size_of new x = weight_changed old new x ys same in
    elim (cases_eq y x) [
      | inl e ↦
          (let was : (1 + count_of x ys) * size_of old x ≡ size_of old x + count_of x ys * size_of old x = grind arith in
          let is : (1 + count_of x ys) * size_of new x ≡ size_of new x + count_of x ys * size_of new x = grind arith in
          let first : count_of x (y ∷ ys) * size_of old x ≡ (1 + count_of x ys) * size_of old x = ap (λ k. k * size_of old x) (count_here x y ys e) in
          let second : count_of x (y ∷ ys) * size_of new x ≡ (1 + count_of x ys) * size_of new x = ap (λ k. k * size_of new x) (count_here x y ys e) in
          omega (arith, rest, was, is, first, second, ap (size_of old) e, ap (size_of new) e))
      | inr n ↦
          (let first : count_of x (y ∷ ys) * size_of old x ≡ count_of x ys * size_of old x = ap (λ k. k * size_of old x) (count_else x y ys n) in
          let second : count_of x (y ∷ ys) * size_of new x ≡ count_of x ys * size_of new x = ap (λ k. k * size_of new x) (count_else x y ys n) in
          omega (arith, rest, first, second, same y n))
    ]

pub weight_append : (nodes : List Node) (xs ys : List ℕ) → weight nodes (xs ++ ys) ≡ weight nodes xs + weight nodes ys
weight_append nodes [] ys = omega arith
weight_append nodes (x ∷ xs) ys = omega (arith, weight_append nodes xs ys)
