-- The queue without a slot, and how often a slot is in it.
use Rattle.std.proofs.Common.{◌≡◌, ℕ, zero, suc, ◌+◌, ◌<◌, ◌≤◌, Bool, true, false, cond, not, eqb, List, [], ◌∷◌, ◌++◌, length, get_or, Option, None, Some, sym, ap, ◌∙◌, refl, arith, eq-eqb}
use Rattle.std.specs.Prelude.{find, position, remove, slice_index}
use Rattle.std.specs.List.{position_or_len}
use Rattle.std.specs.Option.{option_to_list}
use Rattle.std.proofs.lemmas.Bool.Decides.{nat_tests}
use Rattle.std.proofs.lemmas.List.Quantifiers.{position-Some}
use Rattle.std.proofs.lemmas.Bool.{ne_eqb, false≢true}
use borrow.Author.Tests.{eqb-true}
use Rattle.flash_io.specs.Queue.{without, count_of}

-- where the first that passes is taken out, it is found, and the queue is without it
taken : (p : ℕ → Bool) (xs : List ℕ) (i : ℕ) → i < length xs → p (get_or xs i 0) ≡ true → ((k : ℕ) → k < i → p (get_or xs k 0) ≡ false) → (find p xs ≡ Some (get_or xs i 0)) × (remove xs i ≡ without (get_or xs i 0) xs)
taken p [] i within pass before = absurd (omega arith)
taken p (x ∷ xs) zero within pass before =
    let same : eqb x x ≡ true = eq-eqb x x refl in
    (rw pass refl, rw same refl)
taken p (x ∷ xs) (suc i) within pass before =
    let fails : p x ≡ false = before 0 (omega arith) in
    let other : eqb x (get_or xs i 0) ≡ false = ne_eqb _ _ (λ same. false≢true (sym fails ∙ ap p same ∙ pass)) in
    let rest = taken p xs i (omega arith) pass (λ k below. before (suc k) (omega arith)) in
    (rw fails rest.0, rw other (ap (λ r. x ∷ r) rest.1))

none_passes : (p : ℕ → Bool) (xs : List ℕ) → length xs ≤ position_or_len p xs → find p xs ≡ None
none_passes p [] long = refl
none_passes p (x ∷ xs) long =
    elim (p x) as (λ b. length xs + 1 ≤ cond (not b) (1 + position_or_len p xs) 0 → cond b (Some x) (find p xs) ≡ None) [
      | true ↦ λ h. absurd (omega arith)
      | false ↦ λ h. none_passes p xs (omega arith)
    ] (omega (arith, long))

-- where none passes, none is found
pub find-absent : (p : ℕ → Bool) (xs : List ℕ) → position p xs ≡ None → find p xs ≡ None
find-absent p xs e = none_passes p xs (grind (arith, nat_tests))

-- a queue that lacks the slot is the same without it
pub without-absent : (slot : ℕ) (xs : List ℕ) → find (λ other. eqb other slot) xs ≡ None → without slot xs ≡ xs
without-absent slot [] e = refl
without-absent slot (x ∷ xs) e =
    elim (eqb x slot) as (λ b. cond b (Some x) (find (λ other. eqb other slot) xs) ≡ None → cond b xs (x ∷ without slot xs) ≡ x ∷ xs) [
      | true ↦ λ none. absurd (cc)
      | false ↦ λ none. ap (λ r. x ∷ r) (without-absent slot xs none)
    ] e

-- the slot at the index is the first in the queue that passes
pub record IsFirst (p : ℕ → Bool) (queue : List ℕ) (index : ℕ) : Type 0 where
  pub inside : index < length queue
  pub found : find p queue ≡ Some (slice_index queue index)
  pub left : remove queue index ≡ without (slice_index queue index) queue

-- what `position` says of the queue
pub is_first : (p : ℕ → Bool) (xs : List ℕ) (i : ℕ) → position p xs ≡ Some i → IsFirst p xs i
is_first p xs i e =
    let h = position-Some p xs i 0 e in
    let both = taken p xs i h.0 h.1 h.2 in
    record { inside = h.0; found = both.0; left = both.1 }

-- what is left once the slot was found and taken out
pub left-slot : (slot : ℕ) (xs : List ℕ) (i : ℕ) → position (λ other. eqb other slot) xs ≡ Some i → remove xs i ≡ without slot xs
left-slot slot xs i e =
    let h = position-Some (λ other. eqb other slot) xs i 0 e in
    (is_first (λ other. eqb other slot) xs i e).left ∙ ap (λ x. without x xs) (eqb-true _ slot h.1)

-- a slot that isn't there can't be taken out
pub without-zero : (slot : ℕ) (xs : List ℕ) → count_of slot xs ≡ 0 → without slot xs ≡ xs
without-zero slot [] e = refl
without-zero slot (x ∷ xs) e =
    elim (eqb x slot) as (λ b. cond b 1 0 + count_of slot xs ≡ 0 → cond b xs (x ∷ without slot xs) ≡ x ∷ xs) [
      | true ↦ λ h. absurd (omega arith)
      | false ↦ λ h. ap (λ r. x ∷ r) (without-zero slot xs (omega arith))
    ] e

-- the queue is without its first slot once that was taken
pub popped : (xs left : List ℕ) (r : Option ℕ) (slot : ℕ) → xs ≡ option_to_list r ++ left → r ≡ Some slot → left ≡ without slot xs
popped xs left r slot e is =
    let whole : xs ≡ slot ∷ left = e ∙ ap (λ o. option_to_list o ++ left) is in
    let same : eqb slot slot ≡ true = eq-eqb slot slot refl in
    rw (whole, same) refl

-- it was in the queue
pub count-popped : (xs left : List ℕ) (r : Option ℕ) (slot : ℕ) → xs ≡ option_to_list r ++ left → r ≡ Some slot → 0 < count_of slot xs
count-popped xs left r slot e is =
    let whole : xs ≡ slot ∷ left = e ∙ ap (λ o. option_to_list o ++ left) is in
    let same : eqb slot slot ≡ true = eq-eqb slot slot refl in
    rw (whole, same) (omega arith)

-- a queue in which no slot is
pub nothing-counted : (xs : List ℕ) → ((slot : ℕ) → count_of slot xs ≡ 0) → xs ≡ []
nothing-counted [] none = refl
nothing-counted (x ∷ xs) none =
    let h : cond (eqb x x) 1 0 + count_of x xs ≡ 0 = none x in
    let same : eqb x x ≡ true = eq-eqb x x refl in
    absurd (let g = rw same at h in omega (arith, g))
