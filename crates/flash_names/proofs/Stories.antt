-- Stories that begin one another, and what belongs to one number.
use Rattle.std.proofs.Common.{◌≡◌, ℕ, ◌≢◌, ◌==◌, not, cond, Bool, true, false, List, [], ◌∷◌, ◌++◌, map, filter, sym, refl, ap, ◌∙◌, append_assoc, append-nil, Option, Some, None, ne_eqb, eq-eqb, ◌≤◌, length, arith}
use mathlib.Core.Logic.{dite}
use native.Mathlib.Decide.{ℕ_discrete}
use mathlib.Core.List.{IsPrefix}
use Rattle.flash_names.specs.Shared.{Begins, told_length, own_of, without}

pub begins_self : {E : Type 0} (a : Option (List E)) → Begins a a
begins_self None = tt
begins_self (Some xs) = ([], append-nil xs)

pub begins_trans : {E : Type 0} (a b c : Option (List E)) → Begins a b → Begins b c → Begins a c
begins_trans None None None p q = tt
begins_trans None None (Some zs) p q = absurd q
begins_trans None (Some ys) c p q = absurd p
begins_trans (Some xs) None c p q = absurd p
begins_trans (Some xs) (Some ys) None p q = absurd q
begins_trans (Some xs) (Some ys) (Some zs) p q = (p.0 ++ q.0, sym (append_assoc xs p.0 q.0) ∙ (ap (λ w. w ++ q.0) p.1 ∙ q.1))

module _ {O : Type 0} where
  own_cons : (b : Bool) (x : ℕ × O) (us vs : List (ℕ × O)) → map (λ (p : ℕ × O). p.1) us ≡ map (λ (p : ℕ × O). p.1) vs → map (λ (p : ℕ × O). p.1) (cond b (x ∷ us) us) ≡ map (λ (p : ℕ × O). p.1) (cond b (x ∷ vs) vs)
  own_cons true x us vs e = ap (λ zs. x.1 ∷ zs) e
  own_cons false x us vs e = e

  -- the things of m are among the pairs of all numbers but n
  pub own_of-without : (m n : ℕ) → m ≢ n → (own : List (ℕ × O)) → own_of m (without n own) ≡ own_of m own
  own_of-without m n ne [] = refl
  own_of-without m n ne (x ∷ xs) =
      let rest = without n xs in let mine = filter (λ (p : ℕ × O). p.0 == m) xs in
      dite (ℕ_discrete x.0 n)
      (λ e. ap (λ b. own_of m (cond (not b) (x ∷ rest) rest)) (eq-eqb x.0 n e) ∙ (own_of-without m n ne xs ∙ sym (ap (λ b. map (λ (p : ℕ × O). p.1) (cond b (x ∷ mine) mine)) (ne_eqb x.0 m (λ d. ne (sym d ∙ e))))))
      (λ n'. ap (λ b. own_of m (cond (not b) (x ∷ rest) rest)) (ne_eqb x.0 n n') ∙ own_cons (x.0 == m) x (filter (λ (p : ℕ × O). p.0 == m) rest) mine (own_of-without m n ne xs))

  -- where the pairs of all numbers but n are the same, so are the things of m
  pub own_kept : (m n : ℕ) → m ≢ n → (before after : List (ℕ × O)) → without n after ≡ without n before → own_of m after ≡ own_of m before
  own_kept m n ne before after same = sym (own_of-without m n ne after) ∙ (ap (own_of m) same ∙ own_of-without m n ne before)

-- of two beginnings of one list the shorter begins the longer
pub prefix_shorter : {A : Type 0} (xs ys zs : List A) → IsPrefix xs zs → IsPrefix ys zs → length xs ≤ length ys → IsPrefix xs ys
prefix_shorter [] ys zs p q le = (ys, refl)
prefix_shorter (x ∷ xs) [] zs p q le = absurd (omega arith)
prefix_shorter (x ∷ xs) (y ∷ ys) [] p q le = absurd (cc p.1)
prefix_shorter (x ∷ xs) (y ∷ ys) (z ∷ zs) p q le =
    let heads : x ≡ y = cc (p.1, q.1) in
    let rest = prefix_shorter xs ys zs (p.0, cc p.1) (q.0, cc q.1) (omega arith) in
    (rest.0, cc (heads, rest.1))

pub begins_shorter : {E : Type 0} (a b c : Option (List E)) → Begins a c → Begins b c → told_length a ≤ told_length b → Begins a b
begins_shorter None None None p q le = tt
begins_shorter None None (Some zs) p q le = absurd p
begins_shorter None (Some ys) None p q le = absurd q
begins_shorter None (Some ys) (Some zs) p q le = absurd p
begins_shorter (Some xs) b None p q le = absurd p
begins_shorter (Some xs) None (Some zs) p q le = absurd q
begins_shorter (Some xs) (Some ys) (Some zs) p q le = prefix_shorter xs ys zs p q le
