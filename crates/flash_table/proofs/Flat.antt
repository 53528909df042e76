-- Indexes in lists that lie behind one another.
use Rattle.std.proofs.Common.{◌≡◌, ℕ, zero, suc, ◌+◌, ◌-◌, ◌*◌, ◌<◌, ◌≤◌, List, [], ◌∷◌, ◌++◌, length, get_or, set, length-append, ◌⊎◌, inl, inr, refl, sym, ap, ◌∙◌, arith}
use Rattle.std.proofs.Math.ListN.{get_or-append}
use Rattle.std.proofs.lemmas.List.{get_or-append_right, set-append_left, set-append_right, append_assoc, append-nil}
use Rattle.std.proofs.lemmas.Bool.Decides.{nat_tests}
use Rattle.flash_table.specs.Flat.{flat, AreWhole}

pub either : (a b : ℕ) → (a < b) ⊎ (b ≤ a)
either a b = grind (arith, nat_tests)

module _ {X : Type 0} where
  -- inside a list the default doesn't matter
  pub any_default : (xs : List X) (k : ℕ) (d e : X) → k < length xs → get_or xs k d ≡ get_or xs k e
  any_default [] k d e inside = absurd (omega arith)
  any_default (x ∷ xs) zero d e inside = refl
  any_default (x ∷ xs) (suc k) d e inside = any_default xs k d e (omega arith)

  -- how many elements are in front of list h
  pub offset : List (List X) → ℕ → ℕ
  offset [] h = 0
  offset (xs ∷ rest) zero = 0
  offset (xs ∷ rest) (suc h) = length xs + offset rest h

  pub flat_at : (xss : List (List X)) (h i : ℕ) (d : X) → h < length xss → i < length (get_or xss h []) → get_or (flat xss) (offset xss h + i) d ≡ get_or (get_or xss h []) i d
  unfolding offset
  flat_at [] h i d inside within = absurd (omega arith)
  flat_at (xs ∷ rest) zero i d inside within =
      let e : 0 + i ≡ i = omega arith in ap (λ (k : ℕ). get_or (xs ++ flat rest) k d) e ∙ get_or-append xs (flat rest) d i within
  flat_at (xs ∷ rest) (suc h) i d inside within =
      let e : length xs + offset rest h + i - length xs ≡ offset rest h + i = omega arith in
      get_or-append_right xs (flat rest) (length xs) (length xs + offset rest h + i) d refl (omega arith)
      ∙ ap (λ (k : ℕ). get_or (flat rest) k d) e
      ∙ flat_at rest h i d (omega arith) within

  pub flat_set : (xss : List (List X)) (h i : ℕ) (x : X) → h < length xss → i < length (get_or xss h []) → flat (set xss h (set (get_or xss h []) i x)) ≡ set (flat xss) (offset xss h + i) x
  unfolding offset
  flat_set [] h i x inside within = absurd (omega arith)
  flat_set (xs ∷ rest) zero i x inside within =
      let e : 0 + i ≡ i = omega arith in sym (ap (λ (k : ℕ). set (xs ++ flat rest) k x) e ∙ set-append_left xs (flat rest) i x within)
  flat_set (xs ∷ rest) (suc h) i x inside within =
      let e : length xs + offset rest h + i - length xs ≡ offset rest h + i = omega arith in
      sym (set-append_right xs (flat rest) (length xs) (length xs + offset rest h + i) x refl (omega arith)
      ∙ ap (λ (k : ℕ). xs ++ set (flat rest) k x) e
      ∙ ap (λ (ys : List X). xs ++ ys) (sym (flat_set rest h i x (omega arith) within)))

  pub flat_inside : (xss : List (List X)) (h i : ℕ) → h < length xss → i < length (get_or xss h []) → offset xss h + i < length (flat xss)
  unfolding offset
  flat_inside [] h i inside within = absurd (omega arith)
  flat_inside (xs ∷ rest) zero i inside within = omega (arith, length-append xs (flat rest))
  flat_inside (xs ∷ rest) (suc h) i inside within = omega (arith, length-append xs (flat rest), flat_inside rest h i (omega arith) within)

  pub offset_set : (xss : List (List X)) (h : ℕ) (ys : List X) (other : ℕ) → h < length xss → length ys ≡ length (get_or xss h []) → offset (set xss h ys) other ≡ offset xss other
  unfolding offset
  offset_set [] h ys other inside long = absurd (omega arith)
  offset_set (xs ∷ rest) zero ys zero inside long = refl
  offset_set (xs ∷ rest) zero ys (suc other) inside long = ap (λ (n : ℕ). n + offset rest other) long
  offset_set (xs ∷ rest) (suc h) ys zero inside long = refl
  offset_set (xs ∷ rest) (suc h) ys (suc other) inside long = ap (λ (n : ℕ). length xs + n) (offset_set rest h ys other (omega arith) long)

  -- the list and the index in it that a flat index stands for
  pub record IsWhere (xss : List (List X)) (k h i : ℕ) : Type 0 where
    pub list : h < length xss
    pub inside : i < length (get_or xss h [])
    pub sum : k ≡ offset xss h + i

  in_first : (xs : List X) (rest : List (List X)) (k : ℕ) → k < length xs → (h : ℕ) × (i : ℕ) × IsWhere (xs ∷ rest) k h i
  unfolding offset
  in_first xs rest k low = (0, k, record { list = omega arith; inside = low; sum = omega arith })

  in_rest : (xs : List X) (rest : List (List X)) (k : ℕ) → length xs ≤ k → (h : ℕ) × (i : ℕ) × IsWhere rest (k - length xs) h i → (h : ℕ) × (i : ℕ) × IsWhere (xs ∷ rest) k h i
  unfolding offset
  in_rest xs rest k high at =
      let is = at.2 in
      (suc at.0, at.1, record { list = omega (arith, is.list); inside = is.inside; sum = omega (arith, is.sum) })

  pub located : (xss : List (List X)) (k : ℕ) → k < length (flat xss) → (h : ℕ) × (i : ℕ) × IsWhere xss k h i
  located [] k inside = absurd (omega arith)
  located (xs ∷ rest) k inside =
      elim (either k (length xs)) [
        | inl low ↦ in_first xs rest k low
        | inr high ↦ in_rest xs rest k high (located rest (k - length xs) (omega (arith, length-append xs (flat rest))))
      ]

  pub flat_push : (xss : List (List X)) (xs : List X) → flat (xss ++ xs ∷ []) ≡ flat xss ++ xs
  flat_push [] xs = append-nil xs
  flat_push (ys ∷ rest) xs = ap (λ (zs : List X). ys ++ zs) (flat_push rest xs) ∙ sym (append_assoc ys (flat rest) xs)

  -- ---- lists of sixteen

  pub whole_offset : (xss : List (List X)) (g : ℕ) → AreWhole xss → g ≤ length xss → offset xss g ≡ g * 16
  unfolding offset
  whole_offset [] g whole inside = omega arith
  whole_offset (xs ∷ rest) zero whole inside = refl
  whole_offset (xs ∷ rest) (suc g) whole inside = omega (arith, whole.0, whole_offset rest g whole.1 (omega arith))

  pub whole_at : (xss : List (List X)) (g : ℕ) → AreWhole xss → g < length xss → length (get_or xss g []) ≡ 16
  whole_at [] g whole inside = absurd (omega arith)
  whole_at (xs ∷ rest) zero whole inside = whole.0
  whole_at (xs ∷ rest) (suc g) whole inside = whole_at rest g whole.1 (omega arith)

  pub whole_set : (xss : List (List X)) (g : ℕ) (ys : List X) → AreWhole xss → length ys ≡ 16 → AreWhole (set xss g ys)
  whole_set [] g ys whole long = tt
  whole_set (xs ∷ rest) zero ys whole long = (long, whole.1)
  whole_set (xs ∷ rest) (suc g) ys whole long = (whole.0, whole_set rest g ys whole.1 long)

  pub whole_push : (xss : List (List X)) (ys : List X) → AreWhole xss → length ys ≡ 16 → AreWhole (xss ++ ys ∷ [])
  whole_push [] ys whole long = (long, tt)
  whole_push (xs ∷ rest) ys whole long = (whole.0, whole_push rest ys whole.1 long)

  pub whole_length : (xss : List (List X)) → AreWhole xss → length (flat xss) ≡ length xss * 16
  whole_length [] whole = refl
  whole_length (xs ∷ rest) whole = omega (arith, whole.0, whole_length rest whole.1, length-append xs (flat rest))
