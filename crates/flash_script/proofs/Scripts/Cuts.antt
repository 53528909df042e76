-- Bytes that are cut at a byte.
use Rattle.std.proofs.Common.{◌≡◌, ℕ, ◌+◌, Bool, true, false, ◌==◌, List, [], ◌∷◌, ◌++◌, length, drop, take, Option, None, Some, if◌then◌else◌, refl, sym, ◌∙◌, ap, arith, append_assoc, length-append, drop_at, take_at}
use Rattle.std.specs.Option.{option_map}
use Rattle.std.proofs.lemmas.Bool.Decides.{nat_tests}
use Rattle.flash_names.specs.Cut.{cut_at}

-- the two parts of a cut
abbrev parts_of : Option (List ℕ × List ℕ) → List ℕ × List ℕ
parts_of None = ([], [])
parts_of (Some parts) = parts

-- a byte before the first part
abbrev with_front : ℕ → List ℕ × List ℕ → List ℕ × List ℕ
with_front b parts = (b ∷ parts.0, parts.1)

-- a byte before bytes that are cut
joins_by : (c b : ℕ) (bytes front rest : List ℕ) (test : Bool) (cut : Option (List ℕ × List ℕ)) → (b == c) ≡ test
    → (if test then Some ([], bytes) else option_map (with_front b) cut) ≡ Some (front, rest)
    → ((f r : List ℕ) → cut ≡ Some (f, r) → bytes ≡ f ++ c ∷ r) → b ∷ bytes ≡ front ++ c ∷ rest
joins_by c b bytes front rest true cut is found more =
    let same : b ≡ c = grind (arith, nat_tests) in
    let fronts : [] ≡ front = ap (λ (o : Option (List ℕ × List ℕ)). (parts_of o).0) found in
    let rests : bytes ≡ rest = ap (λ (o : Option (List ℕ × List ℕ)). (parts_of o).1) found in
    ap (λ (x : ℕ). x ∷ bytes) same ∙ ap (λ (r : List ℕ). c ∷ r) rests ∙ ap (λ (f : List ℕ). f ++ c ∷ rest) fronts
joins_by c b bytes front rest false None is found more = absurd (cc found)
joins_by c b bytes front rest false (Some parts) is found more =
    let fronts : b ∷ parts.0 ≡ front = ap (λ (o : Option (List ℕ × List ℕ)). (parts_of o).0) found in
    let rests : parts.1 ≡ rest = ap (λ (o : Option (List ℕ × List ℕ)). (parts_of o).1) found in
    ap (λ (xs : List ℕ). b ∷ xs) (more parts.0 parts.1 refl) ∙ ap (λ (r : List ℕ). (b ∷ parts.0) ++ c ∷ r) rests
    ∙ ap (λ (f : List ℕ). f ++ c ∷ rest) fronts

-- bytes that are cut are their parts, with the byte between
pub cut_joins : (c : ℕ) (bytes front rest : List ℕ) → cut_at c bytes ≡ Some (front, rest) → bytes ≡ front ++ c ∷ rest
cut_joins c [] front rest found = absurd (cc found)
cut_joins c (b ∷ bytes) front rest found = joins_by c b bytes front rest (b == c) (cut_at c bytes) refl found (cut_joins c bytes)

module _ (c : ℕ) (bytes front rest : List ℕ) (cut : cut_at c bytes ≡ Some (front, rest)) where
  -- the first part with the byte, and the second one
  parts : bytes ≡ (front ++ c ∷ []) ++ rest
  parts = cut_joins c bytes front rest cut ∙ sym (append_assoc front (c ∷ []) rest)

  -- the number of the bytes
  pub cut_length : length bytes ≡ length front + 1 + length rest
  cut_length = omega (arith, ap length parts, length-append (front ++ c ∷ []) rest, length-append front (c ∷ []))

  -- what is behind the byte
  pub cut_behind : drop (length front + 1) bytes ≡ rest
  cut_behind = ap (drop (length front + 1)) parts ∙ drop_at (front ++ c ∷ []) rest (length front + 1) (length-append front (c ∷ []))

  -- what is before the byte, with it
  pub cut_front : take (length front + 1) bytes ≡ front ++ c ∷ []
  cut_front = ap (take (length front + 1)) parts ∙ take_at (front ++ c ∷ []) rest (length front + 1) (length-append front (c ∷ []))

  -- what is before the byte
  pub cut_before : take (length front) bytes ≡ front
  cut_before = ap (take (length front)) (cut_joins c bytes front rest cut) ∙ take_at front (c ∷ rest) (length front) refl
