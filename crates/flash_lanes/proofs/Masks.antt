-- The masks of comparisons of lanes, and the plain tests that they are equal to.
use Rattle.std.proofs.Common.{◌≡◌, ℕ, ◌+◌, ◌-◌, ◌*◌, ◌%◌, ◌^◌, ◌<◌, Bool, true, false, cond, not, nat_eq, nat_lt, nat_le, eq-eqb, List, [], ◌∷◌, map, length, refl, sym, ap, ◌∙◌, arith}
use mir.Syntax.{w8}
use mir.Val.{bits}
use Rattle.std.specs.Prelude.{◌&&◌}
use Rattle.std.specs.Simd.Lanes.{mask_l, zip2, top}
use Rattle.std.specs.List.{list_all}
use Rattle.std.specs.Int.{bit_at}
use Rattle.std.proofs.lemmas.Bool.Decides.{nat_tests}
use Rattle.std.proofs.lemmas.Bool.{eqb-true}
use Rattle.std.proofs.lemmas.List.{get_or-map, length-map}
use Rattle.std.proofs.lemmas.Simd.{bit_mask_l, tops_compared, mask_l-mod, mask_l-lt, length-zip2}
use Rattle.flash_lanes.specs.KeyBytes.{is_key_byte}
use Rattle.flash_lanes.specs.Tags.{mask_of_tag, has_tag}

-- a mask is 0 where its first bit is and the others are
bit_more : (b : Bool) (m : ℕ) (r : Bool) → nat_eq m 0 ≡ r → nat_eq (cond b 1 0 + 2 * m) 0 ≡ (not b && r)
bit_more true m r is = grind (arith, nat_tests)
bit_more false m r is = grind (arith, nat_tests)

pub none_set : (p : ℕ → Bool) (xs : List ℕ) → nat_eq (mask_l (map p xs)) 0 ≡ list_all (λ x. not (p x)) xs
none_set p [] = refl
none_set p (x ∷ xs) = bit_more (p x) (mask_l (map p xs)) (list_all (λ y. not (p y)) xs) (none_set p xs)

paired : (a b r s : Bool) → ((a && r) && (b && s)) ≡ ((a && b) && (r && s))
paired true true r s = refl
paired true false true s = refl
paired true false false s = refl
paired false b r s = refl

above : (x : ℕ) → nat_lt 32 x ≡ not (nat_le x 32)
above x = grind (arith, nat_tests)

pub key_bytes : (xs : List ℕ) → (list_all (λ x. not (nat_le x 32)) xs && list_all (λ x. not (nat_eq x 127)) xs) ≡ list_all is_key_byte xs
key_bytes [] = refl
key_bytes (x ∷ xs) =
    paired (not (nat_le x 32)) (not (nat_eq x 127)) (list_all (λ y. not (nat_le y 32)) xs) (list_all (λ y. not (nat_eq y 127)) xs)
    ∙ ap (λ (b : Bool). (not (nat_le x 32) && not (nat_eq x 127)) && b) (key_bytes xs)
    ∙ ap (λ (b : Bool). (b && not (nat_eq x 127)) && list_all is_key_byte xs) (sym (above x))

pub tag_mask : (tags : List ℕ) (tag : ℕ) → mask_l (map (λ x. nat_eq x tag) tags) ≡ mask_of_tag tags tag
tag_mask [] tag = refl
tag_mask (other ∷ tags) tag = ap (λ (m : ℕ). cond (nat_eq other tag) 1 0 + 2 * m) (tag_mask tags tag)

pub tag_bit : (tags : List ℕ) (tag i : ℕ) → i < length tags → bit_at (mask_l (map (λ x. nat_eq x tag) tags)) i ≡ has_tag tags tag i
tag_bit tags tag i inside =
    bit_mask_l (map (λ x. nat_eq x tag) tags) i
    ∙ ap (λ (b : Bool). cond b 1 0) (get_or-map (λ x. nat_eq x tag) tags i 0 false inside)

pub fits_16 : (p : ℕ → Bool) (xs : List ℕ) → length xs ≡ 16 → mask_l (map p xs) < 2 ^ 16
fits_16 p xs long = let many : length (map p xs) ≡ 16 = length-map xs p ∙ long in rw many at (mask_l-lt (map p xs))

-- ---- two blocks

abbrev differs : ℕ → ℕ → Bool
differs x y = not (nat_eq x y)

first_bit : (b : Bool) (m : ℕ) → nat_eq (cond (not b) 1 0 + 2 * m) 0 ≡ true → (b ≡ true) × (nat_eq m 0 ≡ true)
first_bit true m is = (refl, grind (arith, nat_tests))
first_bit false m is = absurd (grind (arith, nat_tests, is))

equal_from_mask : (xs ys : List ℕ) → length xs ≡ length ys → nat_eq (mask_l (zip2 differs xs ys)) 0 ≡ true → xs ≡ ys
equal_from_mask [] [] long none = refl
equal_from_mask [] (y ∷ ys) long none = absurd (omega arith)
equal_from_mask (x ∷ xs) [] long none = absurd (omega arith)
equal_from_mask (x ∷ xs) (y ∷ ys) long none =
    let bits = first_bit (nat_eq x y) (mask_l (zip2 differs xs ys)) none in
    let first : x ≡ y = eqb-true x y bits.0 in
    let rest : xs ≡ ys = equal_from_mask xs ys (omega arith) bits.1 in
    cc

mask_of_equal : (xs : List ℕ) → mask_l (zip2 differs xs xs) ≡ 0
mask_of_equal [] = refl
mask_of_equal (x ∷ xs) =
    ap (λ (b : Bool). cond (not b) 1 0 + 2 * mask_l (zip2 differs xs xs)) (eq-eqb x x refl) ∙ omega (arith, mask_of_equal xs)

-- what the comparison of two blocks computes
abbrev pub block_mask : List ℕ → List ℕ → ℕ
block_mask xs ys = mask_l (map (top 7) (zip2 (λ x y. cond (differs x y) (2 ^ bits w8 - 1) 0) xs ys)) % 2 ^ 64

mask_is : (xs ys : List ℕ) → length xs ≡ 16 → length ys ≡ 16 → block_mask xs ys ≡ mask_l (zip2 differs xs ys)
mask_is xs ys long as_long =
    ap (λ (ms : List Bool). mask_l ms % 2 ^ 64) (tops_compared w8 differs xs ys)
    ∙ mask_l-mod (zip2 differs xs ys) 64 (omega (arith, length-zip2 differs xs ys (long ∙ sym as_long)))

pub same_from : (xs ys : List ℕ) → length xs ≡ 16 → length ys ≡ 16 → nat_eq (block_mask xs ys) 0 ≡ true → xs ≡ ys
same_from xs ys long as_long none =
    equal_from_mask xs ys (long ∙ sym as_long) (ap (λ (m : ℕ). nat_eq m 0) (sym (mask_is xs ys long as_long)) ∙ none)

pub same_to : (xs ys : List ℕ) → length xs ≡ 16 → length ys ≡ 16 → xs ≡ ys → nat_eq (block_mask xs ys) 0 ≡ true
same_to xs ys long as_long same =
    ap (λ (m : ℕ). nat_eq m 0) (mask_is xs ys long as_long ∙ ap (λ (zs : List ℕ). mask_l (zip2 differs xs zs)) (sym same) ∙ mask_of_equal xs)
