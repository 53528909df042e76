-- The last bytes of a line.
use Rattle.std.proofs.Common.{◌≡◌, ◌≢◌, ℕ, Bool, true, false, ◌==◌, List, [], ◌∷◌, ◌++◌, if◌then◌else◌, refl, ap, arith}
use Rattle.std.proofs.lemmas.Bool.Decides.{nat_tests}
use Rattle.flash_text.specs.Words.{unless_last, to_word}

-- a space at the end is left out
pub left_out : (front : List ℕ) → to_word (front ++ 32 ∷ []) ≡ to_word front
left_out [] = refl
left_out (b ∷ front) = ap (unless_last b) (left_out front)

last_by : (b : ℕ) (test : Bool) → (b == 32) ≡ test → b ∷ [] ≢ 32 ∷ [] → (if test then [] else b ∷ []) ≡ b ∷ []
last_by b true is other = let same : b ≡ 32 = grind (arith, nat_tests) in absurd (other (ap (λ (n : ℕ). n ∷ []) same))
last_by b false is other = refl

-- another end stays
pub kept : (line : List ℕ) → ((front : List ℕ) → line ≢ front ++ 32 ∷ []) → to_word line ≡ line
kept [] other = refl
kept (b ∷ []) other = last_by b (b == 32) refl (other [])
kept (b ∷ c ∷ cs) other =
    ap (unless_last b) (kept (c ∷ cs) (λ front is. other (b ∷ front) (ap (λ (bytes : List ℕ). b ∷ bytes) is)))
