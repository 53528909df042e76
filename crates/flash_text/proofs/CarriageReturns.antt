-- One carriage return at a line's end.
use Rattle.std.proofs.Common.{◌≡◌, ◌≢◌, ℕ, Bool, true, false, ◌==◌, List, [], ◌∷◌, ◌++◌, Option, None, Some, MatchOption, Bor, if◌then◌else◌, refl, sym, ◌∙◌, ap, arith}
use Rattle.std.specs.Option.{unwrap_or}
use Rattle.std.proofs.lemmas.Bool.Decides.{nat_tests}
use Rattle.flash_text.specs.Words.{without_return}

-- it is dropped
dropped : (front : List ℕ) → without_return (front ++ 13 ∷ []) ≡ front
dropped [] = refl
dropped (b ∷ []) = refl
dropped (b ∷ c ∷ cs) = ap (λ (bytes : List ℕ). b ∷ bytes) (dropped (c ∷ cs))

last_by : (b : ℕ) (test : Bool) → (b == 13) ≡ test → b ∷ [] ≢ 13 ∷ [] → (if test then [] else b ∷ []) ≡ b ∷ []
last_by b true is other = let same : b ≡ 13 = grind (arith, nat_tests) in absurd (other (ap (λ (n : ℕ). n ∷ []) same))
last_by b false is other = refl

-- another end stays
kept : (line : List ℕ) → ((front : List ℕ) → line ≢ front ++ 13 ∷ []) → without_return line ≡ line
kept [] other = refl
kept (b ∷ []) other = last_by b (b == 13) refl (other [])
kept (b ∷ c ∷ cs) other =
    ap (λ (bytes : List ℕ). b ∷ bytes) (kept (c ∷ cs) (λ front is. other (b ∷ front) (ap (λ (bytes : List ℕ). b ∷ bytes) is)))

-- the line before that suffix, or the whole line where it has another
pub stripped : (line : Bor (List ℕ)) (front : Option (Bor (List ℕ))) → MatchOption front ((xs : List ℕ) → line.now ≢ xs ++ 13 ∷ []) (λ x. line.now ≡ x.now ++ 13 ∷ []) → (unwrap_or front line).now ≡ without_return line.now
stripped line None other = sym (kept line.now other)
stripped line (Some front) is = sym (ap without_return is ∙ dropped front.now)
