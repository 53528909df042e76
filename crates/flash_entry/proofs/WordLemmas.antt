-- How many words a line has.
use Rattle.std.proofs.Common.{◌≡◌, ℕ, ◌+◌, ◌≤◌, Bool, true, false, ◌==◌, List, [], ◌∷◌, length, count_by, if◌then◌else◌, refl, sym, ◌∙◌, ap, arith}
use Rattle.std.proofs.lemmas.List.Sums.{sum_by-cons}
use Rattle.flash_names.specs.Words.{words, in_first}

length-in_first : (b : ℕ) (ws : List (List ℕ)) → 1 ≤ length ws → length (in_first b ws) ≡ length ws
length-in_first b [] some = absurd (omega arith)
length-in_first b (w ∷ ws) some = refl

count_space : (b : ℕ) (ws : List (List ℕ)) (n : ℕ) (space : Bool) → length ws ≡ 1 + n
    → length (if space then [] ∷ ws else in_first b ws) ≡ 1 + ((if space then 1 else 0) + n)
count_space b ws n true is = omega (arith, is)
count_space b ws n false is = omega (arith, is, length-in_first b ws (omega (arith, is)))

-- one more than its spaces
pub length-words : (bytes : List ℕ) → length (words bytes) ≡ 1 + count_by (λ b. b == 32) bytes
length-words [] = refl
length-words (b ∷ bytes) =
    count_space b (words bytes) (count_by (λ x. x == 32) bytes) (b == 32) (length-words bytes)
    ∙ ap (λ (n : ℕ). 1 + n) (sym (sum_by-cons (λ x. if x == 32 then 1 else 0) b bytes))
