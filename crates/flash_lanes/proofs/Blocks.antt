-- Lists that are read in blocks of sixteen.
use Rattle.std.proofs.Common.{◌≡◌, ℕ, ◌+◌, ◌-◌, Bool, true, false, List, ◌++◌, take, drop, sym, ap, ◌∙◌, arith}
use Rattle.std.specs.Prelude.{◌&&◌}
use Rattle.std.specs.List.{list_all}
use Rattle.std.proofs.lemmas.List.Folds.{list_all-append}
use Rattle.std.proofs.lemmas.Simd.{chunk-drop}

-- the block at an index, as a slice has it
pub block_is : (at : ℕ) (xs : List ℕ) → take (at + 16 - at) (drop at xs) ≡ take 16 (drop at xs)
block_is at xs = let e : at + 16 - at ≡ 16 = omega arith in ap (λ (n : ℕ). take n (drop at xs)) e

split : (p : ℕ → Bool) (xs : List ℕ) (at : ℕ) → list_all p (drop at xs) ≡ (list_all p (take (at + 16 - at) (drop at xs)) && list_all p (drop (at + 16) xs))
split p xs at =
    ap (list_all p) (chunk-drop at 16 xs)
    ∙ list_all-append p (take 16 (drop at xs)) (drop (at + 16) xs)
    ∙ ap (λ (block : List ℕ). list_all p block && list_all p (drop (at + 16) xs)) (sym (block_is at xs))

pub goes_on : (p : ℕ → Bool) (xs : List ℕ) (at : ℕ) → list_all p (take (at + 16 - at) (drop at xs)) ≡ true → list_all p (drop (at + 16) xs) ≡ list_all p (drop at xs)
goes_on p xs at all = sym (split p xs at ∙ ap (λ (b : Bool). b && list_all p (drop (at + 16) xs)) all)

pub ends : (p : ℕ → Bool) (xs : List ℕ) (at : ℕ) → list_all p (take (at + 16 - at) (drop at xs)) ≡ false → list_all p (drop at xs) ≡ false
ends p xs at some = split p xs at ∙ ap (λ (b : Bool). b && list_all p (drop (at + 16) xs)) some

pub joined : (a b : List ℕ) (at : ℕ) → take (at + 16 - at) (drop at a) ≡ take (at + 16 - at) (drop at b) → drop (at + 16) a ≡ drop (at + 16) b → drop at a ≡ drop at b
joined a b at block rest =
    chunk-drop at 16 a
    ∙ ap (λ (front : List ℕ). front ++ drop (at + 16) a) (sym (block_is at a) ∙ block ∙ block_is at b)
    ∙ ap (λ (back : List ℕ). take 16 (drop at b) ++ back) rest
    ∙ sym (chunk-drop at 16 b)
