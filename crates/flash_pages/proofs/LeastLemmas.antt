-- The least of candidates is one of them, none has a lesser weight, and none before it has the same.
use Rattle.std.proofs.Common.{◌≡◌, ℕ, zero, suc, ◌+◌, ◌<◌, ◌≤◌, Bool, true, false, cond, nat_le, List, [], ◌∷◌, length, get_or, Option, None, Some, refl, ap, subst, arith}
use Rattle.std.proofs.lemmas.Bool.Decides.{nat_tests}
use Rattle.flash_pages.specs.declared.page_row.PageRow.{PageRow}
use Rattle.flash_pages.specs.declared.victims.Candidate.{Candidate}
use Rattle.flash_pages.specs.PageTable.{blank_row}
use Rattle.flash_pages.specs.Least.{lesser, least_from}

-- the row of number k, at i after n, is this candidate
abbrev pub Is : (ℕ → PageRow → Option Candidate) → ℕ → List PageRow → ℕ → Option Candidate → Type 0
Is candidate n rows i chosen = (k : ℕ) → k ≡ n + i → candidate k (get_or rows i blank_row) ≡ chosen

-- the candidate at i has the least weight, and is the first that has it
pub record IsFirstLeast (candidate : ℕ → PageRow → Option Candidate) (n : ℕ) (rows : List PageRow) (chosen : Candidate) (i : ℕ) : Type 0 where
  pub inside : i < length rows
  pub is : Is candidate n rows i (Some chosen)
  pub least : (j : ℕ) (other : Candidate) → j < length rows → Is candidate n rows j (Some other) → chosen.weight ≤ other.weight
  pub first : (j : ℕ) (other : Candidate) → j < i → Is candidate n rows j (Some other) → chosen.weight < other.weight

abbrev pub Chosen : (ℕ → PageRow → Option Candidate) → ℕ → List PageRow → Option Candidate → Type 0
Chosen candidate n rows None = (i : ℕ) → i < length rows → Is candidate n rows i None
Chosen candidate n rows (Some chosen) = (i : ℕ) × IsFirstLeast candidate n rows chosen i

-- what holds of a row after the first
behind : (candidate : ℕ → PageRow → Option Candidate) (n : ℕ) (row : PageRow) (rest : List PageRow) (i : ℕ) (chosen : Option Candidate) → Is candidate n (row ∷ rest) (suc i) chosen → Is candidate (n + 1) rest i chosen
behind candidate n row rest i chosen is = λ k at. is k (omega (arith, at))

before : (candidate : ℕ → PageRow → Option Candidate) (n : ℕ) (row : PageRow) (rest : List PageRow) (i : ℕ) (chosen : Option Candidate) → Is candidate (n + 1) rest i chosen → Is candidate n (row ∷ rest) (suc i) chosen
before candidate n row rest i chosen is = λ k at. is k (omega (arith, at))

-- the first row is what it is
here : (candidate : ℕ → PageRow → Option Candidate) (n : ℕ) (row : PageRow) (rest : List PageRow) (chosen : Option Candidate) → candidate n row ≡ chosen → Is candidate n (row ∷ rest) zero chosen
here candidate n row rest chosen is = λ k at. (let same : n ≡ k = omega (arith, at) in subst (λ (m : ℕ). candidate m row ≡ chosen) same is)

same : (candidate : ℕ → PageRow → Option Candidate) (n : ℕ) (row : PageRow) (rest : List PageRow) (one other : Candidate) → candidate n row ≡ Some one → Is candidate n (row ∷ rest) zero (Some other) → one ≡ other
same candidate n row rest one other is also = let at : candidate n row ≡ Some other = also n (omega arith) in cc

none_here : (candidate : ℕ → PageRow → Option Candidate) (n : ℕ) (row : PageRow) (rest : List PageRow) (other : Candidate) → candidate n row ≡ None → Is candidate n (row ∷ rest) zero (Some other) → ⊥
none_here candidate n row rest other is also = let at : candidate n row ≡ Some other = also n (omega arith) in cc

none_behind : (candidate : ℕ → PageRow → Option Candidate) (n : ℕ) (rows : List PageRow) (i : ℕ) (other : Candidate) → Is candidate n rows i None → Is candidate n rows i (Some other) → ⊥
none_behind candidate n rows i other is also =
    let at : candidate (n + i) (get_or rows i blank_row) ≡ Some other = also (n + i) refl in
    let none : candidate (n + i) (get_or rows i blank_row) ≡ None = is (n + i) refl in
    cc

-- the first row, where its weight is at most that of each after it
first_chosen : (candidate : ℕ → PageRow → Option Candidate) (n : ℕ) (row : PageRow) (rest : List PageRow) (one : Candidate) → candidate n row ≡ Some one → ((j : ℕ) (other : Candidate) → j < length rest → Is candidate (n + 1) rest j (Some other) → one.weight ≤ other.weight) → IsFirstLeast candidate n (row ∷ rest) one zero
first_chosen candidate n row rest one is behind_it = record {
  inside = omega arith;
  is = here candidate n row rest (Some one) is;
  least = least_here candidate n row rest one is behind_it;
  first = λ j other below at. absurd (omega (arith, below));
} where
  least_here : (candidate : ℕ → PageRow → Option Candidate) (n : ℕ) (row : PageRow) (rest : List PageRow) (one : Candidate) → candidate n row ≡ Some one → ((j : ℕ) (other : Candidate) → j < length rest → Is candidate (n + 1) rest j (Some other) → one.weight ≤ other.weight) → (j : ℕ) (other : Candidate) → j < length (row ∷ rest) → Is candidate n (row ∷ rest) j (Some other) → one.weight ≤ other.weight
  least_here candidate n row rest one is behind_it zero other inside at = omega (arith, ap (λ (c : Candidate). c.weight) (same candidate n row rest one other is at))
  least_here candidate n row rest one is behind_it (suc j) other inside at = behind_it j other (omega (arith, inside)) (behind candidate n row rest j (Some other) at)

-- a row after the first, where the first is none or has a greater weight
later_chosen : (candidate : ℕ → PageRow → Option Candidate) (n : ℕ) (row : PageRow) (rest : List PageRow) (chosen : Candidate) (i : ℕ) → ((other : Candidate) → candidate n row ≡ Some other → chosen.weight < other.weight) → IsFirstLeast candidate (n + 1) rest chosen i → IsFirstLeast candidate n (row ∷ rest) chosen (suc i)
later_chosen candidate n row rest chosen i above is = record {
  inside = omega (arith, is.inside);
  is = before candidate n row rest i (Some chosen) is.is;
  least = least_of candidate n row rest chosen i above is;
  first = first_of' candidate n row rest chosen i above is;
} where
  least_of : (candidate : ℕ → PageRow → Option Candidate) (n : ℕ) (row : PageRow) (rest : List PageRow) (chosen : Candidate) (i : ℕ) → ((other : Candidate) → candidate n row ≡ Some other → chosen.weight < other.weight) → IsFirstLeast candidate (n + 1) rest chosen i → (j : ℕ) (other : Candidate) → j < length (row ∷ rest) → Is candidate n (row ∷ rest) j (Some other) → chosen.weight ≤ other.weight
  least_of candidate n row rest chosen i above is zero other inside at = omega (arith, above other (at n (omega arith)))
  least_of candidate n row rest chosen i above is (suc j) other inside at = is.least j other (omega (arith, inside)) (behind candidate n row rest j (Some other) at)

  first_of' : (candidate : ℕ → PageRow → Option Candidate) (n : ℕ) (row : PageRow) (rest : List PageRow) (chosen : Candidate) (i : ℕ) → ((other : Candidate) → candidate n row ≡ Some other → chosen.weight < other.weight) → IsFirstLeast candidate (n + 1) rest chosen i → (j : ℕ) (other : Candidate) → j < suc i → Is candidate n (row ∷ rest) j (Some other) → chosen.weight < other.weight
  first_of' candidate n row rest chosen i above is zero other below at = above other (at n (omega arith))
  first_of' candidate n row rest chosen i above is (suc j) other below at = is.first j other (omega (arith, below)) (behind candidate n row rest j (Some other) at)

no_row : (candidate : ℕ → PageRow → Option Candidate) (n : ℕ) (row : PageRow) (rest : List PageRow) → candidate n row ≡ None → ((i : ℕ) → i < length rest → Is candidate (n + 1) rest i None) → (i : ℕ) → i < length (row ∷ rest) → Is candidate n (row ∷ rest) i None
no_row candidate n row rest is later zero inside = here candidate n row rest None is
no_row candidate n row rest is later (suc i) inside = before candidate n row rest i None (later i (omega (arith, inside)))

-- of the first row and the least after it
of_two : (candidate : ℕ → PageRow → Option Candidate) (n : ℕ) (row : PageRow) (rest : List PageRow) (one other : Candidate) (less : Bool) → nat_le one.weight other.weight ≡ less → candidate n row ≡ Some one → Chosen candidate (n + 1) rest (Some other) → Chosen candidate n (row ∷ rest) (cond less (Some one) (Some other))
of_two candidate n row rest one other true less is later =
    (zero, first_chosen candidate n row rest one is (λ j third inside at. (let most : other.weight ≤ third.weight = later.1.least j third inside at in grind (arith, nat_tests))))
of_two candidate n row rest one other false less is later =
    (suc later.0, later_chosen candidate n row rest other later.0 (λ third at. (let equal : one ≡ third = cc in let over : other.weight < one.weight = grind (arith, nat_tests) in subst (λ (c : Candidate). other.weight < c.weight) equal over)) later.1)

joined : (candidate : ℕ → PageRow → Option Candidate) (n : ℕ) (row : PageRow) (rest : List PageRow) (first least : Option Candidate) → candidate n row ≡ first → Chosen candidate (n + 1) rest least → Chosen candidate n (row ∷ rest) (lesser first least)
joined candidate n row rest None None is later = no_row candidate n row rest is later
joined candidate n row rest None (Some chosen) is later =
    (suc later.0, later_chosen candidate n row rest chosen later.0 (λ other at. absurd (none_here candidate n row rest other is (here candidate n row rest (Some other) at))) later.1)
joined candidate n row rest (Some one) None is later =
    (zero, first_chosen candidate n row rest one is (λ j other inside at. absurd (none_behind candidate (n + 1) rest j other (later j inside) at)))
joined candidate n row rest (Some one) (Some other) is later = of_two candidate n row rest one other (nat_le one.weight other.weight) refl is later

pub least_is : (candidate : ℕ → PageRow → Option Candidate) (n : ℕ) (rows : List PageRow) → Chosen candidate n rows (least_from candidate n rows)
least_is candidate n [] = λ i inside. absurd (omega (arith, inside))
least_is candidate n (row ∷ rest) = joined candidate n row rest (candidate n row) (least_from candidate (n + 1) rest) refl (least_is candidate (n + 1) rest)
