-- The page that is named to be freed may be freed, and is the first that may.
use Rattle.std.proofs.Common.{◌≡◌, ℕ, zero, suc, ◌+◌, ◌<◌, ◌≤◌, Bool, true, false, ◌&&◌, nat_eq, cond, IsTrue, List, [], ◌∷◌, length, get_or, Option, Some, None, MatchOption, refl, subst, arith}
use Rattle.std.proofs.lemmas.Bool.{and_parts, eqb-true}
use Rattle.std.proofs.lemmas.Bool.Decides.{nat_tests}
use Rattle.flash_names.specs.declared.place.Label.{Label}
use Rattle.flash_pages.specs.declared.page_row.PageRow.{PageRow}
use Rattle.flash_pages.specs.States.{is_ended}
use Rattle.flash_pages.specs.PageTable.{PageTable, blank_row, row_of}
use Rattle.flash_pages.specs.Freeable.{first_freeable, freeable, IsFirstToFree, NoneToFree}

-- the page has ended and has no pin
abbrev may_free : PageRow → Bool
may_free row = is_ended row.state && nat_eq row.pins 0

may_of : (row : PageRow) → IsTrue (is_ended row.state) → row.pins ≡ 0 → may_free row ≡ true
may_of row ended unpinned = grind (arith, nat_tests)

-- of the rows, which are numbered from n, that at i is the first that may be freed, and has this label
record IsFirst (n : ℕ) (rows : List PageRow) (label : Label) (i : ℕ) : Type 0 where
  inside : i < length rows
  page : label.page ≡ n + i
  version : (get_or rows i blank_row).version ≡ label.version
  may : may_free (get_or rows i blank_row) ≡ true
  first : (j : ℕ) → j < length rows → may_free (get_or rows j blank_row) ≡ true → i ≤ j

FirstFrom : ℕ → List PageRow → Label → Type 0
FirstFrom n rows label = (i : ℕ) × IsFirst n rows label i

NoneFrom : List PageRow → Type 0
NoneFrom rows = (j : ℕ) → j < length rows → may_free (get_or rows j blank_row) ≡ true → ⊥

none_first : (row : PageRow) (rest : List PageRow) → may_free row ≡ false → NoneFrom rest → NoneFrom (row ∷ rest)
unfolding NoneFrom
none_first row rest is later zero inside may = absurd (cc (is, may))
none_first row rest is later (suc j) inside may = later j (omega (arith, inside)) may

later_first : (n : ℕ) (row : PageRow) (rest : List PageRow) (label : Label) (i : ℕ) → may_free row ≡ false → IsFirst (n + 1) rest label i → IsFirst n (row ∷ rest) label (suc i)
later_first n row rest label i is later = record {
  inside = omega (arith, later.inside);
  page = omega (arith, later.page);
  version = later.version;
  may = later.may;
  first = before n row rest label i is later;
} where
  before : (n : ℕ) (row : PageRow) (rest : List PageRow) (label : Label) (i : ℕ) → may_free row ≡ false → IsFirst (n + 1) rest label i → (j : ℕ) → j < length (row ∷ rest) → may_free (get_or (row ∷ rest) j blank_row) ≡ true → suc i ≤ j
  before n row rest label i is later zero inside may = absurd (cc (is, may))
  before n row rest label i is later (suc j) inside may = omega (arith, later.first j (omega (arith, inside)) may)

behind_first : (n : ℕ) (row : PageRow) (rest : List PageRow) (found : Option Label) → may_free row ≡ false → MatchOption found (NoneFrom rest) (FirstFrom (n + 1) rest) → MatchOption found (NoneFrom (row ∷ rest)) (FirstFrom n (row ∷ rest))
unfolding FirstFrom
behind_first n row rest None is later = none_first row rest is later
behind_first n row rest (Some label) is later = (suc later.0, later_first n row rest label later.0 is later.1)

one_more : (n : ℕ) (row : PageRow) (rest : List PageRow) (may : Bool) → may_free row ≡ may → MatchOption (first_freeable (n + 1) rest) (NoneFrom rest) (FirstFrom (n + 1) rest) → MatchOption (cond may (Some (record { page = n; version = row.version })) (first_freeable (n + 1) rest)) (NoneFrom (row ∷ rest)) (FirstFrom n (row ∷ rest))
unfolding FirstFrom
one_more n row rest true is later =
    (0, record { inside = omega arith; page = omega arith; version = refl; may = is; first = λ j inside may. omega arith })
one_more n row rest false is later = behind_first n row rest (first_freeable (n + 1) rest) is later

first_from : (n : ℕ) (rows : List PageRow) → MatchOption (first_freeable n rows) (NoneFrom rows) (FirstFrom n rows)
unfolding NoneFrom
first_from n [] = λ j inside may. absurd (omega (arith, inside))
first_from n (row ∷ rest) = one_more n row rest (may_free row) refl (first_from (n + 1) rest)

of_table : (t : PageTable) (found : Option Label) → MatchOption found (NoneFrom t.rows) (FirstFrom 0 t.rows) → MatchOption found (NoneToFree t) (IsFirstToFree t)
unfolding NoneFrom FirstFrom
of_table t None is = λ label can. is label.page can.at.inside (may_of (row_of t label) can.at.state can.unpinned)
of_table t (Some label) is =
    let same : is.0 ≡ label.page = omega (arith, is.1.page) in
    let first : IsFirst 0 t.rows label label.page = subst (IsFirst 0 t.rows label) same is.1 in
    let parts = and_parts (is_ended (row_of t label).state) (nat_eq (row_of t label).pins 0) first.may in
    record {
      may = record { at = record { inside = first.inside; version = first.version; state = parts.0 }; unpinned = eqb-true (row_of t label).pins 0 parts.1 };
      first = λ other can. first.first other.page can.at.inside (may_of (row_of t other) can.at.state can.unpinned);
    }

-- what is named may be freed and is the first such, and where none is named none may be freed
pub first_to_free : (t : PageTable) → MatchOption (freeable t) (NoneToFree t) (IsFirstToFree t)
first_to_free t = of_table t (first_freeable 0 t.rows) (first_from 0 t.rows)
