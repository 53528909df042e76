-- What one call keeps, and so any list of calls.
use Rattle.std.proofs.Common.{◌≡◌, ℕ, suc, ◌+◌, ◌-◌, ◌<◌, ◌≤◌, Bool, true, false, cond, IsTrue, List, [], ◌∷◌, ◌++◌, length, get_or, set, Option, Some, None, MatchOption, refl, subst, arith}
use Rattle.std.proofs.lemmas.Bool.Decides.{nat_tests}
use Rattle.std.proofs.lemmas.Grind.{common_steps, get_or-set_at}
use Rattle.std.specs.List.{AllByRecursion, IsDistinct, position_from}
use Rattle.flash_names.specs.declared.place.Label.{Label}
use Rattle.flash_names.specs.Labels.{same_label}
use Rattle.flash_pages.specs.declared.page_row.PageRow.{PageRow}
use Rattle.flash_pages.specs.declared.page_row.Bucket.{Bucket}
use Rattle.flash_pages.specs.declared.page_row.State.{State}
use Rattle.flash_pages.specs.declared.page_row.State.TheVariants.{Full, Ended}
use Rattle.flash_pages.specs.declared.pages.Opened.{Opened}
use Rattle.flash_pages.specs.declared.pages.Opened.TheVariants.{Page, NoPage}
use Rattle.flash_pages.specs.States.{is_free}
use Rattle.flash_pages.specs.PageTable.{PageTable, blank_row, row_of, with_row}
use Rattle.flash_pages.specs.Opening.{next_opening, opening_at, open_row, with_page_opened, is_refused, IsFreeRow, WasFree}
use Rattle.flash_pages.specs.Calls.{Call, opens, pins, unpins, adds_live, takes_live, fills, ends, frees, compacts, compacts_none, spares, Allowed, table_after, has_ended}
use Rattle.flash_pages.specs.Law.{AllAllowed, after_all, label_of, labels_given, Rise, pins_on, pins_of, pins_taken, all_pins_taken, IsKept}

-- the version that a page is opened with is above the last
unfoldable pub Above : ℕ → Opened → Type 0
Above n NoPage = Unit {0}
Above n (Page label) = n < label.version

above_of : (t : PageTable) (refused : Bool) (number : Option ℕ) → Above t.last_version (cond refused NoPage (opening_at t number))
unfolding Above
above_of t true number = tt
above_of t false None = tt
above_of t false (Some n) = omega arith

pub above : (t : PageTable) (bucket : Bucket) → Above t.last_version (next_opening t bucket)
above t bucket = above_of t (is_refused t bucket) (position_from (λ row. is_free row.state) 0 t.rows)

rise_opened : (t : PageTable) (bucket : Bucket) (opened : Opened) (rest : List Call) → ((s : PageTable) → Rise s.last_version (labels_given s rest)) → Above t.last_version opened → Rise t.last_version (label_of opened ++ labels_given (with_page_opened t bucket opened) rest)
unfolding Above
rise_opened t bucket NoPage rest later high = later t
rise_opened t bucket (Page label) rest later high = (high, later (with_page_opened t bucket (Page label)))

rise_pinned : (t : PageTable) (label : Label) (ended : Bool) (rest : List Call) → ((s : PageTable) → Rise s.last_version (labels_given s rest)) → Rise t.last_version (labels_given (cond ended t (with_row t label (λ row. record row { pins = row.pins + 1 }))) rest)
rise_pinned t label true rest later = later t
rise_pinned t label false rest later = later (with_row t label (λ row. record row { pins = row.pins + 1 }))

-- the versions of the labels that the calls give rise
pub rise : (t : PageTable) (calls : List Call) → Rise t.last_version (labels_given t calls)
rise t [] = tt
rise t (opens bucket ∷ rest) = rise_opened t bucket (next_opening t bucket) rest (λ s. rise s rest) (above t bucket)
rise t (pins label ∷ rest) = rise_pinned t label (has_ended t label) rest (λ s. rise s rest)
rise t (unpins label ∷ rest) = rise (table_after (unpins label) t) rest
rise t (adds_live label bytes ∷ rest) = rise (table_after (adds_live label bytes) t) rest
rise t (takes_live label bytes ∷ rest) = rise (table_after (takes_live label bytes) t) rest
rise t (fills label ∷ rest) = rise (table_after (fills label) t) rest
rise t (ends label ∷ rest) = rise (table_after (ends label) t) rest
rise t (frees label ∷ rest) = rise (table_after (frees label) t) rest
rise t (compacts label ∷ rest) = rise (table_after (compacts label) t) rest
rise t (compacts_none ∷ rest) = rise (table_after compacts_none t) rest
rise t (spares label ∷ rest) = rise (table_after (spares label) t) rest

-- labels whose versions rise from above n differ from one of version n
apart : (one : Label) (n : ℕ) (labels : List Label) → one.version ≤ n → Rise n labels → AllByRecursion (λ other. same_label one other ≡ false) labels
apart one n [] low rising = tt
apart one n (label ∷ rest) low rising = (grind (arith, nat_tests, rising.0), apart one label.version rest (omega (arith, rising.0)) rising.1)

pub distinct : (n : ℕ) (labels : List Label) → Rise n labels → IsDistinct same_label labels
unfolding IsDistinct
distinct n [] rising = tt
distinct n (label ∷ rest) rising = (apart label label.version rest (omega arith) rising.1, distinct label.version rest rising.1)

-- where a row is put in the place of another, the pins of a version fall by at most e if they do so in that row
stays : (rows : List PageRow) (n m : ℕ) (row : PageRow) (version e : ℕ) → n < length rows → (n ≡ m → pins_on (get_or rows n blank_row) version ≤ pins_on row version + e) → pins_on (get_or rows m blank_row) version ≤ pins_on (get_or (set rows n row) m blank_row) version + e
stays rows n m row version e inside here = grind (arith, common_steps, get_or-set_at, here)

-- a page that has no pin gives its label none
none_on : (row : PageRow) (version : ℕ) → row.pins ≡ 0 → pins_on row version ≡ 0
none_on row version none = grind (arith, nat_tests)

-- a Free page gives its label none
free_on : (row : PageRow) (version : ℕ) → IsTrue (is_free row.state) → pins_on row version ≡ 0
free_on row version free = grind (arith, nat_tests)

-- the pins stay where the state becomes another that isn't Free
used_on : (row : PageRow) (version : ℕ) (state : State) → is_free state ≡ false → pins_on row version ≤ pins_on (record row { state = state }) version + 0
used_on row version state used = grind (arith, nat_tests)

pinned_on : (row : PageRow) (version : ℕ) → pins_on row version ≤ pins_on (record row { pins = row.pins + 1 }) version + 0
pinned_on row version = grind (arith, nat_tests)

unpinned_on : (row : PageRow) (other label : Label) → row.version ≡ other.version → other.page ≡ label.page → pins_on row label.version ≤ pins_on (record row { pins = row.pins - 1 }) label.version + cond (same_label other label) 1 0
unpinned_on row other label version same = grind (arith, nat_tests)

-- the number, counted from n, is that of a Free page
FreeFrom : ℕ → List PageRow → ℕ → Type 0
FreeFrom n rows number = (at : ℕ) × (number ≡ n + at) × IsFreeRow rows at

found_later : (n : ℕ) (row : PageRow) (rest : List PageRow) (number : Option ℕ) → MatchOption number (Unit {0}) (FreeFrom (n + 1) rest) → MatchOption number (Unit {0}) (FreeFrom n (row ∷ rest))
unfolding FreeFrom
found_later n row rest None is = tt
found_later n row rest (Some number) is = (suc is.0, omega (arith, is.1), (omega (arith, is.2.0), is.2.1))

found_here : (n : ℕ) (row : PageRow) (rest : List PageRow) (free : Bool) → is_free row.state ≡ free → MatchOption (position_from (λ row. is_free row.state) (n + 1) rest) (Unit {0}) (FreeFrom (n + 1) rest) → MatchOption (cond free (Some n) (position_from (λ row. is_free row.state) (n + 1) rest)) (Unit {0}) (FreeFrom n (row ∷ rest))
unfolding FreeFrom
found_here n row rest true is later = (0, omega arith, (omega arith, is))
found_here n row rest false is later = found_later n row rest (position_from (λ row. is_free row.state) (n + 1) rest) later

-- the first Free page is there, and Free
found : (n : ℕ) (rows : List PageRow) → MatchOption (position_from (λ row. is_free row.state) n rows) (Unit {0}) (FreeFrom n rows)
found n [] = tt
found n (row ∷ rest) = found_here n row rest (is_free row.state) refl (found (n + 1) rest)

was_free : (t : PageTable) (refused : Bool) (number : Option ℕ) → MatchOption number (Unit {0}) (FreeFrom 0 t.rows) → WasFree t (cond refused NoPage (opening_at t number))
unfolding FreeFrom
was_free t true number is = tt
was_free t false None is = tt
was_free t false (Some number) is =
    let same : is.0 ≡ number = omega (arith, is.1) in subst (IsFreeRow t.rows) same is.2

-- a page that is opened was Free
pub opened_free : (t : PageTable) (bucket : Bucket) → WasFree t (next_opening t bucket)
opened_free t bucket = was_free t (is_refused t bucket) (position_from (λ row. is_free row.state) 0 t.rows) (found 0 t.rows)

opened_step : (t : PageTable) (label : Label) (bucket : Bucket) (opened : Opened) → WasFree t opened → pins_of t label ≤ pins_of (with_page_opened t bucket opened) label + 0
opened_step t label bucket NoPage free = omega arith
opened_step t label bucket (Page other) free =
    stays t.rows other.page label.page (open_row bucket other.version) label.version 0 free.0 (λ _. omega (arith, free_on (row_of t other) label.version free.1))

pinned_step : (t : PageTable) (label other : Label) (ended : Bool) → other.page < length t.rows → pins_of t label ≤ pins_of (cond ended t (with_row t other (λ row. record row { pins = row.pins + 1 }))) label + 0
pinned_step t label other true inside = omega arith
pinned_step t label other false inside =
    stays t.rows other.page label.page _ label.version 0 inside (λ _. pinned_on (row_of t other) label.version)

-- the pins of a label fall by those that the call takes
step : (t : PageTable) (label : Label) (call : Call) → Allowed t call → pins_of t label ≤ pins_of (table_after call t) label + pins_taken label call
step t label (opens bucket) may = opened_step t label bucket (next_opening t bucket) (opened_free t bucket)
step t label (pins other) may = pinned_step t label other (has_ended t other) may.inside
step t label (unpins other) may =
    stays t.rows other.page label.page _ label.version _ may.inside (unpinned_on (row_of t other) other label may.version)
step t label (adds_live other bytes) may = stays t.rows other.page label.page _ label.version 0 may.at.inside (λ _. omega arith)
step t label (takes_live other bytes) may = stays t.rows other.page label.page _ label.version 0 may.inside (λ _. omega arith)
step t label (fills other) may = stays t.rows other.page label.page _ label.version 0 may.inside (λ _. used_on (row_of t other) label.version Full refl)
step t label (ends other) may = stays t.rows other.page label.page _ label.version 0 may.inside (λ _. used_on (row_of t other) label.version Ended refl)
step t label (frees other) may =
    stays t.rows other.page label.page _ label.version 0 may.at.inside (λ _. omega (arith, none_on (row_of t other) label.version may.unpinned))
step t label (compacts other) may = omega arith
step t label compacts_none may = omega arith
step t label (spares other) may = stays t.rows other.page label.page _ label.version 0 may.inside (λ _. omega arith)

-- the pins of a label fall by those that the calls take
pub counted : (t : PageTable) (label : Label) (calls : List Call) → AllAllowed t calls → pins_of t label ≤ pins_of (after_all calls t) label + all_pins_taken label calls
counted t label [] may = omega arith
counted t label (call ∷ rest) may = omega (arith, step t label call may.0, counted (table_after call t) label rest may.1)

-- a label that has a pin has its page
has_page : (row : PageRow) (version : ℕ) → 0 < pins_on row version → (row.version ≡ version) × (is_free row.state ≡ false)
has_page row version some = grind (arith, nat_tests)

pub kept : (t : PageTable) (label : Label) (calls : List Call) → AllAllowed t calls → all_pins_taken label calls < pins_of t label → IsKept (after_all calls t) label
kept t label calls may fewer =
    let is = has_page (row_of (after_all calls t) label) label.version (omega (arith, counted t label calls may)) in
    record { version = is.0; kept = is.1 }
