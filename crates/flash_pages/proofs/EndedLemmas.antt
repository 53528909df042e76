-- A label that was given and has ended stays ended.
use Rattle.std.proofs.Common.{◌≡◌, ℕ, ◌+◌, ◌<◌, ◌≤◌, Bool, true, false, not, ◌&&◌, nat_eq, cond, IsTrue, List, [], ◌∷◌, length, get_or, set, refl, arith}
use Rattle.std.proofs.lemmas.Bool.Decides.{nat_tests}
use Rattle.std.proofs.lemmas.Grind.{common_steps, get_or-set_at}
use Rattle.flash_names.specs.declared.place.Label.{Label}
use Rattle.flash_pages.specs.declared.page_row.PageRow.{PageRow}
use Rattle.flash_pages.specs.declared.page_row.Bucket.{Bucket}
use Rattle.flash_pages.specs.declared.page_row.State.{State}
use Rattle.flash_pages.specs.declared.page_row.State.TheVariants.{Free, Open, Full, Ended}
use Rattle.flash_pages.specs.declared.pages.Opened.{Opened}
use Rattle.flash_pages.specs.declared.pages.Opened.TheVariants.{Page, NoPage}
use Rattle.flash_pages.specs.States.{is_open, is_in_use}
use Rattle.flash_pages.specs.PageTable.{PageTable, blank_row, row_of, with_row}
use Rattle.flash_pages.specs.Opening.{next_opening, open_row, with_page_opened, WasFree}
use Rattle.flash_pages.specs.Calls.{Call, opens, pins, unpins, adds_live, takes_live, fills, ends, frees, compacts, compacts_none, spares, Allowed, table_after, has_ended}
use Rattle.flash_pages.specs.Law.{AllAllowed, after_all}
use Rattle.flash_pages.proofs.LawLemmas.{Above, above, opened_free}

-- a row under which a version has ended
abbrev ended_on : PageRow → ℕ → Bool
ended_on row version = not (nat_eq row.version version && is_in_use row.state)

-- where a row is put in the place of another, a version that had ended has ended if it has in that row
stays_ended : (rows : List PageRow) (n m : ℕ) (row : PageRow) (version : ℕ) → n < length rows → (n ≡ m → ended_on (get_or rows n blank_row) version ≡ true → ended_on row version ≡ true) → ended_on (get_or rows m blank_row) version ≡ true → ended_on (get_or (set rows n row) m blank_row) version ≡ true
stays_ended rows n m row version inside here was = grind (arith, common_steps, get_or-set_at, here, was)

-- a page that was in use is so after it is filled
in_use : (state : State) → is_open state ≡ true → is_in_use state ≡ true
in_use Free is = absurd (cc is)
in_use Open is = refl
in_use Full is = refl
in_use Ended is = absurd (cc is)

filled_on : (row : PageRow) (version : ℕ) → is_in_use row.state ≡ true → ended_on row version ≡ true → ended_on (record row { state = Full }) version ≡ true
filled_on row version used was = grind (arith, nat_tests)

unused_on : (row : PageRow) (version : ℕ) → is_in_use row.state ≡ false → ended_on row version ≡ true
unused_on row version unused = grind (arith, nat_tests)

-- a page that is opened has a version above all that were given
opened_on : (bucket : Bucket) (other version : ℕ) → version < other → ended_on (open_row bucket other) version ≡ true
opened_on bucket other version above = grind (arith, nat_tests)

opened_ended : (t : PageTable) (label : Label) (bucket : Bucket) (opened : Opened) → WasFree t opened → Above t.last_version opened → label.version ≤ t.last_version → has_ended t label ≡ true → has_ended (with_page_opened t bucket opened) label ≡ true
unfolding Above
opened_ended t label bucket NoPage free high low was = was
opened_ended t label bucket (Page other) free high low was =
    stays_ended t.rows other.page label.page (open_row bucket other.version) label.version free.0 (λ _ _. opened_on bucket other.version label.version (omega (arith, high, low))) was

pinned_ended : (t : PageTable) (label other : Label) (ended : Bool) → other.page < length t.rows → has_ended t label ≡ true → has_ended (cond ended t (with_row t other (λ row. record row { pins = row.pins + 1 }))) label ≡ true
pinned_ended t label other true inside was = was
pinned_ended t label other false inside was = stays_ended t.rows other.page label.page _ label.version inside (λ _ is. is) was

step_ended : (t : PageTable) (label : Label) (call : Call) → Allowed t call → label.version ≤ t.last_version → has_ended t label ≡ true → has_ended (table_after call t) label ≡ true
step_ended t label (opens bucket) may low was = opened_ended t label bucket (next_opening t bucket) (opened_free t bucket) (above t bucket) low was
step_ended t label (pins other) may low was = pinned_ended t label other (has_ended t other) may.inside was
step_ended t label (unpins other) may low was = stays_ended t.rows other.page label.page _ label.version may.inside (λ _ is. is) was
step_ended t label (adds_live other bytes) may low was = stays_ended t.rows other.page label.page _ label.version may.at.inside (λ _ is. is) was
step_ended t label (takes_live other bytes) may low was = stays_ended t.rows other.page label.page _ label.version may.inside (λ _ is. is) was
step_ended t label (fills other) may low was =
    stays_ended t.rows other.page label.page _ label.version may.inside (λ _ is. filled_on (row_of t other) label.version (in_use (row_of t other).state may.state) is) was
step_ended t label (ends other) may low was =
    stays_ended t.rows other.page label.page _ label.version may.inside (λ _ _. unused_on (record (row_of t other) { state = Ended }) label.version refl) was
step_ended t label (frees other) may low was =
    stays_ended t.rows other.page label.page _ label.version may.at.inside (λ _ _. unused_on (record (row_of t other) { state = Free; live = 0; live_bytes = 0; spared = false }) label.version refl) was
step_ended t label (compacts other) may low was = was
step_ended t label compacts_none may low was = was
step_ended t label (spares other) may low was = stays_ended t.rows other.page label.page _ label.version may.inside (λ _ is. is) was

-- the last version never falls
opened_last : (t : PageTable) (bucket : Bucket) (opened : Opened) → Above t.last_version opened → t.last_version ≤ (with_page_opened t bucket opened).last_version
unfolding Above
opened_last t bucket NoPage high = omega arith
opened_last t bucket (Page label) high = omega (arith, high)

pinned_last : (t : PageTable) (other : Label) (ended : Bool) → t.last_version ≤ (cond ended t (with_row t other (λ row. record row { pins = row.pins + 1 }))).last_version
pinned_last t other true = omega arith
pinned_last t other false = omega arith

step_last : (t : PageTable) (call : Call) → t.last_version ≤ (table_after call t).last_version
step_last t (opens bucket) = opened_last t bucket (next_opening t bucket) (above t bucket)
step_last t (pins other) = pinned_last t other (has_ended t other)
step_last t (unpins other) = omega arith
step_last t (adds_live other bytes) = omega arith
step_last t (takes_live other bytes) = omega arith
step_last t (fills other) = omega arith
step_last t (ends other) = omega arith
step_last t (frees other) = omega arith
step_last t (compacts other) = omega arith
step_last t compacts_none = omega arith
step_last t (spares other) = omega arith

pub ended : (t : PageTable) (label : Label) (calls : List Call) → AllAllowed t calls → label.version ≤ t.last_version → IsTrue (has_ended t label) → IsTrue (has_ended (after_all calls t) label)
ended t label [] may low was = was
ended t label (call ∷ rest) may low was =
    ended (table_after call t) label rest may.1 (omega (arith, low, step_last t call)) (step_ended t label call may.0 low was)
