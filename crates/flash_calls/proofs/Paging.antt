-- The pages stay as the journal says through entries that leave the flash.
use Rattle.std.proofs.Common.{◌≡◌, ℕ, ◌-◌, ◌<◌, Bool, true, false, not, ◌&&◌, ◌||◌, cond, List, ◌++◌, length, get_or, set, Option, None, Some, inl, inr, refl, sym, ◌∙◌, ap, subst}
use Rattle.std.specs.Prelude.{nat_eq, IsTrue}
use Rattle.std.proofs.lemmas.Bool.{cases_eq, cases_lt}
use Rattle.std.proofs.lemmas.List.{get_or-set_same, get_or-set_other, get_or_past, length-set}
use Rattle.flash_names.specs.declared.place.Label.{Label}
use Rattle.flash_names.specs.declared.place.Place.{Place}
use Rattle.flash_names.specs.declared.geometry.Geometry.{Geometry}
use Rattle.flash_entry.specs.declared.entry.Entry.{Entry}
use Rattle.flash_pages.specs.declared.page_row.PageRow.{PageRow}
use Rattle.flash_pages.specs.States.{is_free, is_ended, is_in_use}
use Rattle.flash_pages.specs.PageTable.{PageTable, blank_row, row_of}
use Rattle.flash_pages.specs.Calls.{has_ended}
use Rattle.flash_blocks.specs.BlockTable.{BlockTable}
use Rattle.flash_blocks.specs.Calls.{takes_live, table_after}
use Rattle.flash_machine.specs.Live.{label_has_ended}
use Rattle.flash_machine.specs.PageLabels.{page_label, is_label}
use Rattle.flash_index.specs.Places.{Places}
use Rattle.flash_calls.specs.Places.{given_back}
use Rattle.flash_calls.specs.Placed.{WasOpened, AreOpened}
use Rattle.flash_calls.specs.Paged.{IsRowOf, ArePaged}
use Rattle.flash_calls.proofs.Quiet.{AllLeaveLabels, same_label_of, same_last, same_ended}
use Rattle.std.specs.FinMap as finite

-- the row of a page
abbrev pub row_at : PageTable → ℕ → PageRow
row_at t page = get_or t.rows page blank_row

-- the rows are as many, and each has the state and the version that it had
pub record SamePages (t new : PageTable) : Type 0 where
  pub rows : length new.rows ≡ length t.rows
  pub last : new.last_version ≡ t.last_version
  pub state : (page : ℕ) → (row_at new page).state ≡ (row_at t page).state
  pub version : (page : ℕ) → (row_at new page).version ≡ (row_at t page).version

pub same_itself : (t : PageTable) → SamePages t t
same_itself t = record { rows = refl; last = refl; state = λ page. refl; version = λ page. refl }

pub same_both : (t mid new : PageTable) → SamePages t mid → SamePages mid new → SamePages t new
same_both t mid new one two = record {
  rows = two.rows ∙ one.rows;
  last = two.last ∙ one.last;
  state = λ page. two.state page ∙ one.state page;
  version = λ page. two.version page ∙ one.version page;
}

-- the same labels have ended
pub ended_same : (t new : PageTable) (label : Label) → SamePages t new → has_ended new label ≡ has_ended t label
ended_same t new label same = λ j. not (nat_eq (same.version label.page j) label.version && is_in_use (same.state label.page j))

-- so the pages stay as the journal says
module _ (g : Geometry) (h es : List Entry) (t new : PageTable) (quiet : AllLeaveLabels es) (same : SamePages t new) (paged : ArePaged g h t) where
  row_kept : (page : ℕ) → IsRowOf (h ++ es) page (row_at new page)
  row_kept page =
      let was = paged.each page in
      let labels = same_label_of h es quiet page in record {
        label =
            (λ j. cond (is_free (same.state page j)) None (Some (record { page = page; version = same.version page j })))
            ∙ was.label ∙ sym labels;
        ended =
            ap is_ended (same.state page) ∙ was.ended
            ∙ sym (same_ended h es quiet (page_label page h)) ∙ ap (label_has_ended (h ++ es)) (sym labels);
      }

  pub paged_kept : ArePaged g (h ++ es) new
  paged_kept = record {
    rows = same.rows ∙ paged.rows;
    last = same.last ∙ paged.last ∙ sym (same_last h es quiet);
    each = row_kept;
  }

-- and the labels of places are opened
module _ (h es : List Entry) (quiet : AllLeaveLabels es) where
  still_opened : (label : Label) → WasOpened h label → WasOpened (h ++ es) label
  still_opened label was =
      subst (λ (b : Bool). IsTrue b)
      (λ j. is_label label (sym (same_label_of h es quiet label.page) j) || sym (same_ended h es quiet (Some label)) j) was

  pub opened_kept : (places new : Places) → ((key : List ℕ) (place : Place) → finite.get new key ≡ Some place → finite.get places key ≡ Some place) → AreOpened h places → AreOpened (h ++ es) new
  opened_kept places new fewer was key place there = still_opened place.label (was key place (fewer key place there))

-- a row that is in use is one of the pages'
pub inside_by : (t : PageTable) (page : ℕ) → is_in_use (row_at t page).state ≡ true → page < length t.rows
inside_by t page used = elim (cases_lt page (length t.rows)) [
  | inl below ↦ below
  | inr past ↦ absurd (cc (sym (ap (λ (row : PageRow). is_in_use row.state) (get_or_past t.rows page blank_row past)) ∙ used))
]

unended_by : (a b : Bool) → not (a && b) ≡ false → (a ≡ true) × (b ≡ true)
unended_by true true is = (refl, refl)
unended_by true false is = absurd (cc is)
unended_by false b is = absurd (cc is)

-- a label that hasn't ended is that of its page, which is in use
pub record IsOn (t : PageTable) (label : Label) : Type 0 where
  pub inside : label.page < length t.rows
  pub version : nat_eq (row_of t label).version label.version ≡ true
  pub used : is_in_use (row_of t label).state ≡ true

pub is_on : (t : PageTable) (label : Label) → has_ended t label ≡ false → IsOn t label
is_on t label unended =
    let parts = unended_by (nat_eq (row_of t label).version label.version) (is_in_use (row_of t label).state) unended in
    record { inside = inside_by t label.page parts.1; version = parts.0; used = parts.1 }

-- a row with the same state and version in the place of another
module _ (t : PageTable) (at : ℕ) (row : PageRow) (inside : at < length t.rows) (state : row.state ≡ (row_at t at).state) (version : row.version ≡ (row_at t at).version) where
  abbrev pub with_new : PageTable
  with_new = record t { rows = set t.rows at row }

  pub row_here : row_at with_new at ≡ row
  row_here = get_or-set_same t.rows at row blank_row inside

  pub row_else : (page : ℕ) → (page ≡ at → ⊥) → row_at with_new page ≡ row_at t page
  row_else page other = get_or-set_other t.rows at page row blank_row other

  state_of : (page : ℕ) → (row_at with_new page).state ≡ (row_at t page).state
  state_of page = elim (cases_eq page at) [
    | inl here ↦ subst (λ (p : ℕ). (row_at with_new p).state ≡ (row_at t p).state) (sym here) (ap (λ (r : PageRow). r.state) row_here ∙ state)
    | inr other ↦ ap (λ (r : PageRow). r.state) (row_else page other)
  ]

  version_of : (page : ℕ) → (row_at with_new page).version ≡ (row_at t page).version
  version_of page = elim (cases_eq page at) [
    | inl here ↦ subst (λ (p : ℕ). (row_at with_new p).version ≡ (row_at t p).version) (sym here) (ap (λ (r : PageRow). r.version) row_here ∙ version)
    | inr other ↦ ap (λ (r : PageRow). r.version) (row_else page other)
  ]

  pub same_with_new : SamePages t with_new
  same_with_new = record { rows = length-set t.rows at row; last = refl; state = state_of; version = version_of }

-- a record that is given up
module _ (t : BlockTable) where
  same_taken : (place : Place) (ended : Bool) → has_ended t.pages place.label ≡ ended → SamePages t.pages (cond ended t (table_after (takes_live place) t)).pages
  same_taken place true is = same_itself t.pages
  same_taken place false is =
      let row = row_of t.pages place.label in
      same_with_new t.pages place.label.page (record row { live = row.live - 1; live_bytes = row.live_bytes - place.length })
      (is_on t.pages place.label is).inside refl refl

  pub same_given_back : (place : Option Place) → SamePages t.pages (given_back place t).pages
  same_given_back None = same_itself t.pages
  same_given_back (Some place) = same_taken place (has_ended t.pages place.label) refl
