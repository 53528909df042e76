-- What a store keeps goes on where a page is opened.
use Rattle.std.proofs.Common.{◌≡◌, ℕ, ◌+◌, ◌^◌, ◌<◌, ◌≤◌, Bool, true, false, ◌||◌, cond, List, [], ◌∷◌, ◌++◌, length, Option, None, Some, inl, inr, if◌then◌else◌, refl, sym, ◌∙◌, ap, subst, arith}
use Rattle.std.specs.Prelude.{nat_le, nat_lt}
use Rattle.std.specs.List.{position_from, list_any}
use Rattle.std.proofs.lemmas.Bool.{cases_eq, false_from_ne_true, or_cases, or_left, or_right}
use Rattle.std.proofs.lemmas.Bool.Decides.{nat_tests}
use Rattle.std.proofs.lemmas.List.{get_or-set_same, get_or-set_other, length-set}
use Rattle.flash_names.specs.declared.place.Label.{Label}
use Rattle.flash_names.specs.declared.geometry.Geometry.{Geometry}
use Rattle.flash_entry.specs.declared.entry.Entry.{Entry}
use Rattle.flash_entry.specs.declared.entry.Entry.TheVariants as entries
use Rattle.flash_pages.specs.declared.page_row.Bucket.{Bucket}
use Rattle.flash_pages.specs.declared.page_row.PageRow.{PageRow}
use Rattle.flash_pages.specs.declared.pages.Opened.TheVariants.{Page, NoPage}
use Rattle.flash_pages.specs.States.{is_free}
use Rattle.flash_pages.specs.PageTable.{PageTable, blank_row, free_count}
use Rattle.flash_pages.specs.Opening.{pages_wanted, opening_at, next_opening, open_row, with_page_opened, WasFree}
use Rattle.flash_pages.proofs.LawLemmas.{opened_free}
use Rattle.flash_machine.specs.Live.{ends, label_has_ended}
use Rattle.flash_machine.specs.PageLabels.{page_label, is_label}
use Rattle.flash_machine.specs.RuleFacts.{IsNextLabel}
use Rattle.flash_machine.proofs.EntrySteps.{list_any-one}
use Rattle.flash_machine.proofs.FreePages.{other_opened}
use Rattle.flash_machine.proofs.LabelRuns.{opened_has}
use Rattle.flash_machine.proofs.OrderlyRuns.{run_is_orderly}
use Rattle.flash_machine.proofs.RuleMeanings.{that_label}
use Rattle.flash_machine.proofs.Versions.{are_within, opened_last}
use Rattle.flash_calls.specs.Paged.{IsRowOf, ArePaged}
use Rattle.flash_calls.specs.Placed.{WasOpened, AreOpened}
use Rattle.flash_index.specs.Places.{Places}
use Rattle.flash_calls.proofs.Paging.{row_at}
use Rattle.flash_machine.specs.Legal.{Legal}

-- what is known of a page that is opened next
pub record IsOpening (t : PageTable) (label : Label) : Type 0 where
  pub version : label.version ≡ t.last_version + 1
  pub within : label.version ≤ 2 ^ 63
  pub inside : label.page < length t.rows
  pub free : is_free (row_at t label.page).state ≡ true

module _ (t : PageTable) (bucket : Bucket) (label : Label) where
  opening_by : (few last : Bool) (number : Option ℕ) → nat_le (2 ^ 63) t.last_version ≡ last → (if few || last then NoPage else opening_at t number) ≡ Page label
      → (label.version ≡ t.last_version + 1) × (label.version ≤ 2 ^ 63)
  opening_by true last number at is = absurd (cc is)
  opening_by false true number at is = absurd (cc is)
  opening_by false false None at is = absurd (cc is)
  opening_by false false (Some n) at is =
      let one : record { page = n; version = t.last_version + 1 } ≡ label = cc is in
      let version : t.last_version + 1 ≡ label.version = ap (λ (l : Label). l.version) one in
      (sym version, grind (arith, nat_tests, version, at))

  pub is_opening : next_opening t bucket ≡ Page label → IsOpening t label
  is_opening is =
      let numbers = opening_by (nat_lt (free_count t) (pages_wanted bucket)) (nat_le (2 ^ 63) t.last_version) (position_from (λ row. is_free row.state) 0 t.rows) refl is in
      let was = subst (WasFree t) is (opened_free t bucket) in
      record { version = numbers.0; within = numbers.1; inside = was.0; free = was.1 }

-- the pages after the page was opened
abbrev pub opened_pages : PageTable → Bucket → Label → PageTable
opened_pages t bucket label = with_page_opened t bucket (Page label)

module _ (g : Geometry) (h : List Entry) (t : PageTable) (bucket : Bucket) (label : Label) (paged : ArePaged g h t) (opens : IsOpening t label) where
  abbrev opened : Entry
  opened = entries.Opened label

  abbrev after : List Entry
  after = h ++ opened ∷ []

  no_label : page_label label.page h ≡ None
  no_label =
      sym (paged.each label.page).label
      ∙ ap (λ (b : Bool). cond b None (Some (record { page = label.page; version = (row_at t label.page).version }))) opens.free

  pub next_label : IsNextLabel g h label
  next_label = record {
    version = opens.version ∙ ap (λ (n : ℕ). n + 1) paged.last;
    within = opens.within;
    page = subst (λ (n : ℕ). label.page < n) paged.rows opens.inside;
    free = no_label;
  }

  -- what has ended before has ended, and nothing else
  same_ended : (found : Option Label) → label_has_ended after found ≡ label_has_ended h found
  same_ended None = refl
  same_ended (Some other) = list_any-one (ends other) h opened ∙ or_none (list_any (ends other) h)
    where
      or_none : (b : Bool) → (b || false) ≡ b
      or_none true = refl
      or_none false = refl

  here_label : page_label label.page after ≡ Some label
  here_label = opened_has g label h

  else_label : (page : ℕ) → (page ≡ label.page → ⊥) → page_label page after ≡ page_label page h
  else_label page other = other_opened h label page other

  module _ (run : Legal g h) where
    -- no label that has ended has so great a version
    pub unended : label_has_ended h (Some label) ≡ false
    unended = false_from_ne_true (label_has_ended h (Some label)) (λ ended.
        let within = (are_within g h (run_is_orderly g h run)).ended label ended in
        omega (arith, within, opens.version, paged.last))

    -- nor has the label of a place
    pub above_opened : (other : Label) → WasOpened h other → other.version < label.version
    above_opened other was = elim (or_cases (is_label other (page_label other.page h)) (label_has_ended h (Some other)) was) [
      | inl has ↦
          let within = (are_within g h (run_is_orderly g h run)).has other.page other (that_label other (page_label other.page h) has) in
          omega (arith, within, opens.version, paged.last)
      | inr ended ↦
          let within = (are_within g h (run_is_orderly g h run)).ended other ended in
          omega (arith, within, opens.version, paged.last)
    ]

    row_by : (page : ℕ) → IsRowOf after page (row_at (opened_pages t bucket label) page)
    row_by page = elim (cases_eq page label.page) [
      | inl at ↦
          let row : row_at (opened_pages t bucket label) label.page ≡ open_row bucket label.version = get_or-set_same t.rows label.page (open_row bucket label.version) blank_row opens.inside in
          subst (λ (p : ℕ). IsRowOf after p (row_at (opened_pages t bucket label) p)) (sym at)
          (subst (λ (r : PageRow). IsRowOf after label.page r) (sym row) (record {
            label = sym here_label;
            ended = sym (ap (label_has_ended after) here_label ∙ same_ended (Some label) ∙ unended);
          }))
      | inr other ↦
          let row : row_at (opened_pages t bucket label) page ≡ row_at t page = get_or-set_other t.rows label.page page (open_row bucket label.version) blank_row other in
          let was = paged.each page in
          subst (λ (r : PageRow). IsRowOf after page r) (sym row) (record {
            label = was.label ∙ sym (else_label page other);
            ended = was.ended ∙ sym (same_ended (page_label page h)) ∙ ap (label_has_ended after) (sym (else_label page other));
          })
    ]

    pub paged_opened : ArePaged g after (opened_pages t bucket label)
    paged_opened = record {
      rows = length-set t.rows label.page (open_row bucket label.version) ∙ paged.rows;
      last = sym (opened_last g h label);
      each = row_by;
    }

  -- the labels of places were opened
  still_opened : (other : Label) → WasOpened h other → WasOpened after other
  still_opened other was = elim (or_cases (is_label other (page_label other.page h)) (label_has_ended h (Some other)) was) [
    | inl has ↦
        let there = that_label other (page_label other.page h) has in
        let apart : other.page ≡ label.page → ⊥ = λ page. cc (sym there ∙ ap (λ (p : ℕ). page_label p h) page ∙ no_label) in
        or_left (is_label other (page_label other.page after)) (label_has_ended after (Some other)) (ap (is_label other) (else_label other.page apart) ∙ has)
    | inr ended ↦ or_right (is_label other (page_label other.page after)) (label_has_ended after (Some other)) (same_ended (Some other) ∙ ended)
  ]

  pub places_opened : (places : Places) → AreOpened h places → AreOpened after places
  places_opened places was key place there = still_opened place.label (was key place there)
