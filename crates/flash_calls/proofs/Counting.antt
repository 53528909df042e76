-- The pages count as many free ones as the journal.
use Rattle.std.proofs.Common.{◌≡◌, ℕ, suc, ◌+◌, ◌<◌, Bool, true, false, cond, List, [], ◌∷◌, length, get_or, None, Some, refl, sym, ◌∙◌, ap, arith}
use Rattle.std.specs.Prelude.{is_none, count_by}
use Rattle.std.proofs.lemmas.List.Sums.{sum_by-cons}
use Rattle.flash_names.specs.declared.geometry.Geometry.{Geometry}
use Rattle.flash_names.specs.declared.place.Label.{Label}
use Rattle.flash_entry.specs.declared.entry.Entry.{Entry}
use Rattle.flash_pages.specs.declared.page_row.PageRow.{PageRow}
use Rattle.flash_pages.specs.States.{is_free}
use Rattle.flash_pages.specs.PageTable.{PageTable, blank_row, free_count}
use Rattle.flash_machine.specs.PageLabels.{page_label, one_if_free, free_below, free_pages}
use Rattle.flash_calls.specs.Paged.{ArePaged}

module _ (h : List Entry) where
  -- the rows of the pages from k on are free where these have no label
  AreFree : ℕ → List PageRow → Type 0
  AreFree k rows = (i : ℕ) → i < length rows → is_none (page_label (k + i) h) ≡ is_free (get_or rows i blank_row).state

  first_free : (k : ℕ) (row : PageRow) (rows : List PageRow) → AreFree k (row ∷ rows) → one_if_free k h ≡ cond (is_free row.state) 1 0
  unfolding AreFree
  first_free k row rows free =
      let at : k + 0 ≡ k = omega arith in
      ap (λ (b : Bool). cond b 1 0) (ap (λ (n : ℕ). is_none (page_label n h)) (sym at) ∙ free 0 (omega arith))

  rest_free : (k : ℕ) (row : PageRow) (rows : List PageRow) → AreFree k (row ∷ rows) → AreFree (suc k) rows
  unfolding AreFree
  rest_free k row rows free i below =
      let at : suc k + i ≡ k + suc i = omega arith in
      ap (λ (n : ℕ). is_none (page_label n h)) at ∙ free (suc i) (omega (arith, below))

  counts : (k : ℕ) (rows : List PageRow) → AreFree k rows → free_below (k + length rows) h ≡ free_below k h + count_by (λ row. is_free row.state) rows
  counts k [] free = let at : k + 0 ≡ k = omega arith in ap (λ (n : ℕ). free_below n h) at ∙ omega arith
  counts k (row ∷ rows) free =
      let at : k + suc (length rows) ≡ suc k + length rows = omega arith in
      let rest = counts (suc k) rows (rest_free k row rows free) in
      let one = first_free k row rows free in
      let more = sum_by-cons (λ (r : PageRow). cond (is_free r.state) 1 0) row rows in
      ap (λ (n : ℕ). free_below n h) at ∙ rest ∙ omega (arith, one, more)

none_if : (free : Bool) (label : Label) → is_none (cond free None (Some label)) ≡ free
none_if true label = refl
none_if false label = refl

pub free_counted : (g : Geometry) (h : List Entry) (t : PageTable) → ArePaged g h t → free_count t ≡ free_pages g h
unfolding AreFree
free_counted g h t paged =
    let free : AreFree h 0 t.rows = λ i below.
    let at : 0 + i ≡ i = omega arith in
    let row = get_or t.rows i blank_row in
    ap (λ (n : ℕ). is_none (page_label n h)) at
    ∙ ap is_none (sym (paged.each i).label) ∙ none_if (is_free row.state) (record { page = i; version = row.version }) in
    let whole = counts h 0 t.rows free in
    let at : 0 + length t.rows ≡ g.pages = omega (arith, paged.rows) in
    sym (ap (λ (n : ℕ). free_below n h) (sym at) ∙ whole ∙ omega arith)
