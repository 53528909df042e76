-- The desk after a page was opened.
use Rattle.std.proofs.Common.{◌≡◌, ℕ, ◌<◌, Bool, false, not, ◌&&◌, cond, List, [], ◌∷◌, ◌++◌, Option, None, Some, inl, inr, refl, sym, ◌∙◌, ap, subst, arith}
use Rattle.std.specs.Prelude.{nat_eq}
use Rattle.std.specs.FinMap as finite
use Rattle.std.proofs.lemmas.Bool.{cases_eq, false_from_ne_true, eqb-true}
use Rattle.std.proofs.lemmas.List.{get_or-set_same, get_or-set_other}
use Rattle.flash_names.specs.declared.place.Label.{Label}
use Rattle.flash_names.specs.declared.place.Place.{Place}
use Rattle.flash_names.specs.declared.geometry.Geometry.{Geometry}
use Rattle.flash_names.specs.Labels.{same_label}
use Rattle.flash_entry.specs.declared.entry.Entry.{Entry}
use Rattle.flash_entry.specs.declared.entry.Entry.TheVariants as entries
use Rattle.flash_pages.specs.declared.page_row.Bucket.{Bucket}
use Rattle.flash_pages.specs.declared.page_row.PageRow.{PageRow}
use Rattle.flash_pages.specs.States.{is_in_use}
use Rattle.flash_pages.specs.PageTable.{PageTable, blank_row, row_of}
use Rattle.flash_pages.specs.Opening.{open_row}
use Rattle.flash_pages.specs.Calls.{has_ended}
use Rattle.flash_blocks.specs.BlockTable.{BlockTable}
use Rattle.flash_blocks.specs.InOrder.{IsInOrder}
use Rattle.flash_machine.specs.Item.{Item}
use Rattle.flash_machine.specs.Cache.{Cache}
use Rattle.flash_machine.specs.Followed.{one_if_labelled}
use Rattle.flash_machine.specs.PageLabels.{is_label}
use Rattle.flash_machine.specs.Steps.{cache_of}
use Rattle.flash_machine.specs.Legal.{Meets}
use Rattle.flash_machine.proofs.Runs.{cache_of-append}
use Rattle.flash_machine.proofs.RuleMeanings.{passes_next_label}
use Rattle.flash_machine.proofs.Same.{equal_labels}
use Rattle.flash_calls.specs.Below.{Below}
use Rattle.flash_calls.specs.Counted.{bytes_if_labelled, IsCounted, AreCounted}
use Rattle.flash_calls.specs.Held.{WritesNone, KeepsRecords, AreHeld}
use Rattle.flash_calls.specs.Paged.{ArePaged}
use Rattle.flash_calls.specs.Placed.{record_size, IsPlaced, WasOpened}
use Rattle.flash_calls.specs.Running.{IsRunning}
use Rattle.flash_calls.specs.Store.{Desk}
use Rattle.flash_calls.proofs.Goes.{goes_one, known_goes_on}
use Rattle.flash_calls.proofs.Opening.{IsOpening, opened_pages, next_label, above_opened, paged_opened, places_opened}
use Rattle.flash_calls.proofs.Paging.{row_at, is_on}
use Rattle.flash_calls.proofs.Quiet.{all_behind}
use Rattle.flash_calls.proofs.Uncounted.{none_counts}

module _ (g : Geometry) (h : List Entry) (c : Cache) (desk : Desk) (was : IsRunning g h c desk) (bucket : Bucket) (label : Label) (opens : IsOpening desk.blocks.pages label) where
  abbrev old : PageTable
  old = desk.blocks.pages

  abbrev new : PageTable
  new = opened_pages old bucket label

  abbrev later : List Entry
  later = h ++ entries.Opened label ∷ []

  here : row_at new label.page ≡ open_row bucket label.version
  here = get_or-set_same old.rows label.page (open_row bucket label.version) blank_row opens.inside

  else_ : (page : ℕ) → (page ≡ label.page → ⊥) → row_at new page ≡ row_at old page
  else_ page other = get_or-set_other old.rows label.page page (open_row bucket label.version) blank_row other

  -- an opened label is another one
  apart : (other : Label) → WasOpened h other → same_label other label ≡ false
  apart other opened = false_from_ne_true (same_label other label) (λ same.
      let below : other.version < label.version = above_opened g h old bucket label was.paged opens was.run.legal other opened in
      let versions : other.version ≡ label.version = ap (λ (l : Label). l.version) (equal_labels other label same) in
      omega (arith, below, versions))

  -- no item has the label
  none_has : (key : List ℕ) (item : Item) (place : Option Place) → IsPlaced key (Some item) place → ((p : Place) → place ≡ Some p → WasOpened h p.label) → is_label label item.label ≡ false
  none_has key item None placed opened = ap (is_label label) placed
  none_has key item (Some place) placed opened = ap (is_label label) placed.label ∙ apart place.label (opened place refl)

  item_lacks : (key : List ℕ) (item : Item) → finite.get c.items key ≡ Some item → is_label label item.label ≡ false
  item_lacks key item there =
      none_has key item (finite.get desk.places key)
      (subst (λ (found : Option Item). IsPlaced key found (finite.get desk.places key)) there (was.placed key)) (was.opened key)

  counted_new : IsCounted c.items new label
  counted_new = record {
    records =
        ap (λ (row : PageRow). row.live) here
        ∙ sym (none_counts (one_if_labelled label) c.items (λ key item there. ap (λ (b : Bool). cond b 1 0) (item_lacks key item there)));
    bytes =
        ap (λ (row : PageRow). row.live_bytes) here
        ∙ sym (none_counts (bytes_if_labelled label) c.items (λ key item there. ap (λ (b : Bool). cond b (record_size key item) 0) (item_lacks key item there)));
  }

  -- a label of that page that hasn't ended is the one that was opened
  only : (other : Label) → has_ended new other ≡ false → other.page ≡ label.page → other ≡ label
  only other unended page =
      let version : (row_at new other.page).version ≡ other.version = eqb-true (row_of new other).version other.version (is_on new other unended).version in
      let row : (row_at new other.page).version ≡ label.version = ap (λ (p : ℕ). (row_at new p).version) page ∙ ap (λ (r : PageRow). r.version) here in
      let versions : other.version ≡ label.version = sym version ∙ row in
      λ j. record { page = page j; version = versions j }

  ended_else : (other : Label) → (other.page ≡ label.page → ⊥) → has_ended new other ≡ has_ended old other
  ended_else other apart = ap (λ (row : PageRow). not (nat_eq row.version other.version && is_in_use row.state)) (else_ other.page apart)

  counted_opened : AreCounted c.items new
  counted_opened other unended = elim (cases_eq other.page label.page) [
    | inl at ↦ subst (λ (l : Label). IsCounted c.items new l) (sym (only other unended at)) counted_new
    | inr apart ↦
        let before = was.counted other (sym (ended_else other apart) ∙ unended) in
        record {
          records = ap (λ (row : PageRow). row.live) (else_ other.page apart) ∙ before.records;
          bytes = ap (λ (row : PageRow). row.live_bytes) (else_ other.page apart) ∙ before.bytes;
        }
  ]

  -- a label that was opened before hasn't ended by the opening
  unended_before : (other : Label) → WasOpened h other → has_ended new other ≡ false → has_ended old other ≡ false
  unended_before other opened unended = elim (cases_eq other.page label.page) [
    | inl at ↦
        let below : other.version < label.version = above_opened g h old bucket label was.paged opens was.run.legal other opened in
        let versions : other.version ≡ label.version = ap (λ (l : Label). l.version) (only other unended at) in
        absurd (omega (arith, below, versions))
    | inr apart ↦ sym (ended_else other apart) ∙ unended
  ]

  opened_meets : Meets g h c (entries.Opened label)
  opened_meets = (passes_next_label g h label (next_label g h old bucket label was.paged opens), tt)

  module _ (blocks : BlockTable) (pages : blocks.pages ≡ new) (order : IsInOrder blocks) (size : blocks.buffers.size ≡ g.buffer_size) (keeps : KeepsRecords desk.blocks blocks) where
    held_opened : AreHeld (cache_of g later).items desk.places blocks
    held_opened =
        subst (λ (d : Cache). AreHeld d.items desk.places blocks) (sym (cache_of-append g h (entries.Opened label ∷ [])))
        (λ key item place there at unended.
        keeps key item place
        (was.held key item place there at
        (unended_before place.label (was.opened key place at) (ap (λ (t : PageTable). has_ended t place.label) (sym pages) ∙ unended))))

    -- what a store keeps, with the page opened
    pub opened_runs : Below → IsRunning g later c (record desk { blocks = blocks })
    opened_runs below = record {
      run = known_goes_on below.heads.known g h c c (entries.Opened label ∷ []) was.run (goes_one g h c c (entries.Opened label) opened_meets refl) (tt, tt);
      listed = was.listed;
      placed = was.placed;
      opened = places_opened g h old bucket label was.paged opens desk.places was.opened;
      paged = subst (λ (t : PageTable). ArePaged g later t) (sym pages) (paged_opened g h old bucket label was.paged opens was.run.legal);
      counted = subst (λ (t : PageTable). AreCounted c.items t) (sym pages) counted_opened;
      order = order;
      size = size;
      held = held_opened;
      unwritten = all_behind WritesNone h (entries.Opened label ∷ []) was.unwritten (tt, tt);
    }
