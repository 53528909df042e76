-- What a store keeps goes on where a record was put.
use Rattle.std.proofs.Common.{◌≡◌, ℕ, ◌+◌, Bool, true, false, not, ◌&&◌, cond, List, [], ◌∷◌, ◌++◌, length, Option, None, Some, if◌then◌else◌, inl, inr, refl, sym, ◌∙◌, ap, subst, arith}
use Rattle.std.specs.FinMap as finite
use Rattle.std.proofs.lemmas.Bool.{and_from, or_left, eqb-true}
use Rattle.std.proofs.lemmas.List.{length-replicate}
use Rattle.flash_names.specs.declared.place.Label.{Label}
use Rattle.flash_names.specs.declared.place.Place.{Place}
use Rattle.flash_names.specs.declared.geometry.Geometry.{Geometry}
use Rattle.flash_names.specs.Labels.{same_label}
use Rattle.flash_entry.specs.declared.entry.Entry.{Entry}
use Rattle.flash_entry.specs.declared.entry.Entry.TheVariants as entries
use Rattle.flash_pages.specs.declared.page_row.PageRow.{PageRow}
use Rattle.flash_pages.specs.PageTable.{PageTable, row_of}
use Rattle.flash_pages.specs.Calls.{has_ended, adds_live, table_after}
use Rattle.flash_blocks.specs.BlockTable.{BlockTable}
use Rattle.flash_blocks.specs.InOrder.{IsInOrder}
use Rattle.flash_machine.specs.Item.{moved_head, Item}
use Rattle.flash_machine.specs.Cache.{Cache, Items}
use Rattle.flash_machine.specs.Live.{is_expired_item, is_live, label_has_ended, passing_item, live_item}
use Rattle.flash_machine.specs.Load.{item_load}
use Rattle.flash_machine.specs.Followed.{counted, one_if_labelled, labelled_count}
use Rattle.flash_machine.specs.PageLabels.{page_label, is_label}
use Rattle.flash_machine.specs.RuleFacts.{IsInUse}
use Rattle.flash_machine.specs.Rules.{has_cas}
use Rattle.flash_machine.specs.Steps.{labelled, cache_of}
use Rattle.flash_machine.specs.Legal.{Meets}
use Rattle.flash_machine.proofs.Runs.{cache_of-append}
use Rattle.flash_machine.proofs.RuleMeanings.{passes_in_use}
use Rattle.flash_machine.proofs.Same.{number_itself, label_itself, equal_labels}
use Rattle.flash_machine.proofs.Totals.{total_insert}
use Rattle.flash_heads.specs.Kept.{AnItemInMemoryIsKnown, EachHeadIsOfAnItem}
use Rattle.flash_heads.specs.KnownRun.{AKnownRunGoesOnByAMove}
use Rattle.flash_heads.specs.Moves.{with_head}
use Rattle.flash_index.specs.KeyLists.{resized}
use Rattle.flash_index.specs.Listed.{IsListed}
use Rattle.flash_index.proofs.Lookups.{cases_key, put_here, put_else}
use Rattle.flash_calls.specs.Counted.{bytes_if_labelled, live_bytes, IsCounted, AreCounted}
use Rattle.flash_calls.specs.Held.{HoldsRecord, KeepsRecords, WritesNone, AreHeld}
use Rattle.flash_calls.specs.Paged.{ArePaged}
use Rattle.flash_calls.specs.Placed.{record_size, IsPlaced, ArePlaced, WasOpened, AreOpened}
use Rattle.flash_calls.specs.Running.{IsRunning}
use Rattle.flash_calls.specs.Store.{Desk}
use Rattle.flash_calls.proofs.Ending.{ended_alike}
use Rattle.flash_calls.proofs.Paging.{row_at, SamePages, ended_same, is_on, row_here, row_else, same_with_new, paged_kept, opened_kept}
use Rattle.flash_calls.proofs.Quiet.{all_behind}

-- an item that may be moved, and the place of its record in a page that is in use
pub record MayMove (h : List Entry) (c : Cache) (key : List ℕ) (item : Item) (place : Place) : Type 0 where
  pub there : finite.get c.items key ≡ Some item
  pub alive : is_expired_item c item ≡ false
  pub here : item.label ≡ None
  pub used : IsInUse h place.label
  pub size : place.length ≡ record_size key item

-- the blocks after the record was put: its page counts one more, the buffers hold it and what they held, they are in
-- order, and they keep their size
pub record WasPut (t new : BlockTable) (key : List ℕ) (item : Item) (place : Place) : Type 0 where
  pub pages : new.pages ≡ table_after (adds_live place.label place.length) t.pages
  pub holds : HoldsRecord new key item place
  pub keeps : KeepsRecords t new
  pub order : IsInOrder new
  pub size : new.buffers.size ≡ t.buffers.size

module _ (g : Geometry) (h : List Entry) (c : Cache) (desk : Desk) (was : IsRunning g h c desk) (key : List ℕ) (item : Item) (place : Place) (may : MayMove h c key item place) where
  abbrev label : Label
  label = place.label

  abbrev head : Item
  head = moved_head label item

  abbrev moved : Entry
  moved = entries.Moved key item.cas label

  abbrev after : List Entry
  after = h ++ moved ∷ []

  -- rule 12
  its_live : live_item h c key ≡ Some item
  its_live =
      ap (passing_item (is_live h c)) may.there
      ∙ (λ j. if not (may.alive j) && not (label_has_ended h (may.here j)) then Some item else None)

  move_meets : Meets g h c moved
  move_meets = (
    and_from (has_cas item.cas (live_item h c key)) _ (ap (has_cas item.cas) its_live ∙ number_itself item.cas) (passes_in_use h label may.used),
    tt,
  )

  -- places
  placed_moved : ArePlaced (finite.insert c.items key head) (finite.insert desk.places key place)
  placed_moved q = elim (cases_key q key) [
    | inl at ↦ subst (λ (k : List ℕ). IsPlaced k (finite.get (finite.insert c.items key head) k) (finite.get (finite.insert desk.places key place) k)) (sym at)
        (subst (λ (found : Option Item). IsPlaced key found (finite.get (finite.insert desk.places key place) key)) (sym (put_here c.items key head))
        (subst (λ (found : Option Place). IsPlaced key (Some head) found) (sym (put_here desk.places key place))
        (record { label = refl; length = may.size ∙ ap (λ (n : ℕ). 32 + length key + n) (sym (length-replicate (length item.value) 0)) })))
    | inr apart ↦
        subst (λ (found : Option Item). IsPlaced q found (finite.get (finite.insert desk.places key place) q)) (sym (put_else c.items key head q apart))
        (subst (λ (found : Option Place). IsPlaced q (finite.get c.items q) found) (sym (put_else desk.places key place q apart)) (was.placed q))
  ]

  label_opened : WasOpened h label
  label_opened = or_left (is_label label (page_label label.page h)) (label_has_ended h (Some label)) (ap (is_label label) may.used.has ∙ label_itself label)

  opened_with : AreOpened h (finite.insert desk.places key place)
  opened_with q at there = elim (cases_key q key) [
    | inl same ↦
        let one : place ≡ at = cc (sym (put_here desk.places key place) ∙ ap (finite.get (finite.insert desk.places key place)) (sym same) ∙ there) in
        subst (λ (p : Place). WasOpened h p.label) one label_opened
    | inr apart ↦ was.opened q at (sym (put_else desk.places key place q apart) ∙ there)
  ]

  opened_moved : AreOpened after (finite.insert desk.places key place)
  opened_moved = opened_kept h (moved ∷ []) (tt, tt) (finite.insert desk.places key place) (finite.insert desk.places key place) (λ q at there. there) opened_with

  -- pages
  abbrev old : PageTable
  old = desk.blocks.pages

  unended : has_ended old label ≡ false
  unended = ended_alike g h old was.paged label label_opened ∙ may.used.unended

  abbrev row : PageRow
  row = record (row_of old label) { live = (row_of old label).live + 1; live_bytes = (row_of old label).live_bytes + place.length }

  abbrev added : PageTable
  added = table_after (adds_live label place.length) old

  same_added : SamePages old added
  same_added = same_with_new old label.page row (is_on old label unended).inside refl refl

  paged_moved : ArePaged g after added
  paged_moved = paged_kept g h (moved ∷ []) old added (tt, tt) same_added was.paged

  -- counts
  abbrev items : Items
  items = finite.insert c.items key head

  none_counted : (n : ℕ) (other : Label) → cond (is_label other item.label) n 0 ≡ 0
  none_counted n other = ap (λ (l : Option Label). cond (is_label other l) n 0) may.here

  records_with : (other : Label) → labelled_count other items ≡ labelled_count other c.items + cond (same_label label other) 1 0
  records_with other = omega (arith, total_insert (one_if_labelled other) c.items key head, ap (counted (one_if_labelled other) key) may.there, none_counted 1 other)

  its_size : record_size key head ≡ place.length
  its_size = ap (λ (n : ℕ). 32 + length key + n) (length-replicate (length item.value) 0) ∙ sym may.size

  bytes_with : (other : Label) → live_bytes other items ≡ live_bytes other c.items + cond (same_label label other) (record_size key head) 0
  bytes_with other = omega (arith, total_insert (bytes_if_labelled other) c.items key head, ap (counted (bytes_if_labelled other) key) may.there, none_counted (record_size key item) other)

  counted_its : (other : Label) → same_label label other ≡ true → IsCounted items added other
  counted_its other same =
      let before = was.counted label unended in
      let one : cond {A = ℕ} (same_label label label) 1 0 ≡ 1 = ap (λ (b : Bool). cond b 1 0) (label_itself label) in
      let whole : cond {A = ℕ} (same_label label label) (record_size key head) 0 ≡ record_size key head = ap (λ (b : Bool). cond b (record_size key head) 0) (label_itself label) in
      let here : row_of added label ≡ row = row_here old label.page row (is_on old label unended).inside refl refl in
      subst (λ (l : Label). IsCounted items added l) (equal_labels label other same) (record {
        records = ap (λ (r : PageRow). r.live) here ∙ omega (arith, before.records, records_with label, one);
        bytes = ap (λ (r : PageRow). r.live_bytes) here ∙ omega (arith, before.bytes, bytes_with label, whole, its_size);
      })

  -- labels of one page that haven't ended are one
  one_label : (other : Label) → has_ended old other ≡ false → other.page ≡ label.page → same_label label other ≡ true
  one_label other also page =
      let one = eqb-true (row_of old other).version other.version (is_on old other also).version in
      let two = eqb-true (row_of old label).version label.version (is_on old label unended).version in
      let rows : (row_of old other).version ≡ (row_of old label).version = ap (λ (p : ℕ). (row_at old p).version) page in
      let versions : other.version ≡ label.version = sym one ∙ rows ∙ two in
      ap (λ (l : Label). same_label label l) (λ j. record { page = page j; version = versions j }) ∙ label_itself label

  counted_else : (other : Label) → has_ended old other ≡ false → same_label label other ≡ false → IsCounted items added other
  counted_else other also differs =
      let apart : other.page ≡ label.page → ⊥ = λ page. cc (sym differs ∙ one_label other also page) in
      let same : row_of added other ≡ row_of old other = row_else old label.page row (is_on old label unended).inside refl refl other.page apart in
      let before = was.counted other also in
      let none : cond {A = ℕ} (same_label label other) 1 0 ≡ 0 = ap (λ (b : Bool). cond b 1 0) differs in
      let no_bytes : cond {A = ℕ} (same_label label other) (record_size key head) 0 ≡ 0 = ap (λ (b : Bool). cond b (record_size key head) 0) differs in
      record {
        records = ap (λ (r : PageRow). r.live) same ∙ before.records ∙ omega (arith, records_with other, none);
        bytes = ap (λ (r : PageRow). r.live_bytes) same ∙ before.bytes ∙ omega (arith, bytes_with other, no_bytes);
      }

  counted_by : (other : Label) (b : Bool) → same_label label other ≡ b → has_ended old other ≡ false → IsCounted items added other
  counted_by other true same also = counted_its other same
  counted_by other false differs also = counted_else other also differs

  counted_moved : AreCounted items added
  counted_moved other open_now = counted_by other (same_label label other) refl (sym (ended_same old added other same_added) ∙ open_now)

  -- records
  module _ (known : AnItemInMemoryIsKnown) (of : EachHeadIsOfAnItem) where
    -- the item of the cache is the one that is known
    true_there : finite.get (cache_of g h).items key ≡ Some item
    true_there =
        let its = of (cache_of g h) key item (ap (λ (d : Cache). finite.get d.items key) (sym was.run.same) ∙ may.there) in
        let here : its.item.label ≡ None = ap (λ (i : Item). i.label) its.same ∙ may.here in
        its.there ∙ ap (λ (i : Item). Some i) (sym (known its.item here) ∙ its.same)

    abbrev moved_item : Item
    moved_item = record item { label = Some label }

    true_after : (cache_of g after).items ≡ finite.insert (cache_of g h).items key moved_item
    true_after =
        ap (λ (d : Cache). d.items) (cache_of-append g h (moved ∷ []))
        ∙ ap (λ (found : Option Item). (labelled (cache_of g h) key (Some label) found).items) true_there

    module _ (blocks : BlockTable) (put : WasPut desk.blocks blocks key item place) where
      held_with : AreHeld (finite.insert (cache_of g h).items key moved_item) (finite.insert desk.places key place) blocks
      held_with q it at there placed open_now = elim (cases_key q key) [
        | inl same ↦
            let one : moved_item ≡ it =
            cc (sym (put_here (cache_of g h).items key moved_item) ∙ ap (finite.get (finite.insert (cache_of g h).items key moved_item)) (sym same) ∙ there) in
            let its : place ≡ at = cc (sym (put_here desk.places key place) ∙ ap (finite.get (finite.insert desk.places key place)) (sym same) ∙ placed) in
            subst (λ (k : List ℕ). HoldsRecord blocks k it at) (sym same)
            (subst (λ (i : Item). HoldsRecord blocks key i at) one
            (subst (λ (p : Place). HoldsRecord blocks key moved_item p) its put.holds))
        | inr apart ↦
            put.keeps q it at
            (was.held q it at (sym (put_else (cache_of g h).items key moved_item q apart) ∙ there) (sym (put_else desk.places key place q apart) ∙ placed)
            (sym (ended_same old added at.label same_added) ∙ ap (λ (t : PageTable). has_ended t at.label) (sym put.pages) ∙ open_now))
      ]

      -- what a store keeps, with the value moved
      pub moved_runs : AKnownRunGoesOnByAMove → IsListed items (resized key (item_load key head) desk.lists)
          → IsRunning g after (with_head c key head) (record { lists = resized key (item_load key head) desk.lists; places = finite.insert desk.places key place; blocks = blocks })
      moved_runs moves listed = record {
        run = moves g c h key item.cas label item was.run move_meets may.there;
        listed = listed;
        placed = placed_moved;
        opened = opened_moved;
        paged = subst (λ (t : PageTable). ArePaged g after t) (sym put.pages) paged_moved;
        counted = subst (λ (t : PageTable). AreCounted items t) (sym put.pages) counted_moved;
        order = put.order;
        size = put.size ∙ was.size;
        held = subst (λ (m : Items). AreHeld m (finite.insert desk.places key place) blocks) (sym true_after) held_with;
        unwritten = all_behind WritesNone h (moved ∷ []) was.unwritten (tt, tt);
      }
