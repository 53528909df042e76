-- The record of each place of a sound store may be given up.
use Rattle.std.proofs.Common.{◌≡◌, ℕ, ◌+◌, ◌<◌, ◌≤◌, Bool, true, false, cond, List, length, Option, None, Some, refl, sym, ◌∙◌, ap, subst, arith}
use Rattle.std.specs.Prelude.{nat_eq}
use Rattle.std.specs.FinMap as finite
use Rattle.std.proofs.lemmas.Bool.{eqb-true}
use Rattle.flash_names.specs.declared.place.Label.{Label}
use Rattle.flash_names.specs.declared.place.Place.{Place}
use Rattle.flash_names.specs.declared.geometry.Geometry.{Geometry}
use Rattle.flash_entry.specs.declared.entry.Entry.{Entry}
use Rattle.flash_pages.specs.PageTable.{row_of}
use Rattle.flash_pages.specs.Calls.{HasLive, has_ended}
use Rattle.flash_blocks.specs.BlockTable.{BlockTable}
use Rattle.flash_machine.specs.Item.{Item}
use Rattle.flash_machine.specs.Cache.{Cache, Items}
use Rattle.flash_machine.specs.Followed.{counted, one_if_labelled, labelled_count}
use Rattle.flash_machine.specs.PageLabels.{is_label}
use Rattle.flash_machine.proofs.Same.{label_itself}
use Rattle.flash_machine.proofs.Totals.{total_remove}
use Rattle.flash_index.specs.IndexState.{IndexState}
use Rattle.flash_calls.specs.Counted.{bytes_if_labelled, live_bytes}
use Rattle.flash_calls.specs.Placed.{record_size, IsAtPlace, IsPlaced}
use Rattle.flash_calls.specs.Running.{IsRunning}
use Rattle.flash_calls.specs.Store.{Desk}
use Rattle.flash_calls.proofs.Paging.{is_on}
use Rattle.flash_core.specs.Desks.{MayBeGiven, AreFit, desk_of}
use Rattle.flash_core.specs.Sound.{HasRun, IsSound}
use Rattle.flash_core.proofs.Inside.{opened_page}

-- what is at a place
record IsThere (key : List ℕ) (found : Option Item) (place : Place) : Type 0 where
  item : Item
  there : found ≡ Some item
  at : IsAtPlace key item place

there_by : (key : List ℕ) (found : Option Item) (place : Place) → IsPlaced key found (Some place) → IsThere key found place
there_by key None place is = absurd is
there_by key (Some item) place is = record { item = item; there = refl; at = is }

bare_by : (key : List ℕ) (found : Option Place) → IsPlaced key None found → found ≡ None
bare_by key None is = refl
bare_by key (Some place) is = absurd is

module _ (items : Items) (key : List ℕ) (item : Item) (place : Place) (there : finite.get items key ≡ Some item) (at : IsAtPlace key item place) where
  one_counts : (n : ℕ) → cond (is_label place.label item.label) n 0 ≡ n
  one_counts n = ap (λ (l : Option Label). cond (is_label place.label l) n 0) at.label ∙ ap (λ (b : Bool). cond b n 0) (label_itself place.label)

  -- its label counts it
  some_counted : 0 < labelled_count place.label items
  some_counted =
      let here : counted (one_if_labelled place.label) key (finite.get items key) ≡ 1 = ap (counted (one_if_labelled place.label) key) there ∙ one_counts 1 in
      omega (arith, total_remove (one_if_labelled place.label) items key, here)

  bytes_counted : record_size key item ≤ live_bytes place.label items
  bytes_counted =
      let here : counted (bytes_if_labelled place.label) key (finite.get items key) ≡ record_size key item = ap (counted (bytes_if_labelled place.label) key) there ∙ one_counts (record_size key item) in
      omega (arith, total_remove (bytes_if_labelled place.label) items key, here)

module _ (g : Geometry) (h : List Entry) (c : Cache) (desk : Desk) (is : IsRunning g h c desk) (key : List ℕ) (place : Place) (at : finite.get desk.places key ≡ Some place) where
  inside : place.label.page < length desk.blocks.pages.rows
  inside = subst (λ (n : ℕ). place.label.page < n) (sym is.paged.rows) (opened_page g h is.run.legal place.label (is.opened key place at))

  found : IsThere key (finite.get c.items key) place
  found = there_by key (finite.get c.items key) place (subst (λ (p : Option Place). IsPlaced key (finite.get c.items key) p) at (is.placed key))

  live : has_ended desk.blocks.pages place.label ≡ false → HasLive desk.blocks.pages place.label place.length
  live unended =
      let counts = is.counted place.label unended in
      let some : 0 < labelled_count place.label c.items = some_counted c.items key found.item place found.there found.at in
      let bytes : record_size key found.item ≤ live_bytes place.label c.items = bytes_counted c.items key found.item place found.there found.at in
      record {
        inside = inside;
        version = eqb-true (row_of desk.blocks.pages place.label).version place.label.version (is_on desk.blocks.pages place.label unended).version;
        some = omega (arith, counts.records, some);
        there = omega (arith, counts.bytes, bytes, found.at.length);
      }

  may_be_given : MayBeGiven desk.blocks.pages place
  may_be_given = record { inside = inside; live = live }

pub fit_of : (g : Geometry) (memory : ℕ) (c : Cache) (s : IndexState) (t : BlockTable) (told : Option (List Entry)) → c.items ≡ s.items → IsSound g memory c (desk_of s t) told → AreFit s t
fit_of g memory c s t told same sound =
    let is = sound.runs.runs in
    record {
      given = may_be_given g sound.runs.run c (desk_of s t) is;
      bare = λ key none. bare_by key (finite.get s.places key)
          (subst (λ (found : Option Item). IsPlaced key found (finite.get s.places key)) (ap (λ (m : Items). finite.get m key) same ∙ none) (is.placed key));
    }

-- so it is where there is room for more items
pub fit_with_room : (s s2 : IndexState) (t : BlockTable) → s2 ≡ record s { spare = s2.spare } → AreFit s t → AreFit s2 t
fit_with_room s s2 t same fit = subst (λ (u : IndexState). AreFit u t) (sym same) (record { given = fit.given; bare = fit.bare })
