-- The desk stays that of the heads when one key's item changes.
use Rattle.std.proofs.Common.{◌≡◌, ◌⊎◌, ℕ, ◌+◌, ◌-◌, Bool, true, false, cond, List, length, Option, None, Some, inl, inr, refl, sym, ◌∙◌, ap, subst, arith}
use Rattle.std.specs.Prelude.{is_none}
use Rattle.std.specs.FinMap as finite
use Rattle.std.proofs.lemmas.Bool.{eqb-true}
use Rattle.flash_names.specs.declared.place.Label.{Label}
use Rattle.flash_names.specs.declared.place.Place.{Place}
use Rattle.flash_names.specs.Labels.{same_label}
use Rattle.flash_pages.specs.declared.page_row.PageRow.{PageRow}
use Rattle.flash_pages.specs.PageTable.{PageTable, row_of}
use Rattle.flash_pages.specs.Calls.{HasLive, has_ended}
use Rattle.flash_blocks.specs.BlockTable.{BlockTable}
use Rattle.flash_blocks.specs.Calls.{takes_live, table_after}
use Rattle.flash_blocks.specs.InOrder.{IsInOrder}
use Rattle.flash_blocks.specs.Laws.{EachCallKeepsOrder}
use Rattle.flash_machine.specs.Item.{Item}
use Rattle.flash_machine.specs.Cache.{Items}
use Rattle.flash_machine.specs.Load.{item_load, total}
use Rattle.flash_machine.specs.PageLabels.{is_label}
use Rattle.flash_machine.specs.Followed.{counted, one_if_labelled, labelled_count}
use Rattle.flash_machine.proofs.Totals.{total_insert, total_remove}
use Rattle.flash_machine.proofs.Same.{label_itself, equal_labels}
use Rattle.flash_index.specs.Laws.{EachPutIsListed, EachRemovalIsListed, EachChangeIsListed}
use Rattle.flash_index.specs.Listed.{IsListed}
use Rattle.flash_index.proofs.Lookups.{cases_key, put_here, put_else, cut_here, cut_else}
use Rattle.flash_calls.specs.Changes.{Change, leaves, stores, drops, with_stored, without_key, with_item, desk_after}
use Rattle.flash_calls.specs.Counted.{bytes_if_labelled, live_bytes, IsCounted, AreCounted}
use Rattle.flash_calls.specs.Placed.{record_size, IsAtPlace, IsPlaced, ArePlaced}
use Rattle.flash_index.specs.Places.{Places}
use Rattle.flash_calls.specs.Places.{given_back}
use Rattle.flash_calls.specs.Store.{Desk}
use Rattle.flash_calls.proofs.Paging.{row_at, SamePages, ended_same, is_on, row_here, row_else, same_given_back}

-- the desk is that of the items
pub record Stands (items : Items) (desk : Desk) : Type 0 where
  pub listed : IsListed items desk.lists
  pub placed : ArePlaced items desk.places
  pub counted : AreCounted items desk.blocks.pages
  pub order : IsInOrder desk.blocks

-- an item that changes, and keeps its value and its label
pub record IsRewritten (key : List ℕ) (old new : Items) : Type 0 where
  pub was : Item
  pub now : Item
  pub there : finite.get old key ≡ Some was
  pub new_is : new ≡ finite.insert old key now
  pub value : now.value ≡ was.value
  pub label : now.label ≡ was.label

-- an item that is stored in memory
pub record IsStored (key : List ℕ) (old new : Items) : Type 0 where
  pub item : Item
  pub new_is : new ≡ finite.insert old key item
  pub here : item.label ≡ None

-- what a command made of the items, by its change of the key's
abbrev pub IsChange : Change → List ℕ → Items → Items → Type 0
IsChange leaves key old new = (new ≡ old) ⊎ IsRewritten key old new
IsChange stores key old new = IsStored key old new
IsChange drops key old new = new ≡ finite.remove old key

-- places
module _ (key : List ℕ) (items : Items) (places : Places) (placed : ArePlaced items places) where
  placed_removed : ArePlaced (finite.remove items key) (finite.remove places key)
  placed_removed q = elim (cases_key q key) [
    | inl at ↦ subst (λ (k : List ℕ). IsPlaced k (finite.get (finite.remove items key) k) (finite.get (finite.remove places key) k)) (sym at)
        (subst (λ (found : Option Item). IsPlaced key found (finite.get (finite.remove places key) key)) (sym (cut_here items key))
        (subst (λ (place : Option Place). IsPlaced key None place) (sym (cut_here places key)) tt))
    | inr apart ↦
        subst (λ (found : Option Item). IsPlaced q found (finite.get (finite.remove places key) q)) (sym (cut_else items key q apart))
        (subst (λ (place : Option Place). IsPlaced q (finite.get items q) place) (sym (cut_else places key q apart)) (placed q))
  ]

  placed_stored : (item : Item) → item.label ≡ None → ArePlaced (finite.insert items key item) (finite.remove places key)
  placed_stored item here q = elim (cases_key q key) [
    | inl at ↦ subst (λ (k : List ℕ). IsPlaced k (finite.get (finite.insert items key item) k) (finite.get (finite.remove places key) k)) (sym at)
        (subst (λ (found : Option Item). IsPlaced key found (finite.get (finite.remove places key) key)) (sym (put_here items key item))
        (subst (λ (place : Option Place). IsPlaced key (Some item) place) (sym (cut_here places key)) here))
    | inr apart ↦
        subst (λ (found : Option Item). IsPlaced q found (finite.get (finite.remove places key) q)) (sym (put_else items key item q apart))
        (subst (λ (place : Option Place). IsPlaced q (finite.get items q) place) (sym (cut_else places key q apart)) (placed q))
  ]

  -- an item with the value and the label of the one before
  like_was : (was now : Item) (place : Option Place) → now.value ≡ was.value → now.label ≡ was.label → IsPlaced key (Some was) place → IsPlaced key (Some now) place
  like_was was now None value label at = label ∙ at
  like_was was now (Some place) value label at =
      record { label = label ∙ at.label; length = at.length ∙ ap (λ (v : List ℕ). 32 + length key + length v) (sym value) }

  placed_rewritten : (was now : Item) → finite.get items key ≡ Some was → now.value ≡ was.value → now.label ≡ was.label → ArePlaced (finite.insert items key now) places
  placed_rewritten was now there value label q = elim (cases_key q key) [
    | inl at ↦ subst (λ (k : List ℕ). IsPlaced k (finite.get (finite.insert items key now) k) (finite.get places k)) (sym at)
        (subst (λ (found : Option Item). IsPlaced key found (finite.get places key)) (sym (put_here items key now))
        (like_was was now (finite.get places key) value label (subst (λ (found : Option Item). IsPlaced key found (finite.get places key)) there (placed key))))
    | inr apart ↦ subst (λ (found : Option Item). IsPlaced q found (finite.get places q)) (sym (put_else items key now q apart)) (placed q)
  ]

-- what each label counts without the item that was under a key
pub record IsWithout (key : List ℕ) (items new : Items) : Type 0 where
  pub records : (label : Label) → labelled_count label new + counted (one_if_labelled label) key (finite.get items key) ≡ labelled_count label items
  pub bytes : (label : Label) → live_bytes label new + counted (bytes_if_labelled label) key (finite.get items key) ≡ live_bytes label items

removed_without : (key : List ℕ) (items : Items) → IsWithout key items (finite.remove items key)
removed_without key items = record {
  records = λ label. total_remove (one_if_labelled label) items key;
  bytes = λ label. total_remove (bytes_if_labelled label) items key;
}

-- an item in memory has no label
here_counts : (n : ℕ) (label : Label) (item : Item) → item.label ≡ None → cond (is_label label item.label) n 0 ≡ 0
here_counts n label item here = ap (λ (l : Option Label). cond (is_label label l) n 0) here

stored_without : (key : List ℕ) (items : Items) (item : Item) → item.label ≡ None → IsWithout key items (finite.insert items key item)
stored_without key items item here = record {
  records = λ label. total_insert (one_if_labelled label) items key item ∙ omega (arith, here_counts 1 label item here);
  bytes = λ label. total_insert (bytes_if_labelled label) items key item ∙ omega (arith, here_counts (record_size key item) label item here);
}

-- the pages after the item's place was given back
module _ (key : List ℕ) (items new : Items) (t : BlockTable) (without : IsWithout key items new) (was : AreCounted items t.pages) where
  -- an item that doesn't count for the label
  counted_else : (page : PageTable) (label : Label) → row_of page label ≡ row_of t.pages label → has_ended t.pages label ≡ false
      → counted (one_if_labelled label) key (finite.get items key) ≡ 0 → counted (bytes_if_labelled label) key (finite.get items key) ≡ 0 → IsCounted new page label
  counted_else page label same unended none no_bytes =
      let before = was label unended in record {
        records = ap (λ (row : PageRow). row.live) same ∙ before.records ∙ omega (arith, without.records label, none);
        bytes = ap (λ (row : PageRow). row.live_bytes) same ∙ before.bytes ∙ omega (arith, without.bytes label, no_bytes);
      }

  -- it counts for its own label
  module _ (item : Item) (there : finite.get items key ≡ Some item) where
    count_of : (n : ℕ) (label other : Label) → item.label ≡ Some other → cond (is_label label item.label) n 0 ≡ cond (same_label other label) n 0
    count_of n label other is = ap (λ (l : Option Label). cond (is_label label l) n 0) is

    records_of : (label other : Label) → item.label ≡ Some other → counted (one_if_labelled label) key (finite.get items key) ≡ cond (same_label other label) 1 0
    records_of label other is = ap (counted (one_if_labelled label) key) there ∙ count_of 1 label other is

    bytes_of : (label other : Label) → item.label ≡ Some other → counted (bytes_if_labelled label) key (finite.get items key) ≡ cond (same_label other label) (record_size key item) 0
    bytes_of label other is = ap (counted (bytes_if_labelled label) key) there ∙ count_of (record_size key item) label other is

    module _ (place : Place) (at : IsAtPlace key item place) where
      -- the label of the place has ended: others count as before
      ended_else : (label : Label) → has_ended t.pages place.label ≡ true → has_ended t.pages label ≡ false → (b : Bool) → same_label place.label label ≡ b → IsCounted new t.pages label
      ended_else label ended unended true same =
          absurd (cc (sym ended ∙ ap (has_ended t.pages) (equal_labels place.label label same) ∙ unended))
      ended_else label ended unended false other =
          counted_else t.pages label refl unended
          (records_of label place.label at.label ∙ ap (λ (b : Bool). cond b 1 0) other)
          (bytes_of label place.label at.label ∙ ap (λ (b : Bool). cond b (record_size key item) 0) other)

      -- it hasn't: its page counts one record fewer
      module _ (unended : has_ended t.pages place.label ≡ false) where
        abbrev taken : PageTable
        taken = (table_after (takes_live place) t).pages

        abbrev new_row : PageRow
        new_row = record (row_of t.pages place.label) { live = (row_of t.pages place.label).live - 1; live_bytes = (row_of t.pages place.label).live_bytes - place.length }

        its_row : row_of taken place.label ≡ new_row
        its_row = row_here t.pages place.label.page new_row (is_on t.pages place.label unended).inside refl refl

        -- so it has a live record of the place's length
        has_live : HasLive t.pages place.label place.length
        has_live =
            let before = was place.label unended in
            let on = is_on t.pages place.label unended in
            record {
              inside = on.inside;
              version = eqb-true (row_of t.pages place.label).version place.label.version on.version;
              some = omega (arith, before.records, without.records place.label, records_of place.label place.label at.label ∙ ap (λ (b : Bool). cond b 1 0) (label_itself place.label));
              there = omega (arith, before.bytes, at.length, without.bytes place.label, bytes_of place.label place.label at.label ∙ ap (λ (b : Bool). cond b (record_size key item) 0) (label_itself place.label));
            }

        -- labels of one page that haven't ended are one
        one_label : (label : Label) → has_ended t.pages label ≡ false → label.page ≡ place.label.page → same_label place.label label ≡ true
        one_label label also page =
            let one = eqb-true (row_of t.pages label).version label.version (is_on t.pages label also).version in
            let two = eqb-true (row_of t.pages place.label).version place.label.version (is_on t.pages place.label unended).version in
            let row : (row_of t.pages label).version ≡ (row_of t.pages place.label).version = ap (λ (p : ℕ). (row_at t.pages p).version) page in
            let versions : label.version ≡ place.label.version = sym one ∙ row ∙ two in
            ap (λ (l : Label). same_label place.label l) (λ j. record { page = page j; version = versions j }) ∙ label_itself place.label

        taken_its : (label : Label) → same_label place.label label ≡ true → IsCounted new taken label
        taken_its label same =
            let one = equal_labels place.label label same in
            let before = was place.label unended in
            subst (λ (l : Label). IsCounted new taken l) one (record {
              records =
                  ap (λ (row : PageRow). row.live) its_row
                  ∙ omega (arith, before.records, without.records place.label, records_of place.label place.label at.label ∙ ap (λ (b : Bool). cond b 1 0) (label_itself place.label));
              bytes =
                  ap (λ (row : PageRow). row.live_bytes) its_row
                  ∙ omega (arith, before.bytes, at.length, without.bytes place.label, bytes_of place.label place.label at.label ∙ ap (λ (b : Bool). cond b (record_size key item) 0) (label_itself place.label));
            })

        taken_else : (label : Label) → has_ended t.pages label ≡ false → same_label place.label label ≡ false → IsCounted new taken label
        taken_else label also other =
            let apart : label.page ≡ place.label.page → ⊥ = λ page. cc (sym other ∙ one_label label also page) in
            counted_else taken label (row_else t.pages place.label.page new_row (is_on t.pages place.label unended).inside refl refl label.page apart) also
            (records_of label place.label at.label ∙ ap (λ (b : Bool). cond b 1 0) other)
            (bytes_of label place.label at.label ∙ ap (λ (b : Bool). cond b (record_size key item) 0) other)

        taken_by : (label : Label) (b : Bool) → same_label place.label label ≡ b → has_ended t.pages label ≡ false → IsCounted new taken label
        taken_by label true same also = taken_its label same
        taken_by label false other also = taken_else label also other

      counted_at : (ended : Bool) → has_ended t.pages place.label ≡ ended → AreCounted new (cond ended t (table_after (takes_live place) t)).pages
      counted_at true is label unended = ended_else label is unended (same_label place.label label) refl
      counted_at false is label unended =
          taken_by is label (same_label place.label label) refl
          (sym (ended_same t.pages (taken is) label (same_given_back_at is)) ∙ unended)
        where
          same_given_back_at : (is : has_ended t.pages place.label ≡ false) → SamePages t.pages (taken is)
          same_given_back_at is = subst (λ (b : Bool). SamePages t.pages (cond b t (table_after (takes_live place) t)).pages) is (same_given_back t (Some place))

      order_at : EachCallKeepsOrder → IsInOrder t → (ended : Bool) → has_ended t.pages place.label ≡ ended → IsInOrder (cond ended t (table_after (takes_live place) t))
      order_at calls order true is = order
      order_at calls order false is = calls t (takes_live place) (has_live is) tt order

  order_by : EachCallKeepsOrder → IsInOrder t → (found : Option Item) (place : Option Place) → finite.get items key ≡ found → IsPlaced key found place → IsInOrder (given_back place t)
  order_by calls order found None there placed = order
  order_by calls order None (Some place) there placed = absurd placed
  order_by calls order (Some item) (Some place) there placed = order_at item there place placed calls order (has_ended t.pages place.label) refl

  counted_by : (found : Option Item) (place : Option Place) → finite.get items key ≡ found → IsPlaced key found place → AreCounted new (given_back place t).pages
  counted_by None None there placed = λ label unended.
      counted_else t.pages label refl unended (ap (counted (one_if_labelled label) key) there) (ap (counted (bytes_if_labelled label) key) there)
  counted_by None (Some place) there placed = absurd placed
  counted_by (Some item) None there placed = λ label unended.
      counted_else t.pages label refl unended
      (ap (counted (one_if_labelled label) key) there ∙ here_counts 1 label item placed)
      (ap (counted (bytes_if_labelled label) key) there ∙ here_counts (record_size key item) label item placed)
  counted_by (Some item) (Some place) there placed = counted_at item there place placed (has_ended t.pages place.label) refl

-- a rewritten item counts as the one before
module _ (key : List ℕ) (items : Items) (was now : Item) (there : finite.get items key ≡ Some was) (value : now.value ≡ was.value) (label : now.label ≡ was.label) where
  same_total : (count : List ℕ × Item → ℕ) → count (key, now) ≡ count (key, was) → total count (finite.entries (finite.insert items key now)) ≡ total count (finite.entries items)
  same_total count same = omega (arith, total_insert count items key now, ap (counted count key) there, same)

  pub counted_rewritten : (t : PageTable) → AreCounted items t → AreCounted (finite.insert items key now) t
  counted_rewritten t counts one unended = record {
    records = (counts one unended).records ∙ sym (same_total (one_if_labelled one) (ap (λ (l : Option Label). cond (is_label one l) 1 0) label));
    bytes =
        (counts one unended).bytes
        ∙ sym (same_total (bytes_if_labelled one) (λ j. cond (is_label one (label j)) (32 + length key + length (value j)) 0));
  }

  pub same_load : item_load key now ≡ item_load key was
  same_load = λ j. 64 + length key + cond (is_none (label j)) (length (value j)) 0

-- the desk after each change
module _ (calls : EachCallKeepsOrder) (put : EachPutIsListed) (removal : EachRemovalIsListed) (change : EachChangeIsListed) (key : List ℕ) (old : Items) (desk : Desk) (stands : Stands old desk) where
  pub stands_without : Stands (finite.remove old key) (without_key key desk)
  stands_without = record {
    listed = removal old desk.lists key stands.listed;
    placed = placed_removed key old desk.places stands.placed;
    counted = counted_by key old (finite.remove old key) desk.blocks (removed_without key old) stands.counted (finite.get old key) (finite.get desk.places key) refl (stands.placed key);
    order = order_by key old (finite.remove old key) desk.blocks (removed_without key old) stands.counted calls stands.order (finite.get old key) (finite.get desk.places key) refl (stands.placed key);
  }

  stands_with : (item : Item) → item.label ≡ None → Stands (finite.insert old key item) (with_item key item desk)
  stands_with item here = record {
    listed = put old desk.lists key item stands.listed;
    placed = placed_stored key old desk.places stands.placed item here;
    counted = counted_by key old (finite.insert old key item) desk.blocks (stored_without key old item here) stands.counted (finite.get old key) (finite.get desk.places key) refl (stands.placed key);
    order = order_by key old (finite.insert old key item) desk.blocks (stored_without key old item here) stands.counted calls stands.order (finite.get old key) (finite.get desk.places key) refl (stands.placed key);
  }

  stands_rewritten : (new : Items) → IsRewritten key old new → Stands new desk
  stands_rewritten new is = subst (λ (items : Items). Stands items desk) (sym is.new_is) (record {
    listed = change old desk.lists key is.was is.now stands.listed is.there (same_load key old is.was is.now is.there is.value is.label);
    placed = placed_rewritten key old desk.places stands.placed is.was is.now is.there is.value is.label;
    counted = counted_rewritten key old is.was is.now is.there is.value is.label desk.blocks.pages stands.counted;
    order = stands.order;
  })

  stands_stored : (new : Items) → IsStored key old new → Stands new (with_stored key (finite.get new key) desk)
  stands_stored new is =
      subst (λ (items : Items). Stands items (with_stored key (finite.get items key) desk)) (sym is.new_is)
      (subst (λ (found : Option Item). Stands (finite.insert old key is.item) (with_stored key found desk)) (sym (put_here old key is.item)) (stands_with is.item is.here))

  pub stands_after : (kind : Change) (new : Items) → IsChange kind key old new → Stands new (desk_after kind key (finite.get new key) desk)
  stands_after leaves new (inl same) = subst (λ (items : Items). Stands items desk) (sym same) stands
  stands_after leaves new (inr is) = stands_rewritten new is
  stands_after stores new is = stands_stored new is
  stands_after drops new is = subst (λ (items : Items). Stands items (without_key key desk)) (sym is) stands_without
