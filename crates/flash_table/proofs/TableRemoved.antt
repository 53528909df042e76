-- A table after a key is taken away.
use Rattle.std.proofs.Common.{◌≡◌, ℕ, ◌-◌, ◌<◌, ◌≤◌, cond, List, length, set, length-set, inl, inr, Option, Some, None, sym, ap, subst, ◌∙◌, arith}
use Rattle.std.specs.Prelude.{is_some}
use Rattle.std.specs.Cmp.Lexicographic.{slice_cmp, nat_list_cmp_total}
use Rattle.std.specs.Ordering.{nat_cmp}
use Rattle.std.specs.FinMap as finite
use Rattle.flash_keys.specs.Classes.{Classes}
use Rattle.flash_keys.specs.Names.{named, NamesOnly}
use Rattle.flash_keys.specs.Room.{HasRoom}
use Rattle.flash_names.specs.KeyHash.{hash_of}
use Rattle.flash_table.specs.declared.entry.Entry.{Entry}
use Rattle.flash_table.specs.Chains.{chain_of, with_entry, HasEmpty, IsHomed, IsSlotOf}
use Rattle.flash_table.specs.Entries.{vacant, entry_at}
use Rattle.flash_table.specs.Flat.{flat}
use Rattle.flash_table.specs.Held.{key_and_item, HasKey, IsSound}
use Rattle.flash_table.specs.Home.{home, power as power_of}
use Rattle.flash_table.specs.Maps.{items_in, keys_in}
use Rattle.flash_table.specs.Slots.{Slot, slots_in, with_slot, Empties}
use Rattle.flash_table.specs.Table.{IsTable, IsReady}
use Rattle.flash_table.proofs.ChainSlots.{in_flat, slots_with, still_empty, empty_now, index, index_inside, at_index, has_key, flat_with, item_found}
use Rattle.flash_table.proofs.Held.{equal_or_not, full_pair, vacant_pair, unnamed_pair, same_pair}
use Rattle.flash_table.proofs.Removed as removed
use Rattle.flash_table.proofs.Slots.{slot_seen, slots_written, slots_same}

module _ (store next : Classes) (chains : List (List Entry)) (power last spare count : ℕ) (table : IsTable store chains power last spare count) (key : List ℕ) (h slot : ℕ)
    (at : IsSlotOf store chains key h slot) (names : NamesOnly store next (entry_at (chain_of chains h) slot).id.number None) (room : HasRoom store → HasRoom next) where
  abbrev now : List (List Entry)
  now = with_entry chains h slot vacant

  k : ℕ
  k = index store chains table.chained key h slot at

  k_inside : k < length (flat chains)
  unfolding k
  k_inside = index_inside store chains table.chained key h slot at

  k_entry : entry_at (flat chains) k ≡ entry_at (chain_of chains h) slot
  unfolding k
  k_entry = at_index store chains table.chained key h slot at

  k_has : HasKey store (entry_at (flat chains) k) key
  unfolding k
  k_has = has_key store chains table.chained key h slot at

  flat_is : flat now ≡ set (flat chains) k vacant
  unfolding k
  flat_is = flat_with store chains table.chained key h slot at vacant

  k_names : NamesOnly store next (entry_at (flat chains) k).id.number None
  k_names = subst (λ (e : Entry). NamesOnly store next e.id.number None) (sym k_entry) names

  pub map_is : items_in next (flat now) ≡ finite.remove (items_in store (flat chains)) key
  map_is = ap (items_in next) flat_is ∙ removed.items_are store next (flat chains) table.chained.sound k key k_inside k_has k_names

  pub keys_are : keys_in next (flat now) ≡ finite.remove (keys_in store (flat chains)) (entry_at (chain_of chains h) slot).id.number
  keys_are =
      ap (keys_in next) flat_is ∙ removed.keys_are store next (flat chains) table.chained.sound k key k_inside k_has k_names
      ∙ ap (λ (e : Entry). finite.remove (keys_in store (flat chains)) e.id.number) k_entry

  found : finite.get (items_in store (flat chains)) key ≡ Some (entry_at (chain_of chains h) slot).item
  found = item_found store chains table.chained key h slot at

  none_of_zero : finite.len (items_in store (flat chains)) ≡ 0 → ⊥
  none_of_zero zero =
      let none : finite.get (items_in store (flat chains)) key ≡ None = ap (λ m. finite.get m key) (finite.empty_of_len (items_in store (flat chains)) zero) ∙ finite.get-empty (slice_cmp nat_cmp) key in
      let is = found in
      cc

  pub some_counted : 1 ≤ count
  some_counted =
      elim (equal_or_not count 0) [
        | inl zero ↦ absurd (none_of_zero (sym table.counted ∙ zero))
        | inr more ↦ omega (arith, more)
      ]

  long : length now ≡ length chains
  long = length-set chains h (set (chain_of chains h) slot vacant)

  -- an entry that has a pair now had it before
  had : (e : Entry) (q : List ℕ) (x : ℕ) → key_and_item next e ≡ Some (q, x) → key_and_item store e ≡ Some (q, x)
  had e q x is =
      elim (equal_or_not e.id.number (entry_at (chain_of chains h) slot).id.number) [
        | inl here ↦ let no : key_and_item next e ≡ None = unnamed_pair next e (ap (named next) here ∙ names.here) in cc
        | inr away ↦ sym (same_pair store next e (names.others e.id.number away)).0 ∙ is
      ]

  homed_now : IsHomed (length now) next now
  homed_now g i q x is =
      ap (λ (n : ℕ). home n (hash_of q)) long
      ∙ elim (slots_with chains h slot vacant g i at.home_inside at.slot_inside) [
        | inl here ↦ let no : key_and_item next (entry_at (chain_of now g) i) ≡ None = ap (key_and_item next) here.2 ∙ (vacant_pair next).0 in cc
        | inr same ↦ table.chained.homed g i q x (ap (key_and_item store) (sym same.1) ∙ had (entry_at (chain_of now g) i) q x is)
      ]

  empty_too : (g : ℕ) → g < length chains → HasEmpty (chain_of chains g) → HasEmpty (chain_of now g)
  empty_too g inside empty =
      elim (equal_or_not g h) [
        | inl here ↦ subst (λ (f : ℕ). HasEmpty (chain_of now f)) (sym here) (empty_now chains h slot at.home_inside at.slot_inside)
        | inr away ↦ still_empty chains h slot vacant g at.home_inside away empty
      ]

  counted_now : count - 1 ≡ finite.len (items_in next (flat now))
  counted_now =
      ap (λ (n : ℕ). n - 1) table.counted
      ∙ sym (ap finite.len map_is ∙ finite.len-remove nat_list_cmp_total (items_in store (flat chains)) key
      ∙ ap (λ (o : Option ℕ). cond (is_some o) (finite.len (items_in store (flat chains)) - 1) (finite.len (items_in store (flat chains)))) found)

  ready_now : 1 ≤ spare → IsReady next (chain_of now last) (count - 1)
  ready_now some =
      let was = table.ready some in
      record {
        empty = empty_too last table.last_inside was.empty;
        room = room was.room;
        low = omega (arith, was.low);
      }

  pub table_now : IsTable next now power last spare (count - 1)
  table_now = record {
    chained = record {
      some = omega (arith, long, table.chained.some);
      few = omega (arith, long, table.chained.few);
      sound = subst (IsSound next) (sym flat_is) (removed.sound_now store next (flat chains) table.chained.sound k key k_inside k_has k_names);
      homed = homed_now;
    };
    powered = table.powered ∙ ap power_of (sym long);
    last_inside = omega (arith, long, table.last_inside);
    counted = counted_now;
    one_spare = table.one_spare;
    empties = λ g inside away. empty_too g (omega (arith, long, inside)) (table.empties g (omega (arith, long, inside)) away);
    ready = ready_now;
  }

  -- ---- what is seen of the slots

  same_pairs : (g i : ℕ) → key_and_item next (entry_at (chain_of now g) i) ≡ key_and_item store (entry_at (chain_of now g) i)
  same_pairs g i =
      let there = in_flat now g i in
      let entry : entry_at (set (flat chains) k vacant) there.0 ≡ entry_at (chain_of now g) i = ap (λ (es : List Entry). entry_at es there.0) (sym flat_is) ∙ there.1 in
      ap (key_and_item next) (sym entry) ∙ (removed.pairs_now store next (flat chains) table.chained.sound k key k_inside k_has k_names there.0).0 ∙ ap (key_and_item store) entry

  slots_are : slots_in next now ≡ with_slot (slots_in store chains) h slot None
  slots_are =
      slots_same store next now same_pairs
      ∙ slots_written store chains h slot vacant
      ∙ ap (λ (s : Slot). with_slot (slots_in store chains) h slot s) (vacant_pair store).0

  pub empties : Empties (slots_in store chains) (slots_in next now) (home (length chains) (hash_of key)) key (entry_at (chain_of chains h) slot).item
  empties =
      let pair = (full_pair store (entry_at (chain_of chains h) slot) key at.has).0 in
      subst (λ (g : ℕ). Empties (slots_in store chains) (slots_in next now) g key (entry_at (chain_of chains h) slot).item)
      (sym (table.chained.homed h slot key (entry_at (chain_of chains h) slot).item pair))
      (record { slot = slot; had = slot_seen store chains h slot ∙ pair; emptied = slots_are })
