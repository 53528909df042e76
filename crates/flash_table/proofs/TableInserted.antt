-- A table after a key is inserted.
use Rattle.std.proofs.Common.{◌≡◌, ◌≢◌, ℕ, ◌+◌, ◌-◌, ◌<◌, ◌≤◌, cond, List, length, set, length-set, inl, inr, Option, Some, None, sym, ap, subst, ◌∙◌, arith}
use Rattle.std.specs.Prelude.{is_some}
use Rattle.std.specs.Option.{unwrap_or, IsSome}
use Rattle.std.proofs.lemmas.List.{length-map}
use Rattle.std.specs.Cmp.{nat_cmp_total}
use Rattle.std.specs.Cmp.Lexicographic.{nat_list_cmp_total}
use Rattle.std.specs.FinMap as finite
use Rattle.std.specs.FinMap.{nat_cmp-IsAntisymmetric}
use Rattle.flash_keys.specs.Classes.{Classes}
use Rattle.flash_keys.specs.Names.{named, NamesOnly}
use Rattle.flash_names.specs.KeyHash.{hash_of}
use Rattle.flash_table.specs.declared.entry.Entry.{Entry}
use Rattle.flash_table.specs.Chains.{chain_of, with_entry, HasEmpty, AreChains, IsHomed}
use Rattle.flash_table.specs.Entries.{vacant, entry_at}
use Rattle.flash_table.specs.Flat.{flat}
use Rattle.flash_table.specs.Held.{key_and_item, id_and_key, HasKey, IsRight, IsSound}
use Rattle.flash_table.specs.Home.{home, power as power_of}
use Rattle.flash_table.specs.Maps.{items_in, keys_in}
use Rattle.flash_table.specs.Slots.{Slot, slots_in, slot_at, with_slot, FillsFirst}
use Rattle.flash_table.specs.Table.{IsTable}
use Rattle.flash_table.proofs.ChainSlots.{in_flat, slots_with, still_empty}
use Rattle.flash_table.proofs.Flat.{offset, flat_at, flat_set, flat_inside}
use Rattle.flash_table.proofs.Held.{equal_or_not, empty_pair, vacant_pair, full_pair, id_is}
use Rattle.flash_table.proofs.Inserted as inserted
use Rattle.flash_table.proofs.Look.{look_nowhere}
use Rattle.flash_table.proofs.Maps.{get_keys}
use Rattle.flash_table.proofs.Slots.{chain_seen, slot_seen, slots_written, slots_same}

-- where the last insert has left each chain with an empty slot, each has one
pub each_empty : (store : Classes) (chains : List (List Entry)) (power last spare count h : ℕ) → IsTable store chains power last spare count → 1 ≤ spare → h < length chains → HasEmpty (chain_of chains h)
each_empty store chains power last spare count h table some inside =
    elim (equal_or_not h last) [
      | inl here ↦ subst (λ (g : ℕ). HasEmpty (chain_of chains g)) (sym here) (table.ready some).empty
      | inr away ↦ table.empties h inside away
    ]

module _ (store next : Classes) (chains : List (List Entry)) (power last spare count : ℕ) (table : IsTable store chains power last spare count) (e : Entry) (key : List ℕ) (h slot : ℕ)
    (fresh : named store e.id.number ≡ None) (names : NamesOnly store next e.id.number (Some key)) (has : HasKey next e key)
    (at_home : home (length chains) (hash_of key) ≡ h) (home_inside : h < length chains) (inside : slot < length (chain_of chains h)) (empty : (entry_at (chain_of chains h) slot).tag ≡ 0)
    (absent : finite.get (items_in store (flat chains)) key ≡ None) (some : 1 ≤ spare) where
  index : ℕ
  index = offset chains h + slot

  index_inside : index < length (flat chains)
  unfolding index
  index_inside = flat_inside chains h slot home_inside inside

  index_empty : (entry_at (flat chains) index).tag ≡ 0
  unfolding index
  index_empty = ap (λ (o : Entry). o.tag) (flat_at chains h slot vacant home_inside inside) ∙ empty

  flat_is : flat (with_entry chains h slot e) ≡ set (flat chains) index e
  unfolding index
  flat_is = flat_set chains h slot e home_inside inside

  sound : IsSound store (flat chains)
  sound = table.chained.sound

  pub map_is : items_in next (flat (with_entry chains h slot e)) ≡ finite.insert (items_in store (flat chains)) key e.item
  map_is = ap (items_in next) flat_is ∙ inserted.items_are store next (flat chains) sound e key index fresh names has index_inside index_empty absent

  pub keys_are : keys_in next (flat (with_entry chains h slot e)) ≡ finite.insert (keys_in store (flat chains)) e.id.number key
  keys_are = ap (keys_in next) flat_is ∙ inserted.keys_are store next (flat chains) sound e key index fresh names has index_inside index_empty absent

  pub id_is_new : finite.get (keys_in store (flat chains)) e.id.number ≡ None
  id_is_new =
      get_keys store (flat chains) e.id.number
      ∙ look_nowhere nat_cmp_total nat_cmp-IsAntisymmetric (id_and_key store) vacant (vacant_pair store).1 (flat chains) e.id.number
      (λ i q is.
      let at = id_is store (entry_at (flat chains) i) e.id.number q (sound.right i) is in
      let taken = at.0.names in
      let none : named store (entry_at (flat chains) i).id.number ≡ None = ap (named store) at.1 ∙ fresh in
      cc)

  long : length (with_entry chains h slot e) ≡ length chains
  long = length-set chains h (set (chain_of chains h) slot e)

  homed_now : IsHomed (length (with_entry chains h slot e)) next (with_entry chains h slot e)
  homed_now g i q x is =
      ap (λ (n : ℕ). home n (hash_of q)) long
      ∙ elim (slots_with chains h slot e g i home_inside inside) [
        | inl here ↦
            let both : ◌≡◌ {A = Option (List ℕ × ℕ)} (Some (key, e.item)) (Some (q, x)) = sym (full_pair next e key has).0 ∙ ap (key_and_item next) (sym here.2) ∙ is in
            let keys : key ≡ q = ap (λ (o : Option (List ℕ × ℕ)). (unwrap_or o (q, x)).0) both in
            ap (λ (p : List ℕ). home (length chains) (hash_of p)) (sym keys) ∙ at_home ∙ sym here.0
        | inr same ↦
            let at = in_flat chains g i in
            let before = (inserted.pairs_as_before store next (flat chains) sound e key index fresh names has index_inside index_empty absent at.0).0 in
            table.chained.homed g i q x (ap (key_and_item store) (sym at.1) ∙ sym before ∙ ap (key_and_item next) at.1 ∙ ap (key_and_item next) (sym same.1) ∙ is)
      ]

  chained_now : AreChains next (with_entry chains h slot e)
  chained_now = record {
    some = omega (arith, long, table.chained.some);
    few = omega (arith, long, table.chained.few);
    sound = subst (IsSound next) (sym flat_is) (inserted.sound_now store next (flat chains) sound e key index fresh names has index_inside index_empty absent);
    homed = homed_now;
  }

  counted_now : count + 1 ≡ finite.len (items_in next (flat (with_entry chains h slot e)))
  counted_now =
      ap (λ (n : ℕ). n + 1) table.counted
      ∙ sym (ap finite.len map_is ∙ finite.len-insert nat_list_cmp_total (items_in store (flat chains)) key e.item
      ∙ ap (λ (o : Option ℕ). cond (is_some o) (finite.len (items_in store (flat chains))) (finite.len (items_in store (flat chains)) + 1)) absent)

  pub table_now : IsTable next (with_entry chains h slot e) power h (spare - 1) (count + 1)
  table_now = record {
    chained = chained_now;
    powered = table.powered ∙ ap power_of (sym long);
    last_inside = omega (arith, long, home_inside);
    counted = counted_now;
    one_spare = omega (arith, table.one_spare);
    empties = λ g g_inside away. still_empty chains h slot e g home_inside away (each_empty store chains power last spare count g table some (omega (arith, long, g_inside)));
    ready = λ more. absurd (omega (arith, more, table.one_spare));
  }

  -- ---- what is seen of the slots

  same_pairs : (g i : ℕ) → key_and_item next (entry_at (chain_of chains g) i) ≡ key_and_item store (entry_at (chain_of chains g) i)
  same_pairs g i =
      let at = in_flat chains g i in
      ap (key_and_item next) (sym at.1) ∙ (inserted.pairs_as_before store next (flat chains) sound e key index fresh names has index_inside index_empty absent at.0).0 ∙ ap (key_and_item store) at.1

  some_slot : (i : ℕ) → (entry_at (chain_of chains h) i).tag ≢ 0 → IsSome (slot_at (slots_in store chains) h i)
  some_slot i tagged =
      let at = in_flat chains h i in
      let right : IsRight store (entry_at (chain_of chains h) i) = subst (IsRight store) at.1 (sound.right at.0) in
      elim right [
        | inl none ↦ absurd (tagged none)
        | inr other ↦ ap is_some (slot_seen store chains h i ∙ (full_pair store (entry_at (chain_of chains h) i) other.0 other.1).0)
      ]

  slots_are : slots_in next (with_entry chains h slot e) ≡ with_slot (slots_in store chains) h slot (Some (key, e.item))
  slots_are =
      slots_written next chains h slot e
      ∙ ap (λ (cs : List (List Slot)). with_slot cs h slot (key_and_item next e)) (slots_same store next chains same_pairs)
      ∙ ap (λ (s : Slot). with_slot (slots_in store chains) h slot s) (full_pair next e key has).0

  fills_there : ((j : ℕ) → j < slot → (entry_at (chain_of chains h) j).tag ≢ 0) → FillsFirst (slots_in store chains) (slots_in next (with_entry chains h slot e)) h key e.item
  fills_there before = record {
    slot = slot;
    inside = omega (arith, inside, ap length (chain_seen store chains h), length-map (chain_of chains h) (key_and_item store));
    empty = slot_seen store chains h slot ∙ (empty_pair store (entry_at (chain_of chains h) slot) empty).0;
    first = λ i less. some_slot i (before i less);
    filled = slots_are;
  }

  pub fills_first : ((j : ℕ) → j < slot → (entry_at (chain_of chains h) j).tag ≢ 0) → FillsFirst (slots_in store chains) (slots_in next (with_entry chains h slot e)) (home (length chains) (hash_of key)) key e.item
  fills_first before = subst (λ (g : ℕ). FillsFirst (slots_in store chains) (slots_in next (with_entry chains h slot e)) g key e.item) (sym at_home) (fills_there before)
