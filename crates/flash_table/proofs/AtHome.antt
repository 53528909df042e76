-- Each key is in a slot of its home.
use Rattle.std.proofs.Common.{◌≡◌, ℕ, ◌+◌, ◌<◌, List, [], length, inl, inr, Some, None, sym, ap, subst, ◌∙◌, arith}
use Rattle.std.specs.Cmp.Lexicographic.{nat_list_cmp_total}
use Rattle.std.specs.FinMap as finite
use Rattle.std.proofs.lemmas.List.{length-map}
use Rattle.flash_keys.specs.Classes.{Classes}
use Rattle.flash_names.specs.KeyHash.{hash_of}
use Rattle.flash_table.specs.declared.entry.Entry.{Entry}
use Rattle.flash_table.specs.AtHome.{HasKeysAtHome}
use Rattle.flash_table.specs.Chains.{chain_of, AreChains}
use Rattle.flash_table.specs.Entries.{vacant, entry_at}
use Rattle.flash_table.specs.Flat.{flat}
use Rattle.flash_table.specs.Held.{key_and_item}
use Rattle.flash_table.specs.Home.{home}
use Rattle.flash_table.specs.Maps.{items_in}
use Rattle.flash_table.specs.Slots.{slots_of, slots_in, slot_at}
use Rattle.flash_table.specs.Table.{state_of}
use Rattle.flash_table.proofs.ById.{item_of}
use Rattle.flash_table.proofs.ChainSlots.{past, in_flat}
use Rattle.flash_table.proofs.Flat.{either, offset, flat_at, located}
use Rattle.flash_table.proofs.Held.{vacant_pair, pair_is}
use Rattle.flash_table.proofs.Look.{look_found}
use Rattle.flash_table.proofs.Slots.{slot_seen}
use Rattle.flash_table.proofs.Maps.{bytes_same, get_items}

module _ (store : Classes) (chains : List (List Entry)) (are : AreChains store chains) where
  pair_at : (h i : ℕ) (key : List ℕ) (item : ℕ) → slot_at (slots_in store chains) h i ≡ Some (key, item) → key_and_item store (entry_at (chain_of chains h) i) ≡ Some (key, item)
  pair_at h i key item is = sym (slot_seen store chains h i) ∙ is

  held : (h i : ℕ) (key : List ℕ) (item : ℕ) → slot_at (slots_in store chains) h i ≡ Some (key, item) → finite.get (items_in store (flat chains)) key ≡ Some item
  held h i key item is =
      let k = in_flat chains h i in
      let pair = pair_is store (entry_at (flat chains) k.0) key item (are.sound.right k.0) (ap (key_and_item store) k.1 ∙ pair_at h i key item is) in
      item_of store (flat chains) are.sound k.0 key pair.0 ∙ ap (λ (x : ℕ). Some x) pair.1

  each : (key : List ℕ) (item : ℕ) → finite.get (items_in store (flat chains)) key ≡ Some item → (i : ℕ) × (slot_at (slots_in store chains) (home (length chains) (hash_of key)) i ≡ Some (key, item))
  each key item is =
      let found = look_found nat_list_cmp_total bytes_same (key_and_item store) vacant (vacant_pair store).0 (flat chains) key item (sym (get_items store (flat chains) key) ∙ is) in
      let at = located chains found.0 found.1 in
      let same : entry_at (flat chains) found.0 ≡ entry_at (chain_of chains at.0) at.1 = ap (entry_at (flat chains)) at.2.sum ∙ flat_at chains at.0 at.1 vacant at.2.list at.2.inside in
      let pair : key_and_item store (entry_at (chain_of chains at.0) at.1) ≡ Some (key, item) = ap (key_and_item store) (sym same) ∙ found.2 in
      (at.1, subst (λ (g : ℕ). slot_at (slots_in store chains) g at.1 ≡ Some (key, item)) (sym (are.homed at.0 at.1 key item pair)) (slot_seen store chains at.0 at.1 ∙ pair))

  -- a slot that has a key is inside its chain
  low : (h i : ℕ) (key : List ℕ) (item : ℕ) → key_and_item store (entry_at (chain_of chains h) i) ≡ Some (key, item) → i < length (chain_of chains h)
  low h i key item is =
      elim (either i (length (chain_of chains h))) [
        | inl inside ↦ inside
        | inr over ↦ let no : key_and_item store (entry_at (chain_of chains h) i) ≡ None = ap (key_and_item store) (past (chain_of chains h) i vacant over) ∙ (vacant_pair store).0 in cc
      ]

  -- and the chain of its home is inside
  home_low : (h i : ℕ) (key : List ℕ) (item : ℕ) → key_and_item store (entry_at (chain_of chains h) i) ≡ Some (key, item) → h < length chains
  home_low h i key item is =
      elim (either h (length chains)) [
        | inl inside ↦ inside
        | inr over ↦ let no : key_and_item store (entry_at (chain_of chains h) i) ≡ None = ap (λ (c : List Entry). key_and_item store (entry_at c i)) (past chains h [] over) ∙ (vacant_pair store).0 in cc
      ]

  in_all : (h i : ℕ) (key : List ℕ) (item : ℕ) → key_and_item store (entry_at (chain_of chains h) i) ≡ Some (key, item) → key_and_item store (entry_at (flat chains) (offset chains h + i)) ≡ Some (key, item)
  in_all h i key item is = ap (key_and_item store) (flat_at chains h i vacant (home_low h i key item is) (low h i key item is)) ∙ is

  once : (h i j : ℕ) (key : List ℕ) (x y : ℕ) → slot_at (slots_in store chains) h i ≡ Some (key, x) → slot_at (slots_in store chains) h j ≡ Some (key, y) → i ≡ j
  once h i j key x y one other =
      let same = are.sound.once (offset chains h + i) (offset chains h + j) key x y (in_all h i key x (pair_at h i key x one)) (in_all h j key y (pair_at h j key y other)) in
      omega (arith, same)

  pub at_home : (spare : ℕ) → HasKeysAtHome (state_of store chains spare)
  at_home spare = record {
    many = length-map chains (slots_of store);
    at_home = λ h i key item is. are.homed h i key item (pair_at h i key item is);
    held = held;
    each = each;
    once = once;
  }
