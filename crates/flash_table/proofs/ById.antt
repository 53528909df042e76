-- The slot of an id.
use Rattle.std.proofs.Common.{◌≡◌, ℕ, true, false, List, Option, Some, None, refl, sym, ap, subst, ◌∙◌}
use Rattle.std.specs.Prelude.{is_some}
use Rattle.std.specs.Option.{unwrap_or, IsSome}
use Rattle.std.specs.Cmp.{nat_cmp_total}
use Rattle.std.specs.Cmp.Lexicographic.{nat_list_cmp_total}
use Rattle.std.specs.FinMap as finite
use Rattle.std.specs.FinMap.{nat_cmp-IsAntisymmetric}
use Rattle.flash_keys.specs.Classes.{Classes}
use Rattle.flash_keys.specs.Names.{named}
use Rattle.flash_table.specs.declared.entry.Entry.{Entry}
use Rattle.flash_table.specs.Chains.{chain_of, AreChains, IsSlotOf, IsSlotOfId}
use Rattle.flash_table.specs.Entries.{vacant, entry_at}
use Rattle.flash_table.specs.Flat.{flat}
use Rattle.flash_table.specs.Held.{key_and_item, id_and_key, HasKey, IsSound}
use Rattle.flash_table.specs.Maps.{items_in, keys_in}
use Rattle.flash_table.specs.Table.{HasOneId}
use Rattle.flash_table.proofs.ChainSlots.{index, at_index, has_key}
use Rattle.flash_table.proofs.Held.{vacant_pair, full_pair, id_is, pair_is}
use Rattle.flash_table.proofs.Look.{look_at, look_found}
use Rattle.flash_table.proofs.Maps.{bytes_same, get_items, get_keys}

-- what is there is something
pub some_is : {X : Type 0} (o : Option X) → IsSome o → (x : X) × (o ≡ Some x)
some_is None none = let e : false ≡ true = none in cc
some_is (Some x) there = (x, refl)

module _ (store : Classes) (es : List Entry) (sound : IsSound store es) where
  -- the slot whose entry has the id
  pub slot_found : (id : ℕ) (key : List ℕ) → finite.get (keys_in store es) id ≡ Some key → (k : ℕ) × HasKey store (entry_at es k) key × ((entry_at es k).id.number ≡ id)
  slot_found id key is =
      let at = look_found nat_cmp_total nat_cmp-IsAntisymmetric (id_and_key store) vacant (vacant_pair store).1 es id key (sym (get_keys store es id) ∙ is) in
      let both = id_is store (entry_at es at.0) id key (sound.right at.0) at.2 in
      (at.0, both.0, both.1)

  pub named_by : (id : ℕ) (key : List ℕ) → finite.get (keys_in store es) id ≡ Some key → named store id ≡ Some key
  named_by id key is = let at = slot_found id key is in ap (named store) (sym at.2) ∙ at.1.names

  -- the id of an entry names its key
  pub id_found : (k : ℕ) (key : List ℕ) → HasKey store (entry_at es k) key → finite.get (keys_in store es) (entry_at es k).id.number ≡ Some key
  id_found k key has =
      get_keys store es (entry_at es k).id.number
      ∙ look_at nat_cmp_total nat_cmp-IsAntisymmetric (id_and_key store) vacant (vacant_pair store).1 es k (entry_at es k).id.number key (full_pair store (entry_at es k) key has).1
      (λ i q is.
      let at = id_is store (entry_at es i) (entry_at es k).id.number q (sound.right i) is in
      let keys : q ≡ key = ap (λ (o : Option (List ℕ)). unwrap_or o q) (sym (ap (named store) (sym at.1) ∙ at.0.names) ∙ has.names) in
      sound.once i k key (entry_at es i).item (entry_at es k).item
      (subst (λ (p : List ℕ). key_and_item store (entry_at es i) ≡ Some (p, (entry_at es i).item)) keys (full_pair store (entry_at es i) q at.0).0)
      (full_pair store (entry_at es k) key has).0)

  pub item_of : (k : ℕ) (key : List ℕ) → HasKey store (entry_at es k) key → finite.get (items_in store es) key ≡ Some (entry_at es k).item
  item_of k key has =
      get_items store es key
      ∙ look_at nat_list_cmp_total bytes_same (key_and_item store) vacant (vacant_pair store).0 es k key (entry_at es k).item (full_pair store (entry_at es k) key has).0
      (λ i x is. sound.once i k key x (entry_at es k).item is (full_pair store (entry_at es k) key has).0)

  pub has_item : (id : ℕ) (key : List ℕ) → finite.get (keys_in store es) id ≡ Some key → IsSome (finite.get (items_in store es) key)
  has_item id key is = let at = slot_found id key is in ap is_some (item_of at.0 key at.1)

  pub has_one_id : (key : List ℕ) (item : ℕ) → finite.get (items_in store es) key ≡ Some item → HasOneId (keys_in store es) key
  has_one_id key item is =
      let at = look_found nat_list_cmp_total bytes_same (key_and_item store) vacant (vacant_pair store).0 es key item (sym (get_items store es key) ∙ is) in
      let has = (pair_is store (entry_at es at.0) key item (sound.right at.0) at.2).0 in
      record {
        id = (entry_at es at.0).id.number;
        named = id_found at.0 key has;
        only = λ other named.
            let too = slot_found other key named in
            let same : too.0 ≡ at.0 = sound.once too.0 at.0 key (entry_at es too.0).item item (full_pair store (entry_at es too.0) key too.1).0 at.2 in
            sym too.2 ∙ ap (λ (k : ℕ). (entry_at es k).id.number) same;
      }

-- the slot of the key that an id names has that id
pub slot_has_id : (store : Classes) (chains : List (List Entry)) (are : AreChains store chains) (id : ℕ) (key : List ℕ) (h i : ℕ) → finite.get (keys_in store (flat chains)) id ≡ Some key → IsSlotOf store chains key h i
    → IsSlotOfId store chains id h i
slot_has_id store chains are id key h i is slot =
    let k = index store chains are key h i slot in
    let has = has_key store chains are key h i slot in
    let at = slot_found store (flat chains) are.sound id key is in
    let same : k ≡ at.0 = are.sound.once k at.0 key (entry_at (flat chains) k).item (entry_at (flat chains) at.0).item (full_pair store (entry_at (flat chains) k) key has).0 (full_pair store (entry_at (flat chains) at.0) key at.1).0 in
    record {
      key = key;
      slot = slot;
      is_id = ap (λ (e : Entry). e.id.number) (sym (at_index store chains are key h i slot)) ∙ ap (λ (j : ℕ). (entry_at (flat chains) j).id.number) same ∙ at.2;
    }

-- and an id of a slot names its key
pub slot_names : (store : Classes) (chains : List (List Entry)) (are : AreChains store chains) (key : List ℕ) (h i : ℕ) (slot : IsSlotOf store chains key h i) → finite.get (keys_in store (flat chains)) (entry_at (chain_of chains h) i).id.number ≡ Some key
slot_names store chains are key h i slot =
    ap (λ (e : Entry). finite.get (keys_in store (flat chains)) e.id.number) (sym (at_index store chains are key h i slot))
    ∙ id_found store (flat chains) are.sound (index store chains are key h i slot) key (has_key store chains are key h i slot)
