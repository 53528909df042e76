-- The slots of chains, as one list and by home.
use Rattle.std.proofs.Common.{◌≡◌, ◌≢◌, ℕ, zero, suc, ◌+◌, ◌<◌, ◌≤◌, List, [], ◌∷◌, length, get_or, set, length-set, ◌⊎◌, inl, inr, Some, None, refl, sym, ap, subst, ◌∙◌, arith}
use Rattle.std.specs.Cmp.Lexicographic.{nat_list_cmp_total}
use Rattle.std.specs.FinMap as finite
use Rattle.std.proofs.lemmas.List.{get_or-set_other}
use Rattle.std.proofs.lemmas.Grind.{get_or-set_at}
use Rattle.flash_keys.specs.Classes.{Classes}
use Rattle.flash_names.specs.KeyHash.{hash_of}
use Rattle.flash_table.specs.declared.entry.Entry.{Entry}
use Rattle.flash_table.specs.Chains.{chain_of, with_entry, HasEmpty, AreChains, IsSlotOf}
use Rattle.flash_table.specs.Entries.{vacant, entry_at, IsFor}
use Rattle.flash_table.specs.Flat.{flat}
use Rattle.flash_table.specs.Held.{key_and_item, HasKey}
use Rattle.flash_table.specs.Home.{home, tag}
use Rattle.flash_table.specs.Maps.{items_in}
use Rattle.flash_table.proofs.Flat.{either, offset, flat_at, flat_set, flat_inside, located}
use Rattle.flash_table.proofs.Held.{equal_or_not, vacant_pair, full_pair, pair_is, updated}
use Rattle.flash_table.proofs.Look.{look_nowhere, look_at}
use Rattle.flash_table.proofs.Maps.{bytes_same, get_items}

pub past : {X : Type 0} (xs : List X) (k : ℕ) (d : X) → length xs ≤ k → get_or xs k d ≡ d
past [] k d over = refl
past (x ∷ xs) zero d over = absurd (omega arith)
past (x ∷ xs) (suc k) d over = past xs k d (omega arith)

-- each slot of a home is a slot of all
pub in_flat : (chains : List (List Entry)) (h i : ℕ) → (k : ℕ) × (entry_at (flat chains) k ≡ entry_at (chain_of chains h) i)
in_flat chains h i =
    elim (either h (length chains)) [
      | inl home_inside ↦ elim (either i (length (chain_of chains h))) [
        | inl inside ↦ (offset chains h + i, flat_at chains h i vacant home_inside inside)
        | inr over ↦ (length (flat chains), past (flat chains) (length (flat chains)) vacant (omega arith) ∙ sym (past (chain_of chains h) i vacant over))
      ]
      | inr home_over ↦ (
        length (flat chains),
        past (flat chains) (length (flat chains)) vacant (omega arith) ∙ sym (ap (λ (c : List Entry). entry_at c i) (past chains h [] home_over)),
      )
    ]

pub chain_set : (chains : List (List Entry)) (h : ℕ) (c : List Entry) (other : ℕ) → h < length chains → ((other ≡ h) × (chain_of (set chains h c) other ≡ c)) ⊎ ((other ≢ h) × (chain_of (set chains h c) other ≡ chain_of chains other))
chain_set chains h c other inside =
    elim (equal_or_not other h) [
      | inl here ↦ inl (here, get_or-set_at chains h other c [] here inside)
      | inr away ↦ inr (away, get_or-set_other chains h other c [] away)
    ]

-- a slot of chains of which one is set
pub slots_with : (chains : List (List Entry)) (h i : ℕ) (e : Entry) (other j : ℕ) → h < length chains → i < length (chain_of chains h)
    → ((other ≡ h) × (j ≡ i) × (entry_at (chain_of (with_entry chains h i e) other) j ≡ e)) ⊎ ((other ≡ h → j ≡ i → ⊥) × (entry_at (chain_of (with_entry chains h i e) other) j ≡ entry_at (chain_of chains other) j))
slots_with chains h i e other j home_inside inside =
    elim (chain_set chains h (set (chain_of chains h) i e) other home_inside) [
      | inl here ↦ elim (updated (chain_of chains h) i e j inside) [
        | inl at ↦ inl (here.0, at.0, ap (λ (c : List Entry). entry_at c j) here.1 ∙ at.1)
        | inr away ↦ inr (λ same at. away.0 at, ap (λ (c : List Entry). entry_at c j) here.1 ∙ away.1 ∙ ap (λ (k : ℕ). entry_at (chain_of chains k) j) (sym here.0))
      ]
      | inr away ↦ inr (λ same at. away.0 same, ap (λ (c : List Entry). entry_at c j) away.1)
    ]

-- a chain of which a slot is set has an empty slot, where the slot is empty or the chain had another
pub still_empty : (chains : List (List Entry)) (h i : ℕ) (e : Entry) (other : ℕ) → h < length chains → other ≢ h → HasEmpty (chain_of chains other) → HasEmpty (chain_of (with_entry chains h i e) other)
still_empty chains h i e other inside away empty = subst HasEmpty (sym (get_or-set_other chains h other (set (chain_of chains h) i e) [] away)) empty

pub empty_now : (chains : List (List Entry)) (h i : ℕ) → h < length chains → i < length (chain_of chains h) → HasEmpty (chain_of (with_entry chains h i vacant) h)
empty_now chains h i home_inside inside =
    let c = set (chain_of chains h) i vacant in
    let some : HasEmpty c = (i, omega (arith, length-set (chain_of chains h) i vacant, inside), ap (λ (e : Entry). e.tag) (get_or-set_at (chain_of chains h) i i vacant vacant refl inside)) in
    subst HasEmpty (sym (get_or-set_at chains h h c [] refl home_inside)) some

module _ (store : Classes) (chains : List (List Entry)) (are : AreChains store chains) where
  pub nowhere : (key : List ℕ) (h : ℕ) → home (length chains) (hash_of key) ≡ h → ((i : ℕ) → i < length (chain_of chains h) → IsFor store (tag (hash_of key)) key (entry_at (chain_of chains h) i) → ⊥)
      → finite.get (items_in store (flat chains)) key ≡ None
  nowhere key h at_home none =
      get_items store (flat chains) key
      ∙ look_nowhere nat_list_cmp_total bytes_same (key_and_item store) vacant (vacant_pair store).0 (flat chains) key
      (λ k x is. elim (either k (length (flat chains))) [
        | inl inside ↦
            let at = located chains k inside in
            let same : entry_at (flat chains) k ≡ entry_at (chain_of chains at.0) at.1 = ap (entry_at (flat chains)) at.2.sum ∙ flat_at chains at.0 at.1 vacant at.2.list at.2.inside in
            let here : home (length chains) (hash_of key) ≡ at.0 = are.homed at.0 at.1 key x (ap (key_and_item store) (sym same) ∙ is) in
            let has = (pair_is store (entry_at (flat chains) k) key x (are.sound.right k) is).0 in
            let there : at.0 ≡ h = sym here ∙ at_home in
            let entry : entry_at (flat chains) k ≡ entry_at (chain_of chains h) at.1 = same ∙ ap (λ (g : ℕ). entry_at (chain_of chains g) at.1) there in
            let has_it : HasKey store (entry_at (chain_of chains h) at.1) key = subst (λ (e : Entry). HasKey store e key) entry has in
            none at.1 (subst (λ (g : ℕ). at.1 < length (chain_of chains g)) there at.2.inside) (record { tagged = has_it.tagged; names = has_it.names })
        | inr over ↦
            let no : key_and_item store (entry_at (flat chains) k) ≡ None = ap (key_and_item store) (past (flat chains) k vacant over) ∙ (vacant_pair store).0 in cc
      ])

  module _ (key : List ℕ) (h i : ℕ) (at : IsSlotOf store chains key h i) where
    pub index : ℕ
    index = offset chains h + i

    pub index_inside : index < length (flat chains)
    unfolding index
    index_inside = flat_inside chains h i at.home_inside at.slot_inside

    pub at_index : entry_at (flat chains) index ≡ entry_at (chain_of chains h) i
    unfolding index
    at_index = flat_at chains h i vacant at.home_inside at.slot_inside

    pub has_key : HasKey store (entry_at (flat chains) index) key
    has_key = subst (λ (e : Entry). HasKey store e key) (sym at_index) at.has

    pub item_found : finite.get (items_in store (flat chains)) key ≡ Some (entry_at (chain_of chains h) i).item
    item_found =
        get_items store (flat chains) key
        ∙ look_at nat_list_cmp_total bytes_same (key_and_item store) vacant (vacant_pair store).0 (flat chains) index key (entry_at (flat chains) index).item
        (full_pair store (entry_at (flat chains) index) key has_key).0
        (λ j y is. are.sound.once j index key y (entry_at (flat chains) index).item is (full_pair store (entry_at (flat chains) index) key has_key).0)
        ∙ ap (λ (e : Entry). Some e.item) at_index

    pub flat_with : (e : Entry) → flat (with_entry chains h i e) ≡ set (flat chains) index e
    unfolding index
    flat_with e = flat_set chains h i e at.home_inside at.slot_inside
