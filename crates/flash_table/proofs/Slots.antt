-- The slots that are seen of entries.
use Rattle.std.proofs.Common.{◌≡◌, ℕ, suc, List, [], ◌∷◌, get_or, set, None, refl, sym, ap, ◌∙◌}
use Rattle.std.proofs.Math.ListN.{get_or-map}
use Rattle.std.proofs.lemmas.List.{map-set}
use Rattle.flash_keys.specs.Classes.{Classes}
use Rattle.flash_table.specs.declared.entry.Entry.{Entry}
use Rattle.flash_table.specs.Chains.{chain_of, with_entry}
use Rattle.flash_table.specs.Entries.{vacant, entry_at}
use Rattle.flash_table.specs.Held.{key_and_item}
use Rattle.flash_table.specs.Slots.{Slot, slots_of, slots_in, slot_at, with_slot}
use Rattle.flash_table.proofs.Held.{vacant_pair}

pub chain_seen : (store : Classes) (chains : List (List Entry)) (h : ℕ) → get_or (slots_in store chains) h [] ≡ slots_of store (chain_of chains h)
chain_seen store chains h = get_or-map (slots_of store) chains h []

-- a slot that is seen is the one of its entry
pub slot_seen : (store : Classes) (chains : List (List Entry)) (h i : ℕ) → slot_at (slots_in store chains) h i ≡ key_and_item store (entry_at (chain_of chains h) i)
slot_seen store chains h i =
    ap (λ (c : List Slot). get_or c i None) (chain_seen store chains h)
    ∙ ap (λ (d : Slot). get_or (slots_of store (chain_of chains h)) i d) (sym (vacant_pair store).0)
    ∙ get_or-map (key_and_item store) (chain_of chains h) i vacant

pub slots_written : (store : Classes) (chains : List (List Entry)) (h i : ℕ) (e : Entry) → slots_in store (with_entry chains h i e) ≡ with_slot (slots_in store chains) h i (key_and_item store e)
slots_written store chains h i e =
    map-set (slots_of store) chains h (set (chain_of chains h) i e)
    ∙ ap (λ (c : List Slot). set (slots_in store chains) h c)
    (map-set (key_and_item store) (chain_of chains h) i e ∙ ap (λ (c : List Slot). set c i (key_and_item store e)) (sym (chain_seen store chains h)))

module _ (store next : Classes) where
  -- entries that have the same pairs are seen alike
  chain_same : (es : List Entry) → ((i : ℕ) → key_and_item next (entry_at es i) ≡ key_and_item store (entry_at es i)) → slots_of next es ≡ slots_of store es
  chain_same [] same = refl
  chain_same (e ∷ es) same = ap (λ (s : Slot). s ∷ slots_of next es) (same 0) ∙ ap (λ (ss : List Slot). key_and_item store e ∷ ss) (chain_same es (λ i. same (suc i)))

  pub slots_same : (chains : List (List Entry)) → ((h i : ℕ) → key_and_item next (entry_at (chain_of chains h) i) ≡ key_and_item store (entry_at (chain_of chains h) i)) → slots_in next chains ≡ slots_in store chains
  slots_same [] same = refl
  slots_same (c ∷ rest) same =
      ap (λ (s : List Slot). s ∷ slots_in next rest) (chain_same c (same 0)) ∙ ap (λ (ss : List (List Slot)). slots_of store c ∷ ss) (slots_same rest (λ h. same (suc h)))
