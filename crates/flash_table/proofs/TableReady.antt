-- A table after memory is taken for one key more.
use Rattle.std.proofs.Common.{◌≡◌, ◌≢◌, ℕ, ◌-◌, ◌^◌, ◌<◌, ◌≤◌, List, ◌++◌, length, inl, inr, refl, sym, ap, subst, ◌∙◌, arith}
use Rattle.std.specs.Cmp.{nat_cmp_total}
use Rattle.std.specs.Cmp.Lexicographic.{nat_list_cmp_total}
use Rattle.std.specs.FinMap as finite
use Rattle.std.specs.FinMap.{nat_cmp-IsAntisymmetric}
use Rattle.flash_keys.specs.Classes.{Classes}
use Rattle.flash_keys.specs.Names.{SameNames}
use Rattle.flash_keys.specs.Room.{HasRoom}
use Rattle.flash_table.specs.declared.entry.Entry.{Entry}
use Rattle.flash_table.specs.Chains.{chain_of, with_group, RoomMade, HasEmpty, AreChains}
use Rattle.flash_table.specs.Entries.{vacant, vacants, entry_at}
use Rattle.flash_table.specs.Flat.{flat}
use Rattle.flash_table.specs.Held.{key_and_item, id_and_key, IsRight, IsSound}
use Rattle.flash_table.specs.Home.{power as power_of}
use Rattle.flash_table.specs.Maps.{items_in, keys_in}
use Rattle.flash_table.specs.Slots.{slots_in, slot_at}
use Rattle.flash_table.specs.Table.{IsTable, IsReady}
use Rattle.flash_table.proofs.ChainSlots.{chain_set}
use Rattle.flash_table.proofs.Held.{same_pair}
use Rattle.flash_table.proofs.Look.{look_same}
use Rattle.flash_table.proofs.Maps.{bytes_same, get_items, get_keys}
use Rattle.flash_table.proofs.Slots.{slot_seen}
use Rattle.flash_table.proofs.Widened as widened

-- ---- the same names

module _ (store next : Classes) (same : SameNames store next) (es : List Entry) where
  pairs : (i : ℕ) → (key_and_item next (entry_at es i) ≡ key_and_item store (entry_at es i)) × (id_and_key next (entry_at es i) ≡ id_and_key store (entry_at es i))
  pairs i = same_pair store next (entry_at es i) (same (entry_at es i).id.number)

  pub same_items : items_in next es ≡ items_in store es
  same_items =
      finite.same_map nat_list_cmp_total bytes_same (items_in next es) (items_in store es)
      (λ q. get_items next es q ∙ look_same nat_list_cmp_total bytes_same (key_and_item next) (key_and_item store) vacant es q (λ i. (pairs i).0) ∙ sym (get_items store es q))

  pub same_keys : keys_in next es ≡ keys_in store es
  same_keys =
      finite.same_map nat_cmp_total nat_cmp-IsAntisymmetric (keys_in next es) (keys_in store es)
      (λ q. get_keys next es q ∙ look_same nat_cmp_total nat_cmp-IsAntisymmetric (id_and_key next) (id_and_key store) vacant es q (λ i. (pairs i).1) ∙ sym (get_keys store es q))

  right_too : (e : Entry) → IsRight store e → IsRight next e
  right_too e (inl none) = inl none
  right_too e (inr has) = inr (has.0, record { names = same e.id.number ∙ has.1.names; tagged = has.1.tagged })

  pub same_sound : IsSound store es → IsSound next es
  same_sound sound = record {
    right = λ i. right_too (entry_at es i) (sound.right i);
    once = λ i j key x y one other. sound.once i j key x y (sym (pairs i).0 ∙ one) (sym (pairs j).0 ∙ other);
  }

pub same_chains : (store next : Classes) → SameNames store next → (chains : List (List Entry)) → AreChains store chains → AreChains next chains
same_chains store next same chains are = record {
  some = are.some;
  few = are.few;
  sound = same_sound store next same (flat chains) are.sound;
  homed = λ h i key item is. are.homed h i key item (sym (same_pair store next (entry_at (chain_of chains h) i) (same (entry_at (chain_of chains h) i).id.number)).0 ∙ is);
}

-- ---- room in the chain of a home

pub record IsWider (store : Classes) (old new : List (List Entry)) (h : ℕ) : Type 0 where
  pub are : AreChains store new
  pub long : length new ≡ length old
  pub items : items_in store (flat new) ≡ items_in store (flat old)
  pub keys : keys_in store (flat new) ≡ keys_in store (flat old)
  pub empty : HasEmpty (chain_of new h)
  pub others : (g : ℕ) → g ≢ h → chain_of new g ≡ chain_of old g
  pub entries : (g i : ℕ) → entry_at (chain_of new g) i ≡ entry_at (chain_of old g) i

other_chains : (old : List (List Entry)) (h : ℕ) → h < length old → (g : ℕ) → g ≢ h → chain_of (with_group old h) g ≡ chain_of old g
other_chains old h inside g away =
    elim (chain_set old h (chain_of old h ++ vacants 16) g inside) [
      | inl here ↦ absurd (away here.0)
      | inr other ↦ other.1
    ]

with_group_is : (store : Classes) (old : List (List Entry)) (h : ℕ) → AreChains store old → h < length old → IsWider store old (with_group old h) h
with_group_is store old h are inside = record {
  are = widened.are_now store old are h inside;
  long = widened.long store old are h inside;
  items = widened.items_are store old are h inside;
  keys = widened.keys_are store old are h inside;
  empty = widened.empty_there store old are h inside;
  others = other_chains old h inside;
  entries = widened.same_at store old are h inside;
}

pub room_is : (store : Classes) (old new : List (List Entry)) (h : ℕ) → AreChains store old → h < length old → RoomMade old new h → IsWider store old new h
room_is store old new h are inside (inl same) =
    subst (λ (cs : List (List Entry)). IsWider store old cs h) (sym same.0) (record { are = are; long = refl; items = refl; keys = refl; empty = same.1; others = λ g away. refl; entries = λ g i. refl })
room_is store old new h are inside (inr wider) = subst (λ (cs : List (List Entry)). IsWider store old cs h) (sym wider) (with_group_is store old h are inside)

module _ (store next : Classes) (old new : List (List Entry)) (power last spare count : ℕ) (table : IsTable store old power last spare count) (same : SameNames store next) (made : RoomMade old new last) where
  wider : IsWider store old new last
  wider = room_is store old new last table.chained table.last_inside made

  pub items_kept : items_in next (flat new) ≡ items_in store (flat old)
  items_kept = same_items store next same (flat new) ∙ wider.items

  pub keys_kept : keys_in next (flat new) ≡ keys_in store (flat old)
  keys_kept = same_keys store next same (flat new) ∙ wider.keys

  pub homes_kept : length new ≡ length old
  homes_kept = wider.long

  pub table_with : (spares : ℕ) → spares ≤ 1 → (1 ≤ spares → IsReady next (chain_of new last) count) → IsTable next new power last spares count
  table_with spares few ready = record {
    chained = same_chains store next same new wider.are;
    powered = table.powered ∙ ap power_of (sym wider.long);
    last_inside = omega (arith, table.last_inside, wider.long);
    counted = table.counted ∙ ap finite.len (sym items_kept);
    one_spare = few;
    empties = λ g inside away. subst HasEmpty (sym (wider.others g away)) (table.empties g (omega (arith, inside, wider.long)) away);
    ready = ready;
  }

  pub ready_now : HasRoom next → count < 2 ^ 64 - 1 → IsReady next (chain_of new last) count
  ready_now room low = record { empty = wider.empty; room = room; low = low }

  pub slots_kept : (g i : ℕ) → slot_at (slots_in next new) g i ≡ slot_at (slots_in store old) g i
  slots_kept g i =
      slot_seen next new g i
      ∙ (same_pair store next (entry_at (chain_of new g) i) (same (entry_at (chain_of new g) i).id.number)).0
      ∙ ap (key_and_item store) (wider.entries g i)
      ∙ sym (slot_seen store old g i)
