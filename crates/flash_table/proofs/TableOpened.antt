-- A table with one home and no key.
use Rattle.std.proofs.Common.{◌≡◌, ℕ, zero, suc, List, [], ◌∷◌, Some, None, inl, refl, sym, ap, ◌∙◌, arith, cond, nat_eq, ◌*◌}
use Rattle.std.specs.Ordering.{nat_cmp}
use Rattle.std.specs.Cmp.Lexicographic.{slice_cmp}
use Rattle.std.specs.FinMap as finite
use Rattle.flash_keys.specs.Classes.{Classes}
use Rattle.flash_table.specs.declared.entry.Entry.{Entry}
use Rattle.flash_table.specs.Chains.{chain_of}
use Rattle.flash_table.specs.Entries.{vacant, vacants, entry_at}
use Rattle.flash_table.specs.Flat.{flat}
use Rattle.flash_table.specs.Held.{key_and_item, id_and_key, IsSound}
use Rattle.flash_table.specs.Home.{power}
use Rattle.flash_table.specs.Maps.{items_in, keys_in}
use Rattle.flash_table.specs.Table.{IsTable}
use Rattle.flash_table.proofs.Held.{vacant_pair}
use Rattle.flash_table.proofs.Homes.{power_next, power_zero}
use Rattle.flash_table.proofs.Widened.{vacants_at}

-- the chains of a table that has just been opened
abbrev pub opened : List (List Entry)
opened = vacants 16 ∷ []

pub no_items : (store : Classes) → items_in store (flat opened) ≡ finite.empty
unfolding items_in key_and_item
no_items store = refl

pub no_keys : (store : Classes) → keys_in store (flat opened) ≡ finite.empty
unfolding keys_in id_and_key
no_keys store = refl

blank : (h i : ℕ) → entry_at (chain_of opened h) i ≡ vacant
blank zero i = vacants_at 16 i
blank (suc h) i = refl

none_there : (i : ℕ) → entry_at (flat opened) i ≡ vacant
none_there i = vacants_at 16 i

no_pair : (store : Classes) (h i : ℕ) (key : List ℕ) (x : ℕ) → key_and_item store (entry_at (chain_of opened h) i) ≡ Some (key, x) → ⊥
no_pair store h i key x is = let no : key_and_item store (entry_at (chain_of opened h) i) ≡ None = ap (key_and_item store) (blank h i) ∙ (vacant_pair store).0 in cc

no_slot : (store : Classes) → IsSound store (flat opened)
no_slot store = record {
  right = λ i. inl (ap (λ (e : Entry). e.tag) (none_there i));
  once = λ i j key x y one other. absurd (no_pair store 0 i key x (ap (key_and_item store) (blank 0 i ∙ sym (none_there i)) ∙ one));
}

power_one : power 1 ≡ 1
power_one = power_next 0 ∙ ap (λ (p : ℕ). cond (nat_eq 1 (2 * p)) 1 p) power_zero

pub table_opened : (store : Classes) → IsTable store opened 1 0 0 0
table_opened store = record {
  chained = record { some = omega arith; few = omega arith; sound = no_slot store; homed = λ h i key x is. absurd (no_pair store h i key x is) };
  powered = sym power_one;
  last_inside = omega arith;
  counted = sym (ap finite.len (no_items store) ∙ finite.len-empty (slice_cmp nat_cmp) ℕ);
  one_spare = omega arith;
  empties = λ h inside away. absurd (away (omega (arith, inside)));
  ready = λ more. absurd (omega (arith, more));
}
