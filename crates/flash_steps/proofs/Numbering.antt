-- What a store makes of the CAS numbers.
use Rattle.std.proofs.Common.{◌≡◌, ◌<◌, ℕ, ◌+◌, ◌^◌, Bool, true, false, List, length, Option, None, Some, if◌then◌else◌, refl, sym, ◌∙◌, subst, arith}
use Rattle.std.specs.Prelude.{nat_eq, nat_le, nat_lt}
use Rattle.std.specs.Option.{option_or}
use Rattle.std.proofs.lemmas.Bool.Decides.{nat_tests}
use Rattle.flash_names.specs.declared.geometry.Geometry.{Geometry}
use Rattle.flash_entry.specs.declared.ask.Mode.{Mode}
use Rattle.flash_entry.specs.declared.ask.Mode.TheVariants.{Set, Add, Replace, Append, Prepend}
use Rattle.flash_entry.specs.declared.ask.Put.{Put}
use Rattle.flash_entry.specs.declared.answer.Stored.{Stored}
use Rattle.flash_entry.specs.declared.answer.Stored.TheVariants as stored
use Rattle.flash_machine.specs.Item.{Item}
use Rattle.flash_machine.specs.Cache.{Cache}
use Rattle.flash_machine.specs.Storing.{last_number, mode_fails, compare_refusal, size_refusal, stored_value, stored_item, refusal, store_outcome}
use Rattle.flash_steps.specs.Refused.{IsUnstored}
use Rattle.flash_steps.specs.Numbered.{HasNextNumber, AStoredItemHasTheNextNumber}
use Rattle.flash_index.proofs.Lookups.{put_here}

module _ (g : Geometry) (c : Cache) (put : Put) where
  -- a stored item has the next number
  number_of : (mode : Mode) (live : Option Item) → (stored_item c put mode live).cas ≡ c.last_cas + 1
  number_of Append (Some item) = refl
  number_of Prepend (Some item) = refl
  number_of Append None = refl
  number_of Prepend None = refl
  number_of Set live = refl
  number_of Add live = refl
  number_of Replace live = refl

  -- no refusal leaves a number to give
  room_by : (large last : Bool) → nat_le last_number c.last_cas ≡ last → (if large then Some stored.TooLarge else if last then Some stored.NoNumber else None) ≡ None → c.last_cas < 2 ^ 63
  room_by true last is none = absurd (cc none)
  room_by false true is none = absurd (cc none)
  room_by false false is none = grind (arith, nat_tests)

  sized_by : (compare : Option Stored) (value : List ℕ) → option_or compare (size_refusal g c value) ≡ None → c.last_cas < 2 ^ 63
  sized_by None value none = room_by (nat_lt g.item_max (length value)) (nat_le last_number c.last_cas) refl none
  sized_by (Some s) value none = absurd (cc none)

  refused_by : (fails : Bool) (compare : Option Stored) (value : List ℕ) → (if fails then Some stored.NotStored else option_or compare (size_refusal g c value)) ≡ None → c.last_cas < 2 ^ 63
  refused_by true compare value none = absurd (cc none)
  refused_by false compare value none = sized_by compare value none

  room : (live : Option Item) → refusal g c put live ≡ None → c.last_cas < 2 ^ 63
  room live none = refused_by (mode_fails put.mode live) (compare_refusal put.compare live) (stored_value put put.mode live) none

  -- a refusal isn't the answer that a value is stored
  size_refuses : (large last : Bool) (s : Stored) → (if large then Some stored.TooLarge else if last then Some stored.NoNumber else None) ≡ Some s → IsUnstored s
  size_refuses true last s at = let same : stored.TooLarge ≡ s = cc at in subst IsUnstored same tt
  size_refuses false true s at = let same : stored.NoNumber ≡ s = cc at in subst IsUnstored same tt
  size_refuses false false s at = absurd (cc at)

  sized : (value : List ℕ) (s : Stored) → size_refusal g c value ≡ Some s → IsUnstored s
  sized value s at = size_refuses (nat_lt g.item_max (length value)) (nat_le last_number c.last_cas) s at

  same_refuses : (same : Bool) (value : List ℕ) (s : Stored) → option_or (if same then None else Some stored.Exists) (size_refusal g c value) ≡ Some s → IsUnstored s
  same_refuses true value s at = sized value s at
  same_refuses false value s at = let same : stored.Exists ≡ s = cc at in subst IsUnstored same tt

  compare_refuses : (compare : Option ℕ) (live : Option Item) (value : List ℕ) (s : Stored) → option_or (compare_refusal compare live) (size_refusal g c value) ≡ Some s → IsUnstored s
  compare_refuses None live value s at = sized value s at
  compare_refuses (Some cas) None value s at = let same : stored.NotFound ≡ s = cc at in subst IsUnstored same tt
  compare_refuses (Some cas) (Some item) value s at = same_refuses (nat_eq item.cas cas) value s at

  mode_refuses : (fails : Bool) (live : Option Item) (value : List ℕ) (s : Stored)
      → (if fails then Some stored.NotStored else option_or (compare_refusal put.compare live) (size_refusal g c value)) ≡ Some s → IsUnstored s
  mode_refuses true live value s at = let same : stored.NotStored ≡ s = cc at in subst IsUnstored same tt
  mode_refuses false live value s at = compare_refuses put.compare live value s at

  refuses : (live : Option Item) (s : Stored) → refusal g c put live ≡ Some s → IsUnstored s
  refuses live s at = mode_refuses (mode_fails put.mode live) live (stored_value put put.mode live) s at

  given_by : (item : Item) (cas : ℕ) (r : Option Stored) → item.cas ≡ c.last_cas + 1 → (r ≡ None → c.last_cas < 2 ^ 63) → ((s : Stored) → r ≡ Some s → IsUnstored s)
      → (store_outcome r c put.key item).0 ≡ stored.Stored cas → HasNextNumber put.key cas c (store_outcome r c put.key item).1
  given_by item cas (Some s) number within unstored is = absurd (subst IsUnstored is (unstored s refl))
  given_by item cas None number within unstored is =
      let next : c.last_cas + 1 ≡ cas = cc is in
      let room = within refl in
      record {
        next = sym next;
        last = next;
        within = omega (arith, next, room);
        item = item;
        there = put_here c.items put.key item;
        number = number ∙ next;
      }

pub given : AStoredItemHasTheNextNumber
given g c put live cas is = given_by g c put (stored_item c put put.mode live) cas (refusal g c put live) (number_of g c put put.mode live) (room g c put live) (refuses g c put live) is
