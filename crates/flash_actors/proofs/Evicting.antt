-- Items that are evicted, one after another.
use Rattle.std.proofs.Common.{◌≡◌, ℕ, ◌+◌, ◌≤◌, List, [], ◌∷◌, ◌++◌, length, Option, None, Some, refl, sym, ◌∙◌, ap, append_assoc, length-append, arith}
use Rattle.std.specs.Prelude.{Bool, true, false, nat_lt, option_map, if◌then◌else◌}
use Rattle.std.specs.List.{AllByRecursion}
use Rattle.std.proofs.lemmas.List.{append-nil}
use Rattle.flash_names.specs.Told.{with_more}
use Rattle.flash_entry.specs.declared.entry.DropCause.TheVariants as causes
use Rattle.flash_entry.specs.declared.entry.Entry.{Entry}
use Rattle.flash_entry.specs.declared.entry.Entry.TheVariants as entries
use Rattle.flash_machine.specs.Cache.{Cache}
use Rattle.flash_machine.specs.Load.{load_of}
use Rattle.flash_index.specs.KeyEnds.{last_out}
use Rattle.flash_calls.specs.Rooms.{Leaver, drop_if, room_call}
use Rattle.flash_calls.specs.Store.{Desk, Store, Becomes, Stays}
use Rattle.flash_calls.proofs.Quiet.{all_behind}
use Rattle.flash_answers.specs.Records.{entry_ask, AreOfNoStep}
use Rattle.flash_actors.specs.Stepping.{IsEviction, HasEvictedUpTo}

-- entries after entries that are told
pub more_both : (xs ys : List Entry) (told : Option (List Entry)) → with_more ys (with_more xs told) ≡ with_more (xs ++ ys) told
more_both xs ys None = refl
more_both xs ys (Some front) = ap Some (append_assoc front xs ys)

pub more_none : (told : Option (List Entry)) → told ≡ with_more [] told
more_none None = refl
more_none (Some front) = ap Some (sym (append-nil front))

-- evictions are of no step
eviction_unasked : (e : Entry) → IsEviction e → entry_ask e ≡ None
eviction_unasked (entries.Dropped key causes.Evict) is = refl
eviction_unasked _ is = absurd is

pub evictions_unasked : (es : List Entry) → AllByRecursion IsEviction es → AreOfNoStep es
evictions_unasked [] each = tt
evictions_unasked (e ∷ es) each = (eviction_unasked e each.0, evictions_unasked es each.1)

-- the item that is evicted where there is no room, if there is one
abbrev pub evicted_if : Bool → Option (List ℕ) → Option Leaver
evicted_if full out = if full then option_map (λ key. record { key = key; cause = causes.Evict }) out else None

-- an item that is evicted, or none
module _ (c : Cache) (desk : Desk) where
  one_eviction : (full : Bool) (out : Option (List ℕ)) → AllByRecursion IsEviction (drop_if c desk (evicted_if full out)).entries
  one_eviction true None = tt
  one_eviction true (Some key) = (tt, tt)
  one_eviction false out = tt

  one_entry : (full : Bool) (out : Option (List ℕ)) → length (drop_if c desk (evicted_if full out)).entries ≤ 1
  one_entry true None = omega arith
  one_entry true (Some key) = omega arith
  one_entry false out = omega arith

-- a store that nothing was evicted from
pub evicts_none : (most : ℕ) (s : Store) → HasEvictedUpTo most s s
evicts_none most s = record { evicted = []; told = more_none s.told; each = tt; few = omega arith; geometry = refl }

-- more may be evicted
pub evicts_fewer : (few most : ℕ) (old new : Store) → few ≤ most → HasEvictedUpTo few old new → HasEvictedUpTo most old new
evicts_fewer few most old new within room =
    record { evicted = room.evicted; told = room.told; each = room.each; few = omega (arith, room.few, within); geometry = room.geometry }

-- a round more
pub evicts_more : (most : ℕ) (old mid new : Store) → HasEvictedUpTo most old mid → Becomes mid (room_call mid.geometry mid.cache mid.desk) new
    → HasEvictedUpTo (most + 1) old new
evicts_more most old mid new room round =
    let full = nat_lt mid.geometry.memory (load_of mid.cache.items) in
    let out = last_out mid.desk.lists in
    let es = (room_call mid.geometry mid.cache mid.desk).entries in
    record {
      evicted = room.evicted ++ es;
      told = ap (λ (s : Store). s.told) round ∙ ap (with_more es) room.told ∙ more_both room.evicted es old.told;
      each = all_behind IsEviction room.evicted es room.each (one_eviction mid.cache mid.desk full out);
      few = omega (arith, length-append room.evicted es, room.few, one_entry mid.cache mid.desk full out);
      geometry = ap (λ (s : Store). s.geometry) round ∙ room.geometry;
    }

-- a round without memory
pub evicts_same : (most : ℕ) (old mid new : Store) → HasEvictedUpTo most old mid → Stays mid new → HasEvictedUpTo most old new
evicts_same most old mid new room stays = record {
  evicted = room.evicted;
  told = ap (λ (s : Store). s.told) stays ∙ room.told;
  each = room.each;
  few = room.few;
  geometry = ap (λ (s : Store). s.geometry) stays ∙ room.geometry;
}
