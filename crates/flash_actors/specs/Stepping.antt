-- What one step of a session adds to a journal.
use Rattle.std.specs.Prelude.{◌≡◌, ◌≤◌, ℕ, List, [], ◌∷◌, ◌++◌, length, min, Option, None, Some}
use Rattle.std.specs.List.{AllByRecursion}
use Rattle.flash_names.specs.Told.{with_more}
use Rattle.flash_names.specs.declared.geometry.Geometry.{Geometry}
use Rattle.flash_names.specs.declared.place.Id.{Id}
use Rattle.flash_entry.specs.declared.ask.Ask.{Ask}
use Rattle.flash_entry.specs.declared.entry.DropCause.TheVariants as causes
use Rattle.flash_entry.specs.declared.entry.Entry.{Entry}
use Rattle.flash_entry.specs.declared.entry.Entry.TheVariants as entries
use Rattle.flash_entry.specs.declared.found.Told.{Told}
use Rattle.flash_entry.specs.declared.found.Told.TheVariants as tolds
use Rattle.flash_machine.specs.Legal.{Legal}
use Rattle.flash_machine.specs.Moments.{last_moment}
use Rattle.flash_machine.specs.Steps.{cache_of}
use Rattle.flash_calls.specs.Store.{Store}
use Rattle.flash_answers.specs.Outcomes.{entry_outcome}
use Rattle.flash_answers.specs.Records.{entry_ask}

-- what holds of two stories where both are told; neither is told without the other
abbrev pub BothTold : {E : Type 0} → (List E → List E → Type 0) → Option (List E) → Option (List E) → Type 0
BothTold P None None = Unit {0}
BothTold P None (Some after) = ⊥
BothTold P (Some before) None = ⊥
BothTold P (Some before) (Some after) = P before after

-- the entry, noted after this journal, is that of this step and ask, its outcome is what was told, and the moment is
-- then at least that of the reading
pub record IsEntryOf (g : Geometry) (id : Id) (ask : Ask) (reading : ℕ) (told : Told) (front : List Entry) (e : Entry)
    : Type 0 where
  pub asked : entry_ask e ≡ Some (id, ask)
  pub outcome : entry_outcome front (cache_of g front) id e ≡ Some told
  pub moment : min reading last_moment ≤ (cache_of g front).now

-- an entry of the read of the step's own value: it came from a write buffer, and the lookup was closed
abbrev pub IsOwnRead : Id → Entry → Type 0
IsOwnRead id (entries.FromBuffer other place) = other ≡ id
IsOwnRead id (entries.Closed other close) = other ≡ id
IsOwnRead id _ = ⊥

abbrev pub AreOwnReads : Id → List Entry → Type 0
AreOwnReads id es = AllByRecursion (IsOwnRead id) es

-- the step's own entry, with those of its own read behind it, or none where it had no memory
abbrev pub IsNoted : Geometry → Id → Ask → ℕ → Told → List Entry → List Entry → Type 0
IsNoted g id ask reading told front [] = told ≡ tolds.NoMemory
IsNoted g id ask reading told front (e ∷ behind) = IsEntryOf g id ask reading told front e × AreOwnReads id behind

-- an entry of an item that was evicted
abbrev pub IsEviction : Entry → Type 0
IsEviction (entries.Dropped key causes.Evict) = Unit {0}
IsEviction _ = ⊥

-- these entries are of items that were evicted, at most eight
pub record AreEvictions (es : List Entry) : Type 0 where
  pub each : AllByRecursion IsEviction es
  pub few : length es ≤ 8

-- a store that items were evicted from, at most so many, each with its entry
pub record HasEvictedUpTo (most : ℕ) (old new : Store) : Type 0 where
  pub evicted : List Entry
  pub told : new.told ≡ with_more evicted old.told
  pub each : AllByRecursion IsEviction evicted
  pub few : length evicted ≤ most
  pub geometry : new.geometry ≡ old.geometry

abbrev pub HasEvicted : Store → Store → Type 0
HasEvicted old new = HasEvictedUpTo 8 old new

-- after the journal come entries of this kind, then the step's own, if it has one, with those of its own read behind it,
-- and then those of items that were evicted to make room; and all of it is a run
pub record IsStep (AreMore : List Entry → Type 0) (g : Geometry) (id : Id) (ask : Ask) (reading : ℕ) (told : Told)
    (before after : List Entry) : Type 0 where
  pub more : List Entry
  pub own : List Entry
  pub evicted : List Entry
  pub whole : after ≡ (before ++ more) ++ (own ++ evicted)
  pub others : AreMore more
  pub noted : IsNoted g id ask reading told (before ++ more) own
  pub room : AreEvictions evicted
  pub legal : Legal g after
