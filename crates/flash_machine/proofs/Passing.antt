-- Tables that an entry of another kind leaves as they are.
use Rattle.std.proofs.Common.{◌≡◌, Bool, true, false, ◌||◌, ◌&&◌, List, [], ◌∷◌, ◌++◌, None, refl, sym, ◌∙◌, ap, subst}
use Rattle.std.specs.List.{list_any}
use Rattle.flash_names.specs.declared.geometry.Geometry.{Geometry}
use Rattle.flash_entry.specs.declared.entry.Entry.{Entry}
use Rattle.flash_entry.specs.declared.entry.Entry.TheVariants as entries
use Rattle.flash_machine.specs.Steps.{next, cache_of}
use Rattle.flash_machine.specs.NewSteps.{step_id, is_as_late}
use Rattle.flash_machine.specs.Followed.{EndsBlock, IsBlockIf, FollowsCache, FollowsPages, FollowsSteps, FollowsReads, FollowsWrites, FollowsLookups}
use Rattle.flash_names.specs.declared.place.Place.{Place}
use Rattle.flash_machine.specs.PageLabels.{is_in_use}
use Rattle.flash_machine.specs.Writes.{open_write}
use Rattle.flash_machine.specs.Rules.{is_hit_on, is_damage_on, is_failure, is_block, is_none_or, may_write_begin}
use Rattle.flash_machine.specs.declared.machine.cache_table.CacheTable.{CacheTable}
use Rattle.flash_machine.specs.declared.machine.last_steps.LastSteps.{LastSteps}
use Rattle.flash_machine.specs.declared.machine.lookup_table.LookupTable.{LookupTable}
use Rattle.flash_machine.specs.declared.machine.page_table.PageTable.{PageTable}
use Rattle.flash_machine.specs.declared.machine.read_table.ReadTable.{ReadTable}
use Rattle.flash_machine.specs.declared.machine.write_table.WriteTable.{WriteTable}
use Rattle.flash_machine.proofs.EntrySteps.{list_any-one, is_read_off}
use Rattle.flash_machine.proofs.Runs.{cache_of-append}
use Rattle.flash_machine.proofs.Closings.{or_false, same_closings}
use Rattle.flash_machine.proofs.FreePages.{kept_free}
use Rattle.flash_machine.proofs.Blocks.{all_more}

-- the cache after an entry is that of its step
pub cache_on : (g : Geometry) (table : CacheTable) (h : List Entry) (e : Entry) → FollowsCache table (next g h (cache_of g h) e) → FollowsCache table (cache_of g (h ++ e ∷ []))
cache_on g table h e follows = subst (FollowsCache table) (sym (cache_of-append g h (e ∷ []))) follows

-- an entry that is of no step
pub steps_on : (g : Geometry) (table : LastSteps) (h : List Entry) (e : Entry) → step_id e ≡ None → FollowsSteps table h → FollowsSteps table (h ++ e ∷ [])
steps_on g table h e none was id =
    list_any-one (λ x. is_as_late id (step_id x)) h e
    ∙ ap (λ step. list_any (λ x. is_as_late id (step_id x)) h || is_as_late id step) none
    ∙ or_false g _ ∙ was id

-- an entry that opens, ends and frees no page
abbrev pub LeavesPages : Entry → Type 0
LeavesPages (entries.Opened label) = ⊥
LeavesPages (entries.Ended label cause) = ⊥
LeavesPages (entries.Freed label) = ⊥
LeavesPages _ = Unit {0}

-- an entry of no read of the device
abbrev pub LeavesReads : Entry → Type 0
LeavesReads (entries.ReadBegan id place reader) = ⊥
LeavesReads (entries.ReadEnded id outcome) = ⊥
LeavesReads _ = Unit {0}

-- an entry of no write of the device
abbrev pub LeavesWrites : Entry → Type 0
LeavesWrites (entries.WriteBegan place) = ⊥
LeavesWrites (entries.WriteEnded place outcome) = ⊥
LeavesWrites _ = Unit {0}

-- an entry that opens and closes no lookup, and takes no value from a buffer
abbrev pub LeavesLookups : Entry → Type 0
LeavesLookups (entries.Looked id key look residence) = ⊥
LeavesLookups (entries.FromBuffer id place) = ⊥
LeavesLookups (entries.Closed id close) = ⊥
LeavesLookups _ = Unit {0}

pub pages_on : (g : Geometry) (table : PageTable) (h : List Entry) (e : Entry) → LeavesPages e → FollowsPages table g h → FollowsPages table g (h ++ e ∷ [])
pages_on g table h (entries.Opened label) leaves was = absurd leaves
pages_on g table h (entries.Ended label cause) leaves was = absurd leaves
pages_on g table h (entries.Freed label) leaves was = absurd leaves
pages_on g table h e leaves was = record {
  labels = λ page. (is_read_off g h e).label page ∙ was.labels page;
  below = λ page label is. was.below page label (sym ((is_read_off g h e).label page) ∙ is);
  ended = λ label. (is_read_off g h e).ended label ∙ or_false g _ ∙ was.ended label;
  version = (is_read_off g h e).version ∙ was.version;
  free = kept_free g h e (λ page. refl) ∙ was.free;
  few = was.few;
}

pub reads_on : (g : Geometry) (table : ReadTable) (h : List Entry) (e : Entry) → LeavesReads e → FollowsReads table h → FollowsReads table (h ++ e ∷ [])
reads_on g table h (entries.ReadBegan id place reader) leaves was = absurd leaves
reads_on g table h (entries.ReadEnded id outcome) leaves was = absurd leaves
reads_on g table h e leaves was = λ id. (is_read_off g h e).read id ∙ was id

pub writes_on : (g : Geometry) (table : WriteTable) (h : List Entry) (e : Entry) → LeavesWrites e → FollowsWrites table g h → FollowsWrites table g (h ++ e ∷ [])
writes_on g table h (entries.WriteBegan place) leaves was = absurd leaves
writes_on g table h (entries.WriteEnded place outcome) leaves was = absurd leaves
writes_on g table h e leaves was = record {
  block = was.block;
  some = was.some;
  open_ = (is_read_off g h e).write ∙ was.open_;
  failed = λ label. ap is_failure ((is_read_off g h e).outcome label) ∙ was.failed label;
  written = λ label offset. (is_read_off g h e).good label offset ∙ or_false g _ ∙ was.written label offset;
  blocks = all_more (EndsBlock g) h e was.blocks tt;
  opened = subst (IsBlockIf g) (sym ((is_read_off g h e).write)) was.opened;
}

pub lookups_on : (g : Geometry) (table : LookupTable) (h : List Entry) (e : Entry) → LeavesLookups e → FollowsLookups table g h → FollowsLookups table g (h ++ e ∷ [])
lookups_on g table h (entries.Looked id key look residence) leaves was = absurd leaves
lookups_on g table h (entries.FromBuffer id place) leaves was = absurd leaves
lookups_on g table h (entries.Closed id close) leaves was = absurd leaves
lookups_on g table h e leaves was = record {
  open_ = λ id. (is_read_off g h e).lookup id ∙ was.open_ id;
  buffered = λ id. (is_read_off g h e).buffer id ∙ or_false g _ ∙ was.buffered id;
  hits = λ key cas. same_closings g (is_hit_on key cas) h e tt ∙ was.hits key cas;
  damaged = λ key cas label. same_closings g (is_damage_on key cas label) h e tt ∙ was.damaged key cas label;
}

-- the place of a write that may begin is a block
pub block_of : (g : Geometry) (h : List Entry) (place : Place) → may_write_begin g h place ≡ true → is_block g place ≡ true
block_of g h place may = of_three (is_in_use h place.label) (is_block g place) (is_none_or place (open_write h)) may
  where
    of_three : (a b d : Bool) → (a && b && d) ≡ true → b ≡ true
    of_three true true d both = refl
    of_three true false d both = both
    of_three false b d both = absurd (cc both)
