-- What the tables of a machine say of the journal that it stands for.
use Rattle.std.specs.Prelude.{◌≡◌, ◌<◌, ◌≤◌, ◌^◌, ◌+◌, ℕ, Bool, false, ◌&&◌, nat_le, nat_lt, nat_eq, List, Option, None, Some, if◌then◌else◌}
use Rattle.std.specs.List.{list_any}
use Rattle.std.specs.HashMap as hash
use Rattle.std.specs.HashSet as set
use Rattle.std.specs.FinMap as map
use Rattle.std.specs.Ordering.{int_eq}
use Rattle.flash_entry.specs.declared.answer.Summed.{Summed}
use Rattle.flash_machine.specs.Storing.{last_number}
use Rattle.flash_machine.specs.Looking.{left_to}
use Rattle.std.specs.Str.{bytes_eq}
use Rattle.flash_names.specs.declared.place.Id.{Id}
use Rattle.flash_names.specs.declared.place.Label.{Label}
use Rattle.flash_names.specs.declared.geometry.Geometry.{Geometry}
use Rattle.flash_entry.specs.declared.entry.Entry.{Entry}
use Rattle.flash_names.specs.Labels.{same_label}
use Rattle.flash_machine.specs.Item.{Item}
use Rattle.flash_machine.specs.Cache.{Items, Cache}
use Rattle.flash_machine.specs.Load.{total, load_of}
use Rattle.flash_machine.specs.NewSteps.{step_id, is_as_late}
use Rattle.flash_machine.specs.Live.{label_has_ended}
use Rattle.flash_machine.specs.PageLabels.{is_label, page_label, last_version, free_pages}
use Rattle.flash_machine.specs.DeviceReads.{read_of}
use Rattle.flash_machine.specs.Lookups.{Lookup, open_lookup, closings, was_from_buffer}
use Rattle.flash_machine.specs.Writes.{open_write, last_write, has_good_write}
use Rattle.flash_names.specs.declared.place.Place.{Place}
use Rattle.std.specs.List.{AllByRecursion}
use Rattle.std.specs.Prelude.{IsTrue}
use Rattle.flash_machine.specs.Rules.{is_failure, is_block, is_lookup_on, is_hit_on, is_damage_on}
use Rattle.flash_entry.specs.declared.entry.Entry.TheVariants as entries
use Rattle.flash_machine.specs.declared.machine.cache_table.CacheTable.{CacheTable}
use Rattle.flash_machine.specs.declared.machine.item_table.ItemTable.{ItemTable}
use Rattle.flash_machine.specs.declared.machine.label_counts.LabelCounts.{LabelCounts}
use Rattle.flash_machine.specs.declared.machine.last_steps.LastSteps.{LastSteps}
use Rattle.flash_machine.specs.declared.machine.lookup_table.LookupTable.{LookupTable}
use Rattle.flash_machine.specs.declared.machine.write_table.WriteTable.{WriteTable}
use Rattle.flash_machine.specs.declared.machine.page_table.PageTable.{PageTable}
use Rattle.flash_machine.specs.declared.machine.read_table.ReadTable.{ReadTable}

-- whether a last number, where there is one, is this one or a greater one
abbrev pub reaches : ℕ → Option ℕ → Bool
reaches seq None = false
reaches seq (Some last) = nat_le seq last

-- the last steps of all passes in the journal
abbrev pub FollowsSteps : LastSteps → List Entry → Type 0
FollowsSteps steps journal =
    (id : Id) → list_any (λ e. is_as_late id (step_id e)) journal ≡ reaches id.seq (hash.get nat_eq steps.of_pass id.pass)

-- pairs of numbers that are the same
abbrev pub same_pair : ℕ × ℕ → ℕ × ℕ → Bool
same_pair one other = nat_eq one.0 other.0 && nat_eq one.1 other.1

-- the pages and their labels
pub record FollowsPages (pages : PageTable) (g : Geometry) (journal : List Entry) : Type 0 where
  pub labels : (page : ℕ) → page_label page journal ≡ hash.get nat_eq pages.labels page
  pub below : (page : ℕ) (label : Label) → page_label page journal ≡ Some label → page < g.pages
  pub ended : (label : Label) → label_has_ended journal (Some label) ≡ set.contains same_pair pages.ended (label.page, label.version)
  pub version : last_version journal ≡ pages.last_version
  pub free : free_pages g journal ≡ pages.free
  pub few : g.pages < 2 ^ 32

-- the reads of all steps
abbrev pub FollowsReads : ReadTable → List Entry → Type 0
FollowsReads reads journal = (id : Id) → read_of id journal ≡ hash.get same_pair reads.of_step (id.pass, id.seq)

abbrev pub one_if_labelled : Label → List ℕ × Item → ℕ
one_if_labelled label entry = if is_label label entry.1.label then 1 else 0

-- how many items have a label
abbrev pub labelled_count : Label → Items → ℕ
labelled_count label items = total (one_if_labelled label) (map.entries items)

-- the label of a found item
abbrev pub label_of_found : Option Item → Option Label
label_of_found None = None
label_of_found (Some item) = item.label

-- what a found item counts under its key
abbrev pub counted : (List ℕ × Item → ℕ) → List ℕ → Option Item → ℕ
counted count key None = 0
counted count key (Some item) = count (key, item)

-- a count, where there is one
abbrev pub or_none : Option ℕ → ℕ
or_none None = 0
or_none (Some count) = count

-- how many items have a label, by the counts
abbrev pub label_count : LabelCounts → Label → ℕ
label_count table label = or_none (hash.get same_pair table.counts (label.page, label.version))

-- the items
pub record FollowsItems (table : ItemTable) (items : Items) : Type 0 where
  pub entries : map.entries items ≡ table.items.entries
  pub load : load_of items ≡ table.load
  pub labelled : (label : Label) → labelled_count label items ≡ label_count table.labelled label

-- keys and CAS numbers that are the same
abbrev pub same_value : List ℕ × ℕ → List ℕ × ℕ → Bool
same_value one other = bytes_eq one.0 other.0 && nat_eq one.1 other.1

-- and labels too
abbrev pub same_damage : (List ℕ × ℕ) × (ℕ × ℕ) → (List ℕ × ℕ) × (ℕ × ℕ) → Bool
same_damage one other = same_value one.0 other.0 && same_pair one.1 other.1

-- whether a lookup is there, of the key and the CAS number
abbrev pub is_found_on : List ℕ → ℕ → Option Lookup → Bool
is_found_on key cas None = false
is_found_on key cas (Some lookup) = is_lookup_on key cas lookup

-- whether a lookup is there, of the key, the CAS number and the label
abbrev pub is_found_at : List ℕ → ℕ → Label → Option Lookup → Bool
is_found_at key cas label None = false
is_found_at key cas label (Some lookup) = is_lookup_on key cas lookup && same_label lookup.label label

-- an entry that closes no lookup, and takes no value from a buffer
abbrev pub ClosesNone : Entry → Type 0
ClosesNone (entries.Closed id close) = ⊥
ClosesNone (entries.FromBuffer id place) = ⊥
ClosesNone _ = Unit {0}

-- the lookups that are open and those that were closed
pub record FollowsLookups (table : LookupTable) (g : Geometry) (journal : List Entry) : Type 0 where
  pub open_ : (id : Id) → open_lookup g id journal ≡ hash.get same_pair table.open (id.pass, id.seq)
  pub buffered : (id : Id) → was_from_buffer id journal ≡ set.contains same_pair table.buffered (id.pass, id.seq)
  pub hits : (key : List ℕ) (cas : ℕ) → list_any (is_hit_on key cas) (closings g journal) ≡ set.contains same_value table.hits (key, cas)
  pub damaged : (key : List ℕ) (cas : ℕ) (label : Label) → list_any (is_damage_on key cas label) (closings g journal)
      ≡ set.contains same_damage table.damaged ((key, cas), (label.page, label.version))

-- blocks that are the same
abbrev pub same_block : (ℕ × ℕ) × ℕ → (ℕ × ℕ) × ℕ → Bool
same_block one other = same_pair one.0 other.0 && nat_eq one.1 other.1

-- whether a block of this size at the offset has bytes of a place that has some
abbrev pub is_reached : ℕ → Place → ℕ → Bool
is_reached size place offset = nat_lt offset (place.offset + place.length) && nat_lt place.offset (offset + size)

-- the entry ends no good write but one of a block, while one was open
abbrev pub EndsBlock : Geometry → Entry → Type 0
EndsBlock g (entries.WriteEnded place (Some bytes)) = IsTrue (is_block g place)
EndsBlock g _ = Unit {0}

-- the open write is one of a block
abbrev pub IsBlockIf : Geometry → Option Place → Type 0
IsBlockIf g None = Unit {0}
IsBlockIf g (Some place) = IsTrue (is_block g place)

-- the writes of all labels
pub record FollowsWrites (table : WriteTable) (g : Geometry) (journal : List Entry) : Type 0 where
  pub block : g.buffer_size ≡ table.block
  pub some : 0 < table.block
  pub open_ : open_write journal ≡ table.open
  pub failed : (label : Label) → is_failure (last_write label journal) ≡ set.contains same_pair table.failed (label.page, label.version)
  pub written : (label : Label) (offset : ℕ) → has_good_write label offset journal ≡ set.contains same_block table.written ((label.page, label.version), offset)
  pub blocks : AllByRecursion (EndsBlock g) journal
  pub opened : IsBlockIf g (open_write journal)

-- the cache
pub record FollowsCache (table : CacheTable) (c : Cache) : Type 0 where
  pub items : FollowsItems table.items c.items
  pub now : c.now ≡ table.moment
  pub last_cas : c.last_cas ≡ table.last_cas
  pub flush_mark : c.flush_mark ≡ table.flush_mark
  pub pending_flush : c.pending_flush ≡ table.pending_flush
  pub moment : table.moment ≤ 2 ^ 62
  pub number : table.last_cas ≤ 2 ^ 63

-- whether this is told of the item that holds a number until a deadline, where a CAS number is left
abbrev pub summed_as : Cache → Summed → ℕ → Option ℕ → Bool
summed_as c summed number deadline =
    nat_lt c.last_cas last_number && nat_eq summed.number number && nat_eq summed.cas (c.last_cas + 1)
    && int_eq summed.left (left_to deadline c.now)
