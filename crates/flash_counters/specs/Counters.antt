-- What a store did, counted over the entries of its journal.
use Rattle.std.specs.Prelude.{ℕ, ◌+◌, ◌-◌, ◌^◌, min, Bool, true, false, not, ◌&&◌, List}
use Rattle.std.specs.List.{count_by}
use Rattle.flash_entry.specs.declared.ask.Look.{Look}
use Rattle.flash_entry.specs.declared.entry.Entry.{Entry}
use Rattle.flash_entry.specs.declared.entry.Entry.TheVariants as entries
use Rattle.flash_entry.specs.declared.entry.Close.{Close}
use Rattle.flash_entry.specs.declared.entry.Close.TheVariants as closes
use Rattle.flash_entry.specs.declared.entry.Residence.{Residence}
use Rattle.flash_entry.specs.declared.entry.Residence.TheVariants as residences
use Rattle.flash_counters.specs.declared.counters.Counters.{Counters}

-- a lookup found an item
abbrev pub is_found : Residence → Bool
is_found residences.Nothing = false
is_found _ = true

-- a lookup opens: its value is wanted and on flash, and a later entry says how it was closed
abbrev pub is_opening : Look → Residence → Bool
is_opening look (residences.Away cas label) = look.value
is_opening look _ = false

-- a close answers the lookup with its value
abbrev pub is_answer : Close → Bool
is_answer (closes.Hit flags cas value) = true
is_answer (closes.Lost cause) = false

-- a lookup ends with an item: at once, or when it is closed
abbrev pub is_hit : Entry → Bool
is_hit (entries.Looked id key look residence) = is_found residence && not (is_opening look residence)
is_hit (entries.Closed id close) = is_answer close
is_hit _ = false

-- a lookup ends without one
abbrev pub is_miss : Entry → Bool
is_miss (entries.Looked id key look residence) = not (is_found residence)
is_miss (entries.Closed id close) = not (is_answer close)
is_miss _ = false

-- a value was moved to a page
abbrev pub is_move : Entry → Bool
is_move (entries.Moved key cas label) = true
is_move _ = false

-- a read of the device ended
abbrev pub is_read : Entry → Bool
is_read (entries.ReadEnded id bytes) = true
is_read _ = false

-- a number, up to 2^64 - 1
abbrev pub up_to_most : ℕ → ℕ
up_to_most n = min n (2 ^ 64 - 1)

-- how many entries of each kind there are
abbrev pub counters_of : List Entry → Counters
counters_of h =
    record {
      moved = up_to_most (count_by is_move h);
      read = up_to_most (count_by is_read h);
      hits = up_to_most (count_by is_hit h);
      misses = up_to_most (count_by is_miss h);
    }

-- the sums of two
abbrev pub sums : Counters → Counters → Counters
sums c d =
    record {
      moved = up_to_most (c.moved + d.moved);
      read = up_to_most (c.read + d.read);
      hits = up_to_most (c.hits + d.hits);
      misses = up_to_most (c.misses + d.misses);
    }
