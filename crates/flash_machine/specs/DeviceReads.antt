-- The reads of flash, as a journal says them.
use Rattle.std.specs.Prelude.{ℕ, List, Option, None, Some, if◌then◌else◌}
use Rattle.std.specs.Option.{option_map}
use Rattle.flash_names.specs.declared.place.Id.{Id}
use Rattle.flash_entry.specs.declared.entry.Entry.{Entry}
use Rattle.flash_entry.specs.declared.entry.Entry.TheVariants as entries
pub use Rattle.flash_machine.specs.declared.machine.read_table.DeviceRead.{DeviceRead}
use Rattle.flash_machine.specs.Lookups.{same_id}
use Rattle.flash_machine.specs.ReadOff.{read_off}

abbrev pub with_outcome : Option (List ℕ) → DeviceRead → DeviceRead
with_outcome outcome read = record read { outcome = Some outcome }

abbrev pub read_step : Id → Option DeviceRead → Entry → Option DeviceRead
read_step id read (entries.ReadBegan other place reader) =
    if same_id other id then Some (record { place = place; outcome = None }) else read
read_step id read (entries.ReadEnded other outcome) =
    if same_id other id then option_map (with_outcome outcome) read else read
read_step id read _ = read

-- the read of a step, if it has begun
abbrev pub read_of : Id → List Entry → Option DeviceRead
read_of id journal = read_off (read_step id) None journal
