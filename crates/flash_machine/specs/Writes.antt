-- The writes to flash, as a journal says them.
use Rattle.std.specs.Prelude.{ℕ, zero, suc, ◌*◌, ◌/◌, Bool, true, false, ◌&&◌, nat_eq, List, Option, None, Some, if◌then◌else◌}
use Rattle.std.specs.List.{list_any}
use Rattle.flash_names.specs.declared.place.Label.{Label}
use Rattle.flash_names.specs.declared.place.Place.{Place}
use Rattle.flash_names.specs.declared.geometry.Geometry.{Geometry}
use Rattle.flash_names.specs.Labels.{same_label}
use Rattle.flash_entry.specs.declared.entry.Entry.{Entry}
use Rattle.flash_entry.specs.declared.entry.Entry.TheVariants as entries
use Rattle.flash_machine.specs.ReadOff.{read_off}

abbrev pub open_write_step : Option Place → Entry → Option Place
open_write_step place (entries.WriteBegan began) = Some began
open_write_step place (entries.WriteEnded ended outcome) = None
open_write_step place _ = place

-- the place of the write that has begun and not ended
abbrev pub open_write : List Entry → Option Place
open_write journal = read_off open_write_step None journal

abbrev pub last_write_step : Label → Option (Option (List ℕ)) → Entry → Option (Option (List ℕ))
last_write_step label last (entries.WriteEnded place outcome) =
    if same_label place.label label then Some outcome else last
last_write_step label last _ = last

-- the outcome of the last write of a label that has ended: its bytes, or none where it failed
abbrev pub last_write : Label → List Entry → Option (Option (List ℕ))
last_write label journal = read_off (last_write_step label) None journal

-- whether the entry ends a good write of the label's block at this offset
abbrev pub ends_good_write : Label → ℕ → Entry → Bool
ends_good_write label offset (entries.WriteEnded place (Some bytes)) =
    same_label place.label label && nat_eq place.offset offset
ends_good_write label offset _ = false

-- whether the label's block at this offset has a good write
abbrev pub has_good_write : Label → ℕ → List Entry → Bool
has_good_write label offset journal = list_any (ends_good_write label offset) journal

-- whether each of the label's first n blocks of this size has a good write
abbrev pub are_written : ℕ → ℕ → Label → List Entry → Bool
are_written size zero label journal = true
are_written size (suc n) label journal = are_written size n label journal && has_good_write label (n * size) journal

-- whether each block of the label has a good write
abbrev pub is_written : Geometry → Label → List Entry → Bool
is_written g label journal = are_written g.buffer_size (g.page_size / g.buffer_size) label journal
