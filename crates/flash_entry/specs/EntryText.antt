-- The line of the journal for each kind of entry.
use Rattle.std.specs.Prelude.{List, ◌++◌, Bool, codes, if◌then◌else◌, Option, None, Some, ℕ}
use Rattle.flash_entry.specs.Text.{word, number, number_if, signed, signed_if, hexadecimal, id_text, label_text, place_text, line_end}
use Rattle.flash_entry.specs.declared.ask.Mode.{Mode}
use Rattle.flash_entry.specs.declared.ask.Mode.TheVariants as modes
use Rattle.flash_entry.specs.declared.ask.Create.{Create}
use Rattle.flash_entry.specs.declared.answer.Stored.{Stored}
use Rattle.flash_entry.specs.declared.answer.Stored.TheVariants as stored
use Rattle.flash_entry.specs.declared.answer.Gone.{Gone}
use Rattle.flash_entry.specs.declared.answer.Gone.TheVariants as gone
use Rattle.flash_entry.specs.declared.answer.Summed.{Summed}
use Rattle.flash_entry.specs.declared.answer.Sum.{Sum}
use Rattle.flash_entry.specs.declared.answer.Sum.TheVariants as sums
use Rattle.flash_entry.specs.declared.answer.Touched.{Touched}
use Rattle.flash_entry.specs.declared.answer.Touched.TheVariants as touched
use Rattle.flash_entry.specs.declared.found.Cause.{Cause}
use Rattle.flash_entry.specs.declared.found.Cause.TheVariants as causes
use Rattle.flash_entry.specs.declared.entry.Done.{Done}
use Rattle.flash_entry.specs.declared.entry.Done.TheVariants as deeds
use Rattle.flash_entry.specs.declared.entry.Residence.{Residence}
use Rattle.flash_entry.specs.declared.entry.Residence.TheVariants as residence
use Rattle.flash_entry.specs.declared.entry.Close.{Close}
use Rattle.flash_entry.specs.declared.entry.Close.TheVariants as closes
use Rattle.flash_entry.specs.declared.entry.DropCause.{DropCause}
use Rattle.flash_entry.specs.declared.entry.DropCause.TheVariants as drops
use Rattle.flash_entry.specs.declared.entry.EndCause.{EndCause}
use Rattle.flash_entry.specs.declared.entry.EndCause.TheVariants as ends
use Rattle.flash_entry.specs.declared.entry.Entry.{Entry}
use Rattle.flash_entry.specs.declared.entry.Entry.TheVariants as entries

-- the word of a mode, which is that of its command
abbrev pub mode_word : Mode → List ℕ
mode_word modes.Set = codes "set"
mode_word modes.Add = codes "add"
mode_word modes.Replace = codes "replace"
mode_word modes.Append = codes "append"
mode_word modes.Prepend = codes "prepend"

-- the answer to a store, with the CAS number where it was stored
abbrev pub stored_text : Stored → List ℕ
stored_text (stored.Stored cas) = word (codes "stored") ++ number cas
stored_text stored.NotStored = word (codes "not-stored")
stored_text stored.Exists = word (codes "exists")
stored_text stored.NotFound = word (codes "not-found")
stored_text stored.TooLarge = word (codes "too-large")
stored_text stored.NoNumber = word (codes "no-number")

-- the answer to a delete
abbrev pub gone_word : Gone → List ℕ
gone_word gone.Deleted = codes "deleted"
gone_word gone.NotFound = codes "not-found"
gone_word gone.Exists = codes "exists"

-- a number that arithmetic left, the item's CAS number, and the seconds left to its deadline
abbrev pub summed_text : Summed → List ℕ
summed_text summed = number summed.number ++ number summed.cas ++ signed summed.left

-- the answer to arithmetic
abbrev pub sum_text : Sum → List ℕ
sum_text (sums.Now summed) = word (codes "now") ++ summed_text summed
sum_text (sums.Created summed) = word (codes "created") ++ summed_text summed
sum_text sums.NotFound = word (codes "not-found")
sum_text sums.NonNumeric = word (codes "non-numeric")
sum_text sums.Exists = word (codes "exists")
sum_text sums.NoNumber = word (codes "no-number")

-- the answer to a touch
abbrev pub touched_word : Touched → List ℕ
touched_word touched.Touched = codes "touched"
touched_word touched.NotFound = codes "not-found"

-- the exptime and the start of what is to be created
abbrev pub create_text : Option Create → List ℕ
create_text None = word (codes "-") ++ word (codes "-")
create_text (Some create) = signed create.exptime ++ number create.start

-- whether arithmetic takes away or adds
abbrev pub direction_word : Bool → List ℕ
direction_word down = if down then codes "down" else codes "up"

-- a command's step: what was asked, and after the sign of equality what was answered
abbrev pub done_text : Done → List ℕ
done_text (deeds.Store put answer) =
    word (mode_word put.mode) ++ hexadecimal put.key ++ number put.flags ++ signed put.exptime
    ++ number_if put.compare ++ hexadecimal put.value
    ++ word (codes "=") ++ stored_text answer
done_text (deeds.Delete key compare answer) =
    word (codes "delete") ++ hexadecimal key ++ number_if compare ++ word (codes "=") ++ word (gone_word answer)
done_text (deeds.Sum ask answer) =
    word (direction_word ask.down) ++ hexadecimal ask.key ++ number ask.delta ++ number_if ask.compare
    ++ signed_if ask.renew ++ create_text ask.create
    ++ word (codes "=") ++ sum_text answer
done_text (deeds.Touch key exptime answer) =
    word (codes "touch") ++ hexadecimal key ++ signed exptime ++ word (codes "=") ++ word (touched_word answer)
done_text (deeds.Flush delay) = word (codes "flush") ++ signed delay ++ word (codes "=") ++ word (codes "ok")
done_text (deeds.Stats tally) =
    word (codes "stats") ++ word (codes "=") ++ number tally.items ++ number tally.load ++ number tally.last_cas
    ++ number tally.now ++ number tally.free_pages

-- whether a lookup wants the value or the head alone
abbrev pub wanted_word : Bool → List ℕ
wanted_word value = if value then codes "v" else codes "h"

-- where a lookup found the value: nowhere, in memory or on a page
abbrev pub residence_text : Residence → List ℕ
residence_text residence.Nothing = word (codes "none")
residence_text (residence.Here cas) = number cas ++ word (codes "here")
residence_text (residence.Away cas label) = number cas ++ label_text label

-- why an item that was found could not be answered
abbrev pub cause_word : Cause → List ℕ
cause_word causes.Ended = codes "ended"
cause_word causes.Fault = codes "fault"
cause_word causes.Damaged = codes "damaged"

-- how a lookup was closed: the flags, the CAS number and the value, or why it was lost
abbrev pub close_text : Close → List ℕ
close_text (closes.Hit flags cas value) = word (codes "hit") ++ number flags ++ number cas ++ hexadecimal value
close_text (closes.Lost cause) = word (codes "lost") ++ word (cause_word cause)

-- why an item was dropped
abbrev pub drop_word : DropCause → List ℕ
drop_word drops.Dead = codes "dead"
drop_word drops.Evict = codes "evict"
drop_word drops.Ended = codes "ended"
drop_word drops.Damaged = codes "damaged"

-- why a page was ended
abbrev pub end_word : EndCause → List ℕ
end_word ends.Compacted = codes "compacted"
end_word ends.Evict = codes "evict"
end_word ends.Fault = codes "fault"

-- the bytes that were read or written, or that it failed
abbrev pub bytes_text : Option (List ℕ) → List ℕ
bytes_text None = word (codes "failed")
bytes_text (Some bytes) = hexadecimal bytes

-- the first word of an entry
abbrev pub kind_word : Entry → List ℕ
kind_word (entries.Clock _) = codes "clock"
kind_word (entries.Did _ _) = codes "did"
kind_word (entries.Looked _ _ _ _) = codes "looked"
kind_word (entries.FromBuffer _ _) = codes "buffered"
kind_word (entries.ReadBegan _ _ _) = codes "read-began"
kind_word (entries.ReadEnded _ _) = codes "read-ended"
kind_word (entries.Closed _ _) = codes "closed"
kind_word (entries.Moved _ _ _) = codes "moved"
kind_word (entries.Recached _ _) = codes "recached"
kind_word (entries.Dropped _ _) = codes "dropped"
kind_word (entries.WriteBegan _) = codes "write-began"
kind_word (entries.WriteEnded _ _) = codes "write-ended"
kind_word (entries.Opened _) = codes "opened"
kind_word (entries.Ended _ _) = codes "ended"
kind_word (entries.Freed _) = codes "freed"

-- the words after it
abbrev pub entry_rest : Entry → List ℕ
entry_rest (entries.Clock moment) = number moment
entry_rest (entries.Did id done) = id_text id ++ done_text done
entry_rest (entries.Looked id key look answer) =
    id_text id ++ hexadecimal key ++ word (wanted_word look.value) ++ signed_if look.renew ++ word (codes "=")
    ++ residence_text answer
entry_rest (entries.FromBuffer id place) = id_text id ++ place_text place
entry_rest (entries.ReadBegan id place reader) = id_text id ++ place_text place ++ number reader
entry_rest (entries.ReadEnded id bytes) = id_text id ++ bytes_text bytes
entry_rest (entries.Closed id close) = id_text id ++ close_text close
entry_rest (entries.Moved key cas label) = hexadecimal key ++ number cas ++ label_text label
entry_rest (entries.Recached key cas) = hexadecimal key ++ number cas
entry_rest (entries.Dropped key cause) = hexadecimal key ++ word (drop_word cause)
entry_rest (entries.WriteBegan place) = place_text place
entry_rest (entries.WriteEnded place bytes) = place_text place ++ bytes_text bytes
entry_rest (entries.Opened label) = label_text label
entry_rest (entries.Ended label cause) = label_text label ++ word (end_word cause)
entry_rest (entries.Freed label) = label_text label

-- the line of an entry
abbrev pub entry_line : Entry → List ℕ
entry_line entry = kind_word entry ++ entry_rest entry ++ line_end
