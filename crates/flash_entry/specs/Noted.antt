-- The entries that notes stand for.
use Rattle.std.specs.Prelude.{List, ◌∷◌, ◌++◌, Option}
use Rattle.std.specs.Option.{option_map, option_to_list}
use Rattle.flash_entry.specs.declared.entry.Entry.{Entry}
use Rattle.flash_entry.specs.declared.entry.Entry.TheVariants as entries
use Rattle.flash_entry.specs.declared.entry.Done.{Done}
use Rattle.flash_entry.specs.declared.entry.Done.TheVariants as deeds
use Rattle.flash_entry.specs.declared.entry.Close.{Close}
use Rattle.flash_entry.specs.declared.entry.Close.TheVariants as closes
use Rattle.flash_entry.specs.declared.note.Note.{Note}
use Rattle.flash_entry.specs.declared.note.Note.TheVariants as notes
use Rattle.flash_entry.specs.declared.note.DoneNote.{DoneNote}
use Rattle.flash_entry.specs.declared.note.DoneNote.TheVariants as done_notes
use Rattle.flash_entry.specs.declared.note.CloseNote.{CloseNote}
use Rattle.flash_entry.specs.declared.note.CloseNote.TheVariants as close_notes

-- the step that was done
abbrev pub done_of : DoneNote → Done
done_of (done_notes.Store put answer) = deeds.Store put.now answer
done_of (done_notes.Delete key compare answer) = deeds.Delete key.now compare answer
done_of (done_notes.Sum ask answer) = deeds.Sum ask.now answer
done_of (done_notes.Touch key exptime answer) = deeds.Touch key.now exptime answer
done_of (done_notes.Flush delay) = deeds.Flush delay
done_of (done_notes.Stats tally) = deeds.Stats tally

-- how the lookup was closed
abbrev pub close_of : CloseNote → Close
close_of (close_notes.Hit hit) = closes.Hit hit.now.head.flags hit.now.head.cas hit.now.value
close_of (close_notes.Lost cause) = closes.Lost cause

-- the entry
abbrev pub entry_of : Note → Entry
entry_of (notes.Clock moment) = entries.Clock moment
entry_of (notes.Did id done) = entries.Did id (done_of done)
entry_of (notes.Looked id key look residence) = entries.Looked id key.now look residence
entry_of (notes.FromBuffer id place) = entries.FromBuffer id place
entry_of (notes.ReadBegan id place reader) = entries.ReadBegan id place reader
entry_of (notes.ReadEnded id bytes) = entries.ReadEnded id (option_map (λ b. b.now) bytes)
entry_of (notes.Closed id close) = entries.Closed id (close_of close)
entry_of (notes.Moved key cas label) = entries.Moved key.now cas label
entry_of (notes.Recached key cas) = entries.Recached key.now cas
entry_of (notes.Dropped key cause) = entries.Dropped key.now cause
entry_of (notes.WriteBegan place) = entries.WriteBegan place
entry_of (notes.WriteEnded place bytes) = entries.WriteEnded place (option_map (λ b. b.now) bytes)
entry_of (notes.Opened label) = entries.Opened label
entry_of (notes.Ended label cause) = entries.Ended label cause
entry_of (notes.Freed label) = entries.Freed label

-- the entry, where there is a note
abbrev pub entry_if : Option Note → List Entry
entry_if note = option_to_list (option_map entry_of note)

-- the entries of up to four notes, in order
abbrev pub entries_of_notes : Note → Option Note → Option Note → Option Note → List Entry
entries_of_notes first second third fourth = entry_of first ∷ (entry_if second ++ (entry_if third ++ entry_if fourth))
