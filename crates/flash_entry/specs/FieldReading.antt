-- The readings of an entry's fields.
use Rattle.std.specs.Prelude.{ℕ, ℤ, List, Bool, Option, codes}
use Rattle.flash_names.specs.declared.place.Label.{Label}
use Rattle.flash_names.specs.declared.place.Place.{Place}
use Rattle.flash_names.specs.declared.place.Id.{Id}
use Rattle.flash_entry.specs.declared.entry_fault.EntryFault.TheVariants.{BadWord, BadNumber}
use Rattle.flash_entry.specs.declared.answer.Gone.{Gone}
use Rattle.flash_entry.specs.declared.answer.Touched.{Touched}
use Rattle.flash_entry.specs.declared.found.Cause.{Cause}
use Rattle.flash_entry.specs.declared.entry.DropCause.{DropCause}
use Rattle.flash_entry.specs.declared.entry.EndCause.{EndCause}
use Rattle.flash_entry.specs.declared.kinds.Kind.{Kind}
use Rattle.flash_entry.specs.declared.kinds.Verb.{Verb}
use Rattle.flash_entry.specs.WordValues.{plain_number, narrow_number, signed_number, optional_number, optional_signed, key_of_digits, value_of_digits}
use Rattle.flash_entry.specs.WordValues as values
use Rattle.flash_entry.specs.FixedWords as fixed
use Rattle.flash_entry.specs.Readings.{Reading, ◌>>=◌, give, value_or, next_word}

-- a number below 2^64
unfoldable pub number : Reading ℕ
number = do
  word ← next_word
  value_or (plain_number word) BadNumber

-- a number below 2^32
unfoldable pub narrow : Reading ℕ
narrow = do
  word ← next_word
  value_or (narrow_number word) BadNumber

-- a number from -2^63 to 2^63 - 1
unfoldable pub signed : Reading ℤ
signed = do
  word ← next_word
  value_or (signed_number word) BadNumber

-- a number, or a dash
unfoldable pub number_if : Reading (Option ℕ)
number_if = do
  word ← next_word
  value_or (optional_number word) BadNumber

-- a number that may be negative, or a dash
unfoldable pub signed_if : Reading (Option ℤ)
signed_if = do
  word ← next_word
  value_or (optional_signed word) BadNumber

-- an item's CAS number, or the word for no item
unfoldable pub number_or_none : Reading (Option ℕ)
number_or_none = do
  word ← next_word
  value_or (values.number_or_none word) BadNumber

-- a page's number, or the word for a value in memory
unfoldable pub narrow_or_here : Reading (Option ℕ)
narrow_or_here = do
  word ← next_word
  value_or (values.narrow_or_here word) BadNumber

-- a key
unfoldable pub key : Reading (List ℕ)
key = do
  word ← next_word
  value_or (key_of_digits word) BadWord

-- a value
unfoldable pub value : Reading (List ℕ)
value = do
  word ← next_word
  value_or (value_of_digits word) BadWord

-- the bytes that were read or written, or that it failed
unfoldable pub bytes_or_failed : Reading (Option (List ℕ))
bytes_or_failed = do
  word ← next_word
  value_or (values.bytes_or_failed word) BadWord

-- the kind of an entry
unfoldable pub kind : Reading Kind
kind = do
  word ← next_word
  value_or (fixed.kind word) BadWord

-- a command's step
unfoldable pub verb : Reading Verb
verb = do
  word ← next_word
  value_or (fixed.verb word) BadWord

-- this word and no other
unfoldable pub only : List ℕ → Reading Unit
only expected = do
  word ← next_word
  value_or (fixed.only expected word) BadWord

-- the sign of equality before an answer
abbrev pub equality : Reading Unit
equality = only (codes "=")

-- the second dash where nothing is to be created
abbrev pub dash : Reading Unit
dash = only (codes "-")

-- the answer to a flush
abbrev pub done : Reading Unit
done = only (codes "ok")

-- the answer to a delete
unfoldable pub gone : Reading Gone
gone = do
  word ← next_word
  value_or (fixed.gone word) BadWord

-- the answer to a touch
unfoldable pub touched : Reading Touched
touched = do
  word ← next_word
  value_or (fixed.touched word) BadWord

-- whether a lookup wants the value
unfoldable pub wanted : Reading Bool
wanted = do
  word ← next_word
  value_or (fixed.wanted word) BadWord

-- why an item that was found could not be answered
unfoldable pub cause : Reading Cause
cause = do
  word ← next_word
  value_or (fixed.cause word) BadWord

-- why an item was dropped
unfoldable pub drop_cause : Reading DropCause
drop_cause = do
  word ← next_word
  value_or (fixed.drop_cause word) BadWord

-- why a page was ended
unfoldable pub end_cause : Reading EndCause
end_cause = do
  word ← next_word
  value_or (fixed.end_cause word) BadWord

-- the pass and the step's number in it
unfoldable pub id : Reading Id
id = do
  pass ← narrow
  seq ← number
  give (record { pass = pass; seq = seq })

-- the page and its version
unfoldable pub label : Reading Label
label = do
  page ← narrow
  version ← number
  give (record { page = page; version = version })

-- the label, the offset and the length
unfoldable pub place : Reading Place
place = do
  label ← label
  offset ← narrow
  length ← narrow
  give (record { label = label; offset = offset; length = length })
