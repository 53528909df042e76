-- The values that the fixed words of the journal stand for.
use Rattle.std.specs.Prelude.{ℕ, Bool, true, false, List, Option, None, Some, codes, if◌then◌else◌}
use Rattle.std.specs.Option.{option_or, option_map}
use Rattle.std.specs.Str.{bytes_eq}
use Rattle.flash_entry.specs.declared.ask.Mode.{Mode}
use Rattle.flash_entry.specs.declared.ask.Mode.TheVariants as modes
use Rattle.flash_entry.specs.declared.answer.Stored.{Stored}
use Rattle.flash_entry.specs.declared.answer.Stored.TheVariants as stored
use Rattle.flash_entry.specs.declared.answer.Gone.{Gone}
use Rattle.flash_entry.specs.declared.answer.Gone.TheVariants as goings
use Rattle.flash_entry.specs.declared.answer.Sum.{Sum}
use Rattle.flash_entry.specs.declared.answer.Sum.TheVariants as sums
use Rattle.flash_entry.specs.declared.answer.Touched.{Touched}
use Rattle.flash_entry.specs.declared.answer.Touched.TheVariants as touches
use Rattle.flash_entry.specs.declared.found.Cause.{Cause}
use Rattle.flash_entry.specs.declared.found.Cause.TheVariants as causes
use Rattle.flash_entry.specs.declared.entry.DropCause.{DropCause}
use Rattle.flash_entry.specs.declared.entry.DropCause.TheVariants as drops
use Rattle.flash_entry.specs.declared.entry.EndCause.{EndCause}
use Rattle.flash_entry.specs.declared.entry.EndCause.TheVariants as ends
use Rattle.flash_entry.specs.declared.kinds.Kind.{Kind}
use Rattle.flash_entry.specs.declared.kinds.Kind.TheVariants as kinds
use Rattle.flash_entry.specs.declared.kinds.StepKind.{StepKind}
use Rattle.flash_entry.specs.declared.kinds.StepKind.TheVariants as steps
use Rattle.flash_entry.specs.declared.kinds.LookupKind.{LookupKind}
use Rattle.flash_entry.specs.declared.kinds.LookupKind.TheVariants as lookups
use Rattle.flash_entry.specs.declared.kinds.ItemKind.{ItemKind}
use Rattle.flash_entry.specs.declared.kinds.ItemKind.TheVariants as items
use Rattle.flash_entry.specs.declared.kinds.PageKind.{PageKind}
use Rattle.flash_entry.specs.declared.kinds.PageKind.TheVariants as pages
use Rattle.flash_entry.specs.declared.kinds.Verb.{Verb}
use Rattle.flash_entry.specs.declared.kinds.Verb.TheVariants as verbs

-- a moment, or a command's step
unfoldable pub step_kind : List ℕ → Option StepKind
step_kind word =
    if bytes_eq word (codes "clock") then Some steps.Clock
    else if bytes_eq word (codes "did") then Some steps.Did
    else None

-- an entry of a lookup
unfoldable pub lookup_kind : List ℕ → Option LookupKind
lookup_kind word =
    if bytes_eq word (codes "looked") then Some lookups.Looked
    else if bytes_eq word (codes "buffered") then Some lookups.FromBuffer
    else if bytes_eq word (codes "read-began") then Some lookups.ReadBegan
    else if bytes_eq word (codes "read-ended") then Some lookups.ReadEnded
    else if bytes_eq word (codes "closed") then Some lookups.Closed
    else None

-- an entry of an item
unfoldable pub item_kind : List ℕ → Option ItemKind
item_kind word =
    if bytes_eq word (codes "moved") then Some items.Moved
    else if bytes_eq word (codes "recached") then Some items.Recached
    else if bytes_eq word (codes "dropped") then Some items.Dropped
    else None

-- an entry of a page
unfoldable pub page_kind : List ℕ → Option PageKind
page_kind word =
    if bytes_eq word (codes "write-began") then Some pages.WriteBegan
    else if bytes_eq word (codes "write-ended") then Some pages.WriteEnded
    else if bytes_eq word (codes "opened") then Some pages.Opened
    else if bytes_eq word (codes "ended") then Some pages.Ended
    else if bytes_eq word (codes "freed") then Some pages.Freed
    else None

-- the kind of an entry
unfoldable pub kind : List ℕ → Option Kind
kind word =
    option_or (option_map kinds.Step (step_kind word))
    (option_or (option_map kinds.Lookup (lookup_kind word))
    (option_or (option_map kinds.Item (item_kind word)) (option_map kinds.Page (page_kind word))))

-- how a value is stored, by the word of its command
unfoldable pub mode : List ℕ → Option Mode
mode word =
    if bytes_eq word (codes "set") then Some modes.Set
    else if bytes_eq word (codes "add") then Some modes.Add
    else if bytes_eq word (codes "replace") then Some modes.Replace
    else if bytes_eq word (codes "append") then Some modes.Append
    else if bytes_eq word (codes "prepend") then Some modes.Prepend
    else None

-- a command's step that stores no value of its own
unfoldable pub other_verb : List ℕ → Option Verb
other_verb word =
    if bytes_eq word (codes "delete") then Some verbs.Delete
    else if bytes_eq word (codes "up") then Some (verbs.Sum false)
    else if bytes_eq word (codes "down") then Some (verbs.Sum true)
    else if bytes_eq word (codes "touch") then Some verbs.Touch
    else if bytes_eq word (codes "flush") then Some verbs.Flush
    else if bytes_eq word (codes "stats") then Some verbs.Stats
    else None

-- a command's step
unfoldable pub verb : List ℕ → Option Verb
verb word = option_or (option_map verbs.Store (mode word)) (other_verb word)

-- this word and no other
unfoldable pub only : List ℕ → List ℕ → Option Unit
only expected word = if bytes_eq word expected then Some tt else None

-- the answer to a store that was refused
unfoldable pub refusal : List ℕ → Option Stored
refusal word =
    if bytes_eq word (codes "not-stored") then Some stored.NotStored
    else if bytes_eq word (codes "exists") then Some stored.Exists
    else if bytes_eq word (codes "not-found") then Some stored.NotFound
    else if bytes_eq word (codes "too-large") then Some stored.TooLarge
    else if bytes_eq word (codes "no-number") then Some stored.NoNumber
    else None

-- the answer to a delete
unfoldable pub gone : List ℕ → Option Gone
gone word =
    if bytes_eq word (codes "deleted") then Some goings.Deleted
    else if bytes_eq word (codes "not-found") then Some goings.NotFound
    else if bytes_eq word (codes "exists") then Some goings.Exists
    else None

-- the answer to arithmetic that was refused
unfoldable pub sum_refusal : List ℕ → Option Sum
sum_refusal word =
    if bytes_eq word (codes "not-found") then Some sums.NotFound
    else if bytes_eq word (codes "non-numeric") then Some sums.NonNumeric
    else if bytes_eq word (codes "exists") then Some sums.Exists
    else if bytes_eq word (codes "no-number") then Some sums.NoNumber
    else None

-- the answer to a touch
unfoldable pub touched : List ℕ → Option Touched
touched word =
    if bytes_eq word (codes "touched") then Some touches.Touched
    else if bytes_eq word (codes "not-found") then Some touches.NotFound
    else None

-- whether a lookup wants the value
unfoldable pub wanted : List ℕ → Option Bool
wanted word =
    if bytes_eq word (codes "v") then Some true
    else if bytes_eq word (codes "h") then Some false
    else None

-- why an item that was found could not be answered
unfoldable pub cause : List ℕ → Option Cause
cause word =
    if bytes_eq word (codes "ended") then Some causes.Ended
    else if bytes_eq word (codes "fault") then Some causes.Fault
    else if bytes_eq word (codes "damaged") then Some causes.Damaged
    else None

-- why an item was dropped
unfoldable pub drop_cause : List ℕ → Option DropCause
drop_cause word =
    if bytes_eq word (codes "dead") then Some drops.Dead
    else if bytes_eq word (codes "evict") then Some drops.Evict
    else if bytes_eq word (codes "ended") then Some drops.Ended
    else if bytes_eq word (codes "damaged") then Some drops.Damaged
    else None

-- why a page was ended
unfoldable pub end_cause : List ℕ → Option EndCause
end_cause word =
    if bytes_eq word (codes "compacted") then Some ends.Compacted
    else if bytes_eq word (codes "evict") then Some ends.Evict
    else if bytes_eq word (codes "fault") then Some ends.Fault
    else None
