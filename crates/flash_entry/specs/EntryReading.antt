-- The form of each kind of line, and the entry of a line or its first fault.
use Rattle.std.specs.Prelude.{ℕ, ℤ, List, Bool, Option, None, Some, Result, Ok, Err, codes, if◌then◌else◌}
use Rattle.std.specs.Str.{bytes_eq}
use Rattle.flash_names.specs.Words.{words}
use Rattle.flash_entry.specs.declared.entry_fault.EntryFault.{EntryFault}
use Rattle.flash_entry.specs.declared.entry_fault.EntryFault.TheVariants.{BadWord}
use Rattle.flash_entry.specs.declared.ask.Mode.{Mode}
use Rattle.flash_entry.specs.declared.ask.Put.{Put}
use Rattle.flash_entry.specs.declared.ask.Create.{Create}
use Rattle.flash_entry.specs.declared.ask.Arith.{Arith}
use Rattle.flash_entry.specs.declared.answer.Stored.{Stored}
use Rattle.flash_entry.specs.declared.answer.Stored.TheVariants as stores
use Rattle.flash_entry.specs.declared.answer.Summed.{Summed}
use Rattle.flash_entry.specs.declared.answer.Sum.{Sum}
use Rattle.flash_entry.specs.declared.answer.Sum.TheVariants as sums
use Rattle.flash_entry.specs.declared.entry.Done.{Done}
use Rattle.flash_entry.specs.declared.entry.Done.TheVariants as deeds
use Rattle.flash_entry.specs.declared.entry.Residence.{Residence}
use Rattle.flash_entry.specs.declared.entry.Residence.TheVariants as residences
use Rattle.flash_entry.specs.declared.entry.Close.{Close}
use Rattle.flash_entry.specs.declared.entry.Close.TheVariants as closes
use Rattle.flash_entry.specs.declared.entry.Entry.{Entry}
use Rattle.flash_entry.specs.declared.entry.Entry.TheVariants as entries
use Rattle.flash_entry.specs.declared.kinds.Kind.{Kind}
use Rattle.flash_entry.specs.declared.kinds.Kind.TheVariants as kinds
use Rattle.flash_entry.specs.declared.kinds.StepKind.{StepKind}
use Rattle.flash_entry.specs.declared.kinds.StepKind.TheVariants as steps
use Rattle.flash_entry.specs.declared.kinds.LookupKind.{LookupKind}
use Rattle.flash_entry.specs.declared.kinds.LookupKind.TheVariants as lookups
use Rattle.flash_entry.specs.declared.kinds.ItemKind.{ItemKind}
use Rattle.flash_entry.specs.declared.kinds.ItemKind.TheVariants as items
use Rattle.flash_entry.specs.declared.kinds.PageKind.{PageKind}
use Rattle.flash_entry.specs.declared.kinds.PageKind.TheVariants as pages
use Rattle.flash_entry.specs.declared.kinds.Verb.{Verb}
use Rattle.flash_entry.specs.declared.kinds.Verb.TheVariants as verbs
use Rattle.flash_entry.specs.FixedWords as fixed
use Rattle.flash_entry.specs.FieldReading as fields
use Rattle.flash_entry.specs.Readings.{Outcome, Reading, ◌>>=◌, give, value_or, next_word, end_of_line}

-- `stored` and the item's CAS number, or the refusal
unfoldable pub stored_of : List ℕ → Reading Stored
stored_of word =
    if bytes_eq word (codes "stored") then (do
      cas ← fields.number
      give (stores.Stored cas))
    else value_or (fixed.refusal word) BadWord

unfoldable pub stored : Reading Stored
stored = do
  word ← next_word
  stored_of word

-- the number that arithmetic left, the item's CAS number, and the seconds left to its deadline
unfoldable pub summed : Reading Summed
summed = do
  number ← fields.number
  cas ← fields.number
  left ← fields.signed
  give (record { number = number; cas = cas; left = left })

-- `now` or `created` with the number, or the refusal
unfoldable pub sum_of : List ℕ → Reading Sum
sum_of word =
    if bytes_eq word (codes "now") then (do
      summed ← summed
      give (sums.Now summed))
    else if bytes_eq word (codes "created") then (do
      summed ← summed
      give (sums.Created summed))
    else value_or (fixed.sum_refusal word) BadWord

unfoldable pub sum : Reading Sum
sum = do
  word ← next_word
  sum_of word

-- two dashes, or the exptime and the start of what is to be created
unfoldable pub create_of : Option ℤ → Reading (Option Create)
create_of None = do
  _ ← fields.dash
  give None
create_of (Some exptime) = do
  start ← fields.number
  give (Some (record { exptime = exptime; start = start }))

unfoldable pub create_if : Reading (Option Create)
create_if = do
  exptime ← fields.signed_if
  create_of exptime

-- <key> <flags> <exptime> <compare> <value> = <answer>
unfoldable pub store : Mode → Reading Done
store mode = do
  key ← fields.key
  flags ← fields.narrow
  exptime ← fields.signed
  compare ← fields.number_if
  value ← fields.value
  _ ← fields.equality
  answer ← stored
  let put : Put = record { key = key; mode = mode; flags = flags; exptime = exptime; compare = compare; value = value }
  give (deeds.Store put answer)

-- <key> <compare> = <answer>
unfoldable pub delete : Reading Done
delete = do
  key ← fields.key
  compare ← fields.number_if
  _ ← fields.equality
  answer ← fields.gone
  give (deeds.Delete key compare answer)

-- <key> <delta> <compare> <renew> <exptime> <start> = <answer>
unfoldable pub arithmetic : Bool → Reading Done
arithmetic down = do
  key ← fields.key
  delta ← fields.number
  compare ← fields.number_if
  renew ← fields.signed_if
  create ← create_if
  _ ← fields.equality
  answer ← sum
  let ask : Arith = record { key = key; down = down; delta = delta; compare = compare; renew = renew; create = create }
  give (deeds.Sum ask answer)

-- <key> <exptime> = <answer>
unfoldable pub touch : Reading Done
touch = do
  key ← fields.key
  exptime ← fields.signed
  _ ← fields.equality
  answer ← fields.touched
  give (deeds.Touch key exptime answer)

-- <delay> = ok
unfoldable pub flush : Reading Done
flush = do
  delay ← fields.signed
  _ ← fields.equality
  _ ← fields.done
  give (deeds.Flush delay)

-- = <items> <load> <last CAS number> <moment> <free pages>
unfoldable pub stats : Reading Done
stats = do
  _ ← fields.equality
  items ← fields.number
  load ← fields.number
  last_cas ← fields.number
  now ← fields.number
  free_pages ← fields.number
  give (deeds.Stats (record { items = items; load = load; last_cas = last_cas; now = now; free_pages = free_pages }))

-- a command's step after its verb
unfoldable pub step_of : Verb → Reading Done
step_of (verbs.Store mode) = store mode
step_of verbs.Delete = delete
step_of (verbs.Sum down) = arithmetic down
step_of verbs.Touch = touch
step_of verbs.Flush = flush
step_of verbs.Stats = stats

-- <verb> and its form
unfoldable pub step : Reading Done
step = do
  verb ← fields.verb
  step_of verb

-- `none`, <CAS number> `here`, or <CAS number> <page> <version>
abbrev pub residence_at : ℕ → Option ℕ → Reading Residence
residence_at cas None = give (residences.Here cas)
residence_at cas (Some page) = do
  version ← fields.number
  give (residences.Away cas (record { page = page; version = version }))

unfoldable pub residence_of : Option ℕ → Reading Residence
residence_of None = give residences.Nothing
residence_of (Some cas) = do
  page ← fields.narrow_or_here
  residence_at cas page

unfoldable pub residence : Reading Residence
residence = do
  cas ← fields.number_or_none
  residence_of cas

-- `hit` <flags> <CAS number> <value>, or `lost` <cause>
unfoldable pub hit : Reading Close
hit = do
  flags ← fields.narrow
  cas ← fields.number
  value ← fields.value
  give (closes.Hit flags cas value)

unfoldable pub lost : Reading Close
lost = do
  cause ← fields.cause
  give (closes.Lost cause)

unfoldable pub close_of : List ℕ → Reading Close
close_of word =
    if bytes_eq word (codes "hit") then hit
    else if bytes_eq word (codes "lost") then lost
    else value_or None BadWord

unfoldable pub close : Reading Close
close = do
  word ← next_word
  close_of word

-- clock <moment>
unfoldable pub clock : Reading Entry
clock = do
  moment ← fields.number
  give (entries.Clock moment)

-- did <id> <step>
unfoldable pub did : Reading Entry
did = do
  id ← fields.id
  step ← step
  give (entries.Did id step)

-- looked <id> <key> <wanted> <renew> = <residence>
unfoldable pub looked : Reading Entry
looked = do
  id ← fields.id
  key ← fields.key
  value ← fields.wanted
  renew ← fields.signed_if
  _ ← fields.equality
  residence ← residence
  give (entries.Looked id key (record { value = value; renew = renew }) residence)

-- buffered <id> <place>
unfoldable pub buffered : Reading Entry
buffered = do
  id ← fields.id
  place ← fields.place
  give (entries.FromBuffer id place)

-- read-began <id> <place> <pass>
unfoldable pub read_began : Reading Entry
read_began = do
  id ← fields.id
  place ← fields.place
  reader ← fields.narrow
  give (entries.ReadBegan id place reader)

-- read-ended <id> <bytes>
unfoldable pub read_ended : Reading Entry
read_ended = do
  id ← fields.id
  bytes ← fields.bytes_or_failed
  give (entries.ReadEnded id bytes)

-- closed <id> <close>
unfoldable pub closed : Reading Entry
closed = do
  id ← fields.id
  close ← close
  give (entries.Closed id close)

-- moved <key> <CAS number> <label>
unfoldable pub moved : Reading Entry
moved = do
  key ← fields.key
  cas ← fields.number
  label ← fields.label
  give (entries.Moved key cas label)

-- recached <key> <CAS number>
unfoldable pub recached : Reading Entry
recached = do
  key ← fields.key
  cas ← fields.number
  give (entries.Recached key cas)

-- dropped <key> <cause>
unfoldable pub dropped : Reading Entry
dropped = do
  key ← fields.key
  cause ← fields.drop_cause
  give (entries.Dropped key cause)

-- write-began <place>
unfoldable pub write_began : Reading Entry
write_began = do
  place ← fields.place
  give (entries.WriteBegan place)

-- write-ended <place> <bytes>
unfoldable pub write_ended : Reading Entry
write_ended = do
  place ← fields.place
  bytes ← fields.bytes_or_failed
  give (entries.WriteEnded place bytes)

-- opened <label>
unfoldable pub opened : Reading Entry
opened = do
  label ← fields.label
  give (entries.Opened label)

-- ended <label> <cause>
unfoldable pub ended : Reading Entry
ended = do
  label ← fields.label
  cause ← fields.end_cause
  give (entries.Ended label cause)

-- freed <label>
unfoldable pub freed : Reading Entry
freed = do
  label ← fields.label
  give (entries.Freed label)

-- an entry after its first word
unfoldable pub of_step : StepKind → Reading Entry
of_step steps.Clock = clock
of_step steps.Did = did

unfoldable pub of_lookup : LookupKind → Reading Entry
of_lookup lookups.Looked = looked
of_lookup lookups.FromBuffer = buffered
of_lookup lookups.ReadBegan = read_began
of_lookup lookups.ReadEnded = read_ended
of_lookup lookups.Closed = closed

unfoldable pub of_item : ItemKind → Reading Entry
of_item items.Moved = moved
of_item items.Recached = recached
of_item items.Dropped = dropped

unfoldable pub of_page : PageKind → Reading Entry
of_page pages.WriteBegan = write_began
of_page pages.WriteEnded = write_ended
of_page pages.Opened = opened
of_page pages.Ended = ended
of_page pages.Freed = freed

unfoldable pub of_kind : Kind → Reading Entry
of_kind (kinds.Step kind) = of_step kind
of_kind (kinds.Lookup kind) = of_lookup kind
of_kind (kinds.Item kind) = of_item kind
of_kind (kinds.Page kind) = of_page kind

-- an entry, and the end of its line
unfoldable pub whole : Reading Entry
whole = do
  kind ← fields.kind
  entry ← of_kind kind
  _ ← end_of_line
  give entry

-- what was read, without what is left
abbrev pub value_of : {A : Type 0} → Outcome A → Result A EntryFault
value_of (Ok read) = Ok read.0
value_of (Err fault) = Err fault

-- the entry of a line without its line feed, or the first fault
unfoldable pub reading : List ℕ → Result Entry EntryFault
reading line = value_of (whole (record { words = words line; place = 0 }))
