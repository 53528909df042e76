-- What a text command is answered, by the answer to its step (memcached's doc/protocol.txt).
use Rattle.std.specs.Prelude.{ℕ, ◌-◌, Bool, true, false, List, [], ◌∷◌, ◌++◌, drop, codes, decimal, if◌then◌else◌}
use Rattle.flash_entry.specs.declared.answer.Gone.{Gone}
use Rattle.flash_entry.specs.declared.answer.Gone.TheVariants as gone
use Rattle.flash_entry.specs.declared.answer.Stored.{Stored}
use Rattle.flash_entry.specs.declared.answer.Stored.TheVariants as stored
use Rattle.flash_entry.specs.declared.answer.Sum.{Sum}
use Rattle.flash_entry.specs.declared.answer.Sum.TheVariants as sums
use Rattle.flash_entry.specs.declared.answer.Tally.{Tally}
use Rattle.flash_entry.specs.declared.answer.Touched.{Touched}
use Rattle.flash_entry.specs.declared.answer.Touched.TheVariants as touched
use Rattle.flash_entry.specs.declared.found.Head.{Head}
use Rattle.flash_entry.specs.declared.found.LookAnswer.{LookAnswer}
use Rattle.flash_entry.specs.declared.found.LookAnswer.TheVariants as found
use Rattle.flash_entry.specs.declared.found.Told.{Told}
use Rattle.flash_entry.specs.declared.found.Told.TheVariants as told
use Rattle.flash_text.specs.declared.text.Refusal.TheVariants as refusals
use Rattle.flash_text.specs.declared.text.Verb.{Verb}
use Rattle.flash_text.specs.declared.text.Verb.TheVariants as verbs
use Rattle.flash_text.specs.Said.{Said}
use Rattle.flash_text.specs.Words.{spaced_words}
use Rattle.flash_reply.specs.Lines.{reply_line, unless_quiet, refusal_line, no_number_line, non_numeric_line}

-- whether a lookup shows the CAS number
abbrev pub shows_cas : Verb → Bool
shows_cas verbs.Gets = true
shows_cas verbs.Gats = true
shows_cas _ = false

-- `VALUE <key> <flags> <size>`, and the CAS number where it is shown
abbrev pub value_line : Verb → List ℕ → Head → List ℕ
value_line verb key head =
    reply_line (codes "VALUE " ++ key ++ 32 ∷ decimal head.flags ++ 32 ∷ decimal head.size
    ++ (if shows_cas verb then 32 ∷ decimal head.cas else []))

-- the block of an item that was found with its value; nothing else has one
abbrev pub block : Verb → List ℕ → LookAnswer → List ℕ
block verb key (found.Hit hit) = value_line verb key hit.head ++ reply_line hit.value
block verb key _ = []

-- what ends a lookup behind its last key
abbrev pub ending : Bool → List ℕ
ending last = if last then reply_line (codes "END") else []

-- the reply on one key of a lookup, which is its last one or not
abbrev pub look_text : Verb → List ℕ → Bool → LookAnswer → List ℕ
look_text verb key last answer = block verb key answer ++ ending last

-- whether no key is left
abbrev pub are_none : List (List ℕ) → Bool
are_none [] = true
are_none (key ∷ more) = false

-- the reply on the first of the keys that are left
abbrev pub first_text : Verb → List (List ℕ) → LookAnswer → List ℕ
first_text verb [] answer = []
first_text verb (key ∷ more) answer = look_text verb key (are_none more) answer

-- the reply to a lookup's step: steps are counted from 1, one for each key
abbrev pub found_text : Said → ℕ → LookAnswer → List ℕ
found_text said step answer = first_text said.verb (drop (step - 1) (spaced_words said.keys)) answer

-- the line on a value that was to be stored
abbrev pub stored_line : Stored → List ℕ
stored_line (stored.Stored cas) = reply_line (codes "STORED")
stored_line stored.NotStored = reply_line (codes "NOT_STORED")
stored_line stored.Exists = reply_line (codes "EXISTS")
stored_line stored.NotFound = reply_line (codes "NOT_FOUND")
stored_line stored.TooLarge = refusal_line refusals.TooLarge
stored_line stored.NoNumber = no_number_line

-- the line on an item that was to be deleted
abbrev pub gone_line : Gone → List ℕ
gone_line gone.Deleted = reply_line (codes "DELETED")
gone_line gone.NotFound = reply_line (codes "NOT_FOUND")
gone_line gone.Exists = reply_line (codes "EXISTS")

-- the line on a number that was to be changed
abbrev pub sum_line : Sum → List ℕ
sum_line (sums.Now summed) = reply_line (decimal summed.number)
sum_line (sums.Created summed) = reply_line (decimal summed.number)
sum_line sums.NotFound = reply_line (codes "NOT_FOUND")
sum_line sums.NonNumeric = non_numeric_line
sum_line sums.Exists = reply_line (codes "EXISTS")
sum_line sums.NoNumber = no_number_line

-- the line on an item that was to have another deadline
abbrev pub touched_line : Touched → List ℕ
touched_line touched.Touched = reply_line (codes "TOUCHED")
touched_line touched.NotFound = reply_line (codes "NOT_FOUND")

-- `STAT <name> <number>`
abbrev pub stat_line : List ℕ → ℕ → List ℕ
stat_line name number = codes "STAT " ++ name ++ 32 ∷ reply_line (decimal number)

-- the lines of the store's numbers
abbrev pub tally_lines : Tally → List ℕ
tally_lines tally =
    stat_line (codes "curr_items") tally.items ++ stat_line (codes "bytes") tally.load
    ++ stat_line (codes "total_items") tally.last_cas ++ stat_line (codes "time") tally.now
    ++ stat_line (codes "extstore_pages_free") tally.free_pages ++ reply_line (codes "END")

-- the line of a command that has no other answer than that it was done
abbrev pub plain_line : Verb → List ℕ
plain_line verbs.FlushAll = reply_line (codes "OK")
plain_line verbs.Verbosity = reply_line (codes "OK")
plain_line verbs.Version = reply_line (codes "VERSION 1.6-flash")
plain_line verbs.Mn = reply_line (codes "MN")
plain_line _ = []

-- the reply to a step, as it is without `noreply`
abbrev pub loud_text : Said → ℕ → Told → List ℕ
loud_text said step (told.Found answer) = found_text said step answer
loud_text said step (told.Stored answer) = stored_line answer
loud_text said step (told.Gone answer) = gone_line answer
loud_text said step (told.Sum answer) = sum_line answer
loud_text said step (told.Touched answer) = touched_line answer
loud_text said step told.Flushed = plain_line said.verb
loud_text said step (told.Tally tally) = tally_lines tally
loud_text said step told.NoMemory = refusal_line refusals.NoMemory

-- the reply to a step of a text command
abbrev pub text_of_step : Said → ℕ → Told → List ℕ
text_of_step said step answer = unless_quiet said.quiet (loud_text said step answer)
