-- What a meta command is answered, by the answer to its step (memcached's doc/protocol.txt, "Meta Commands").
use Rattle.std.specs.Prelude.{ℕ, List, [], ◌++◌, length, codes, decimal, if◌then◌else◌}
use Rattle.flash_entry.specs.declared.answer.Gone.{Gone}
use Rattle.flash_entry.specs.declared.answer.Gone.TheVariants as gone
use Rattle.flash_entry.specs.declared.answer.Stored.{Stored}
use Rattle.flash_entry.specs.declared.answer.Stored.TheVariants as stored
use Rattle.flash_entry.specs.declared.answer.Sum.{Sum}
use Rattle.flash_entry.specs.declared.answer.Sum.TheVariants as sums
use Rattle.flash_entry.specs.declared.answer.Summed.{Summed}
use Rattle.flash_entry.specs.declared.found.LookAnswer.{LookAnswer}
use Rattle.flash_entry.specs.declared.found.LookAnswer.TheVariants as found
use Rattle.flash_entry.specs.declared.found.Told.{Told}
use Rattle.flash_entry.specs.declared.found.Told.TheVariants as told
use Rattle.flash_meta.specs.MetaSaid.{MetaSaid}
use Rattle.flash_text.specs.declared.text.Refusal.TheVariants as refusals
use Rattle.flash_reply.specs.declared.facts.Facts.{Facts}
use Rattle.flash_reply.specs.GivenBack.{given_back, no_facts, head_facts, stored_facts, sum_facts}
use Rattle.flash_reply.specs.Lines.{reply_line, unless_quiet, refusal_line, no_number_line, non_numeric_line}

-- a line of two letters and the flags that are given back
abbrev pub code_line : List ℕ → MetaSaid → Facts → List ℕ
code_line code meta facts = reply_line (code ++ given_back meta facts)

-- a value behind its line, `VA <size>` with the flags that are given back
abbrev pub value_block : ℕ → List ℕ → MetaSaid → Facts → List ℕ
value_block size value meta facts =
    reply_line (codes "VA " ++ decimal size ++ given_back meta facts) ++ reply_line value

-- the reply to `mg`: `q` hides a miss
abbrev pub meta_found : MetaSaid → LookAnswer → List ℕ
meta_found meta found.Miss = unless_quiet meta.quiet (code_line (codes "EN") meta no_facts)
meta_found meta (found.Head head) = code_line (codes "HD") meta (head_facts head)
meta_found meta (found.Hit hit) = value_block hit.head.size hit.value meta (head_facts hit.head)

-- the reply to `ms`: `q` hides that the value was stored
abbrev pub meta_stored : MetaSaid → Stored → List ℕ
meta_stored meta (stored.Stored cas) = unless_quiet meta.quiet (code_line (codes "HD") meta (stored_facts cas))
meta_stored meta stored.NotStored = code_line (codes "NS") meta no_facts
meta_stored meta stored.Exists = code_line (codes "EX") meta no_facts
meta_stored meta stored.NotFound = code_line (codes "NF") meta no_facts
meta_stored meta stored.TooLarge = refusal_line refusals.TooLarge
meta_stored meta stored.NoNumber = no_number_line

-- the reply to `md`: `q` hides that the item was deleted, or wasn't there
abbrev pub meta_gone : MetaSaid → Gone → List ℕ
meta_gone meta gone.Deleted = unless_quiet meta.quiet (code_line (codes "HD") meta no_facts)
meta_gone meta gone.NotFound = unless_quiet meta.quiet (code_line (codes "NF") meta no_facts)
meta_gone meta gone.Exists = code_line (codes "EX") meta no_facts

-- a number that was changed or created, with its digits where they are asked for
abbrev pub number_text : MetaSaid → Summed → List ℕ
number_text meta summed =
    if meta.value then value_block (length (decimal summed.number)) (decimal summed.number) meta (sum_facts summed)
    else code_line (codes "HD") meta (sum_facts summed)

-- the reply to `ma`: `q` hides the number, and that no item was there
abbrev pub meta_sum : MetaSaid → Sum → List ℕ
meta_sum meta (sums.Now summed) = unless_quiet meta.quiet (number_text meta summed)
meta_sum meta (sums.Created summed) = unless_quiet meta.quiet (number_text meta summed)
meta_sum meta sums.NotFound = unless_quiet meta.quiet (code_line (codes "NF") meta no_facts)
meta_sum meta sums.NonNumeric = non_numeric_line
meta_sum meta sums.Exists = code_line (codes "EX") meta no_facts
meta_sum meta sums.NoNumber = no_number_line

-- the reply to a step of a meta command; no meta command asks for a touch, a flush or the store's numbers
abbrev pub meta_of_step : MetaSaid → Told → List ℕ
meta_of_step meta (told.Found answer) = meta_found meta answer
meta_of_step meta (told.Stored answer) = meta_stored meta answer
meta_of_step meta (told.Gone answer) = meta_gone meta answer
meta_of_step meta (told.Sum answer) = meta_sum meta answer
meta_of_step meta (told.Touched answer) = []
meta_of_step meta told.Flushed = []
meta_of_step meta (told.Tally tally) = []
meta_of_step meta told.NoMemory = refusal_line refusals.NoMemory
