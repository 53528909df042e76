-- Each reply is empty, or ends with a line end.
use Rattle.std.proofs.Common.{◌≡◌, ◌⊎◌, inl, inr, ℕ, Bool, true, false, List, [], ◌∷◌, ◌++◌, codes, decimal, drop, if◌then◌else◌, refl, sym, ◌∙◌, ap, subst, append_assoc, length, ◌-◌}
use Rattle.std.proofs.lemmas.List.{append-nil}
use Rattle.flash_entry.specs.declared.answer.Gone.{Gone}
use Rattle.flash_entry.specs.declared.answer.Gone.TheVariants as gone
use Rattle.flash_entry.specs.declared.answer.Stored.{Stored}
use Rattle.flash_entry.specs.declared.answer.Stored.TheVariants as stored
use Rattle.flash_entry.specs.declared.answer.Sum.{Sum}
use Rattle.flash_entry.specs.declared.answer.Sum.TheVariants as sums
use Rattle.flash_entry.specs.declared.answer.Summed.{Summed}
use Rattle.flash_entry.specs.declared.answer.Tally.{Tally}
use Rattle.flash_entry.specs.declared.answer.Touched.{Touched}
use Rattle.flash_entry.specs.declared.answer.Touched.TheVariants as touched
use Rattle.flash_entry.specs.declared.found.LookAnswer.{LookAnswer}
use Rattle.flash_entry.specs.declared.found.LookAnswer.TheVariants as found
use Rattle.flash_entry.specs.declared.found.Told.{Told}
use Rattle.flash_entry.specs.declared.found.Told.TheVariants as told
use Rattle.flash_text.specs.declared.text.Verb.{Verb}
use Rattle.flash_text.specs.declared.text.Verb.TheVariants as verbs
use Rattle.flash_text.specs.Said.{Said}
use Rattle.flash_text.specs.Words.{spaced_words}
use Rattle.flash_meta.specs.MetaSaid.{MetaSaid}
use Rattle.flash_reply.specs.declared.command.Command.{Command}
use Rattle.flash_reply.specs.declared.command.Command.TheVariants as commands
use Rattle.flash_reply.specs.declared.facts.Facts.{Facts}
use Rattle.flash_reply.specs.Lines.{reply_line, unless_quiet}
use Rattle.flash_reply.specs.GivenBack.{given_back, no_facts, head_facts, stored_facts, sum_facts}
use Rattle.flash_reply.specs.MetaReplies.{value_block, code_line, number_text, meta_found, meta_stored, meta_gone, meta_sum, meta_of_step}
use Rattle.flash_reply.specs.Replies.{text}
use Rattle.flash_reply.specs.ReplyLaws.{EndsWithALine, EachReplyIsWholeLines}
use Rattle.flash_reply.specs.TextReplies.{value_line, block, ending, look_text, are_none, first_text, stored_line, gone_line, sum_line, touched_line, stat_line, tally_lines, plain_line, loud_text}

-- no bytes, or bytes that end with a line end
abbrev AreLines : List ℕ → Type 0
AreLines bytes = (bytes ≡ []) ⊎ EndsWithALine bytes

line : (bytes : List ℕ) → AreLines (reply_line bytes)
line bytes = inr (record { front = bytes; parts = refl })

none : AreLines []
none = inl refl

-- lines behind other lines
both : (xs ys : List ℕ) → AreLines xs → AreLines ys → AreLines (xs ++ ys)
both xs ys first (inl empty) = subst AreLines (sym (ap (λ (l : List ℕ). xs ++ l) empty ∙ append-nil xs)) first
both xs ys first (inr last) = inr (record {
  front = xs ++ last.front;
  parts = ap (λ (l : List ℕ). xs ++ l) last.parts ∙ sym (append_assoc xs last.front (13 ∷ 10 ∷ []));
})

-- a line behind bytes that need not be lines
behind : (xs ys : List ℕ) → AreLines (xs ++ reply_line ys)
behind xs ys = inr (record { front = xs ++ ys; parts = sym (append_assoc xs ys (13 ∷ 10 ∷ [])) })

hidden : (quiet : Bool) (bytes : List ℕ) → AreLines bytes → AreLines (unless_quiet quiet bytes)
hidden true bytes are = none
hidden false bytes are = are

stored_lines : (answer : Stored) → AreLines (stored_line answer)
stored_lines (stored.Stored cas) = line (codes "STORED")
stored_lines stored.NotStored = line (codes "NOT_STORED")
stored_lines stored.Exists = line (codes "EXISTS")
stored_lines stored.NotFound = line (codes "NOT_FOUND")
stored_lines stored.TooLarge = line (codes "SERVER_ERROR object too large for cache")
stored_lines stored.NoNumber = line (codes "SERVER_ERROR numbers used up")

gone_lines : (answer : Gone) → AreLines (gone_line answer)
gone_lines gone.Deleted = line (codes "DELETED")
gone_lines gone.NotFound = line (codes "NOT_FOUND")
gone_lines gone.Exists = line (codes "EXISTS")

sum_lines : (answer : Sum) → AreLines (sum_line answer)
sum_lines (sums.Now summed) = line (decimal summed.number)
sum_lines (sums.Created summed) = line (decimal summed.number)
sum_lines sums.NotFound = line (codes "NOT_FOUND")
sum_lines sums.NonNumeric = line (codes "CLIENT_ERROR cannot increment or decrement non-numeric value")
sum_lines sums.Exists = line (codes "EXISTS")
sum_lines sums.NoNumber = line (codes "SERVER_ERROR numbers used up")

touched_lines : (answer : Touched) → AreLines (touched_line answer)
touched_lines touched.Touched = line (codes "TOUCHED")
touched_lines touched.NotFound = line (codes "NOT_FOUND")

plain_lines : (verb : Verb) → AreLines (plain_line verb)
plain_lines verbs.FlushAll = line (codes "OK")
plain_lines verbs.Verbosity = line (codes "OK")
plain_lines verbs.Version = line (codes "VERSION 1.6-flash")
plain_lines verbs.Mn = line (codes "MN")
plain_lines verbs.Get = none
plain_lines verbs.Gets = none
plain_lines verbs.Gat = none
plain_lines verbs.Gats = none
plain_lines (verbs.Store mode) = none
plain_lines verbs.Cas = none
plain_lines verbs.Delete = none
plain_lines verbs.Incr = none
plain_lines verbs.Decr = none
plain_lines verbs.Touch = none
plain_lines verbs.Stats = none
plain_lines verbs.Quit = none

block_lines : (verb : Verb) (key : List ℕ) (answer : LookAnswer) → AreLines (block verb key answer)
block_lines verb key (found.Hit hit) = behind (value_line verb key hit.head) hit.value
block_lines verb key (found.Head head) = none
block_lines verb key found.Miss = none

ending_lines : (last : Bool) → AreLines (ending last)
ending_lines true = line (codes "END")
ending_lines false = none

first_lines : (verb : Verb) (keys : List (List ℕ)) (answer : LookAnswer) → AreLines (first_text verb keys answer)
first_lines verb [] answer = none
first_lines verb (key ∷ more) answer =
    both (block verb key answer) (ending (are_none more)) (block_lines verb key answer) (ending_lines (are_none more))

loud_lines : (said : Said) (step : ℕ) (answer : Told) → AreLines (loud_text said step answer)
loud_lines said step (told.Found answer) = first_lines said.verb (drop (step - 1) (spaced_words said.keys)) answer
loud_lines said step (told.Stored answer) = stored_lines answer
loud_lines said step (told.Gone answer) = gone_lines answer
loud_lines said step (told.Sum answer) = sum_lines answer
loud_lines said step (told.Touched answer) = touched_lines answer
loud_lines said step told.Flushed = plain_lines said.verb
loud_lines said step (told.Tally tally) = behind
    (stat_line (codes "curr_items") tally.items ++ stat_line (codes "bytes") tally.load
    ++ stat_line (codes "total_items") tally.last_cas ++ stat_line (codes "time") tally.now
    ++ stat_line (codes "extstore_pages_free") tally.free_pages) (codes "END")
loud_lines said step told.NoMemory = line (codes "SERVER_ERROR out of memory")

code_lines : (code : List ℕ) (meta : MetaSaid) (facts : Facts) → AreLines (code_line code meta facts)
code_lines code meta facts = line (code ++ given_back meta facts)

value_lines : (size : ℕ) (value : List ℕ) (meta : MetaSaid) (facts : Facts) → AreLines (value_block size value meta facts)
value_lines size value meta facts = behind (reply_line (codes "VA " ++ decimal size ++ given_back meta facts)) value

number_lines : (meta : MetaSaid) (summed : Summed) (value : Bool) → AreLines (if value then value_block (length (decimal summed.number)) (decimal summed.number) meta (sum_facts summed) else code_line (codes "HD") meta (sum_facts summed))
number_lines meta summed true = value_lines (length (decimal summed.number)) (decimal summed.number) meta (sum_facts summed)
number_lines meta summed false = code_lines (codes "HD") meta (sum_facts summed)

found_lines : (meta : MetaSaid) (answer : LookAnswer) → AreLines (meta_found meta answer)
found_lines meta found.Miss = hidden meta.quiet _ (code_lines (codes "EN") meta no_facts)
found_lines meta (found.Head head) = code_lines (codes "HD") meta (head_facts head)
found_lines meta (found.Hit hit) = value_lines hit.head.size hit.value meta (head_facts hit.head)

meta_stored_lines : (meta : MetaSaid) (answer : Stored) → AreLines (meta_stored meta answer)
meta_stored_lines meta (stored.Stored cas) = hidden meta.quiet _ (code_lines (codes "HD") meta (stored_facts cas))
meta_stored_lines meta stored.NotStored = code_lines (codes "NS") meta no_facts
meta_stored_lines meta stored.Exists = code_lines (codes "EX") meta no_facts
meta_stored_lines meta stored.NotFound = code_lines (codes "NF") meta no_facts
meta_stored_lines meta stored.TooLarge = line (codes "SERVER_ERROR object too large for cache")
meta_stored_lines meta stored.NoNumber = line (codes "SERVER_ERROR numbers used up")

meta_gone_lines : (meta : MetaSaid) (answer : Gone) → AreLines (meta_gone meta answer)
meta_gone_lines meta gone.Deleted = hidden meta.quiet _ (code_lines (codes "HD") meta no_facts)
meta_gone_lines meta gone.NotFound = hidden meta.quiet _ (code_lines (codes "NF") meta no_facts)
meta_gone_lines meta gone.Exists = code_lines (codes "EX") meta no_facts

meta_sum_lines : (meta : MetaSaid) (answer : Sum) → AreLines (meta_sum meta answer)
meta_sum_lines meta (sums.Now summed) = hidden meta.quiet _ (number_lines meta summed meta.value)
meta_sum_lines meta (sums.Created summed) = hidden meta.quiet _ (number_lines meta summed meta.value)
meta_sum_lines meta sums.NotFound = hidden meta.quiet _ (code_lines (codes "NF") meta no_facts)
meta_sum_lines meta sums.NonNumeric = line (codes "CLIENT_ERROR cannot increment or decrement non-numeric value")
meta_sum_lines meta sums.Exists = code_lines (codes "EX") meta no_facts
meta_sum_lines meta sums.NoNumber = line (codes "SERVER_ERROR numbers used up")

meta_lines : (meta : MetaSaid) (answer : Told) → AreLines (meta_of_step meta answer)
meta_lines meta (told.Found answer) = found_lines meta answer
meta_lines meta (told.Stored answer) = meta_stored_lines meta answer
meta_lines meta (told.Gone answer) = meta_gone_lines meta answer
meta_lines meta (told.Sum answer) = meta_sum_lines meta answer
meta_lines meta (told.Touched answer) = none
meta_lines meta told.Flushed = none
meta_lines meta (told.Tally tally) = none
meta_lines meta told.NoMemory = line (codes "SERVER_ERROR out of memory")

pub whole_lines : EachReplyIsWholeLines
whole_lines (commands.Text said) step answer = hidden said.quiet _ (loud_lines said step answer)
whole_lines (commands.Meta meta) step answer = meta_lines meta answer
