-- The answer to each line of the text protocol (memcached's doc/protocol.txt).
use Rattle.std.specs.Prelude.{ℕ, List, [], ◌∷◌, find, Option, None, Some, if◌then◌else◌}
use Rattle.flash_text.specs.declared.text.Verb.{Verb}
use Rattle.flash_text.specs.declared.text.Refusal.TheVariants.{Unknown}
use Rattle.flash_text.specs.declared.text.Line.{Line}
use Rattle.flash_text.specs.declared.text.Line.TheVariants.{Command, Data, Bad}
use Rattle.flash_text.specs.Said.{Said, FieldValues}
use Rattle.flash_text.specs.Words.{without_return, spaced_words, behind_word}
use Rattle.flash_text.specs.Form.{is_storage, verb_of, form_of}
use Rattle.flash_text.specs.Fields.{fields_of}
use Rattle.flash_text.specs.Reading.{causes, said_of}

-- a command, with the bytes of its data where the line announces some
abbrev pub accepted : Said → Line
accepted said = if is_storage said.verb then Data said said.length else Command said

-- the first refusal that applies, or else what the line says
unfoldable pub answer_of : ℕ → Verb → FieldValues → Line
answer_of item_max verb fields =
    elim (find (λ cause. cause.applies) (causes item_max verb fields)) [
      | None ↦ accepted (said_of verb fields)
      | Some cause ↦ Bad cause.refusal cause.skip
    ]

-- the answer by the command and the bytes behind its word
abbrev pub answer_behind : ℕ → Option Verb → List ℕ → Line
answer_behind item_max None rest = Bad Unknown 0
answer_behind item_max (Some verb) rest =
    elim (fields_of (form_of verb) rest) [ None ↦ Bad Unknown 0 | Some fields ↦ answer_of item_max verb fields ]

-- the answer by the words of a line and the bytes behind the first
abbrev pub answer_by_words : ℕ → List (List ℕ) → List ℕ → Line
answer_by_words item_max [] rest = Bad Unknown 0
answer_by_words item_max (word ∷ words) rest = answer_behind item_max (verb_of word) rest

-- the answer to a line without its line feed, where a value has at most this many bytes
unfoldable pub line_of : ℕ → List ℕ → Line
line_of item_max line =
    answer_by_words item_max (spaced_words (without_return line)) (behind_word (without_return line))
