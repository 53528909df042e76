-- The answer to each line of the meta protocol (memcached's doc/protocol.txt, "Meta Commands").
use Rattle.std.specs.Prelude.{ℕ, ◌+◌, ◌^◌, Bool, is_some, nat_lt, List, [], ◌∷◌, Option, None, Some, Ok, Err, if◌then◌else◌}
use Rattle.flash_text.specs.declared.text.Refusal.TheVariants.{Unknown, BadFormat, TooLarge}
use Rattle.flash_text.specs.Words.{without_return, spaced_words, behind_words, trimmed}
use Rattle.flash_text.specs.Numbers.{number_below}
use Rattle.flash_meta.specs.declared.meta.MetaVerb.{MetaVerb}
use Rattle.flash_meta.specs.declared.meta.MetaVerb.TheVariants as verbs
use Rattle.flash_meta.specs.declared.meta.MetaLine.{MetaLine}
use Rattle.flash_meta.specs.declared.meta.MetaLine.TheVariants.{Command, Data, Bad}
use Rattle.flash_meta.specs.declared.flags.Flags.{Flags}
use Rattle.flash_meta.specs.MetaParts.{MetaParts}
use Rattle.flash_meta.specs.MetaSaid.{MetaSaid}
use Rattle.flash_meta.specs.Flags.{verb_of}
use Rattle.flash_meta.specs.FlagReading.{flags_in}
use Rattle.flash_meta.specs.Keys.{key_of}

-- the data of a line and its line end
abbrev pub data_bytes : Option ℕ → ℕ
data_bytes None = 0
data_bytes (Some length) = length + 2

-- the length of the data, or 0
abbrev pub length_of : Option ℕ → ℕ
length_of None = 0
length_of (Some length) = length

-- what a line says
abbrev pub said_of : MetaParts → Flags → List ℕ → MetaSaid
said_of parts flags key = record {
  verb = parts.verb;
  word = parts.word;
  key = key;
  length = length_of parts.length;
  asked = parts.asked;
  base64 = flags.base64;
  quiet = flags.quiet;
  value = flags.value;
  exptime = flags.exptime;
  flags = flags.flags;
  compare = flags.compare;
  mode = flags.mode;
  down = flags.down;
  delta = flags.delta;
  create = flags.create;
  start = flags.start;
}

-- a line that is read, with the length of the data that follows
abbrev pub accepted : Option ℕ → MetaSaid → MetaLine
accepted None said = Command said
accepted (Some length) said = Data said length

-- the answer by the key and the length
abbrev pub answer_with_key : ℕ → MetaParts → Flags → Option (List ℕ) → MetaLine
answer_with_key item_max parts flags None = Bad BadFormat (data_bytes parts.length)
answer_with_key item_max parts flags (Some key) =
    if nat_lt item_max (length_of parts.length) then Bad TooLarge (data_bytes parts.length)
    else accepted parts.length (said_of parts flags key)

-- the answer to a line of these words: the first refusal of its flags, then of its key, then of its length
unfoldable pub answer_of : ℕ → MetaParts → MetaLine
answer_of item_max parts =
    elim (flags_in parts.verb (spaced_words parts.asked)) [
      | Err refusal ↦ Bad refusal (data_bytes parts.length)
      | Ok flags ↦ answer_with_key item_max parts flags (key_of flags.base64 parts.word)
    ]

-- the words behind the command: a key, a length where it is `ms`, and flags
abbrev pub parts_of : MetaVerb → List (List ℕ) → List ℕ → Option MetaParts
parts_of verbs.Set (word ∷ length ∷ flags) rest =
    elim (number_below (2 ^ 31) length) [
      | None ↦ None
      | Some n ↦ Some (record { verb = verbs.Set; word = word; length = Some n; asked = trimmed (behind_words 2 rest) })
    ]
parts_of verbs.Set words rest = None
parts_of verb (word ∷ flags) rest =
    Some (record { verb = verb; word = word; length = None; asked = trimmed (behind_words 1 rest) })
parts_of verb [] rest = None

-- the answer by the command and the bytes behind its word
unfoldable pub answer_behind : ℕ → MetaVerb → List ℕ → MetaLine
answer_behind item_max verb rest =
    elim (parts_of verb (spaced_words rest) rest) [ None ↦ Bad BadFormat 0 | Some parts ↦ answer_of item_max parts ]

-- the command of a line's first word
abbrev pub verb_of_words : List (List ℕ) → Option MetaVerb
verb_of_words [] = None
verb_of_words (word ∷ words) = verb_of word

-- the answer by the command, if the line has one, and the bytes behind its word
abbrev pub answer_if : ℕ → Option MetaVerb → List ℕ → MetaLine
answer_if item_max None rest = Bad Unknown 0
answer_if item_max (Some verb) rest = answer_behind item_max verb rest

-- the answer to a line without its line feed, where a value has at most this many bytes
unfoldable pub meta_of : ℕ → List ℕ → MetaLine
meta_of item_max line =
    answer_if item_max (verb_of_words (spaced_words (without_return line))) (behind_words 1 (without_return line))

-- whether a line is of the meta protocol, by its first word
abbrev pub is_meta_line : List ℕ → Bool
is_meta_line line = is_some (verb_of_words (spaced_words (without_return line)))
