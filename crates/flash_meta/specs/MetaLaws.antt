-- What is true of every line of the meta protocol that is read, and in which order a line is refused.
use Rattle.std.specs.Prelude.{◌≡◌, ◌≢◌, ℕ, ◌^◌, ◌<◌, ◌≤◌, true, false, List, ◌∷◌, ◌++◌, length, Option, None, Some, IfSome, Err, Ok}
use Rattle.base64.specs.GeneralPurpose.{IsBytes, encode_of}
use Rattle.base64.specs.Engines.{standard}
use Rattle.flash_text.specs.Words.{without_return, spaced_words}
use Rattle.flash_text.specs.Keys.{is_key}
use Rattle.flash_text.specs.LineLaws.{IsExptime}
use Rattle.flash_text.specs.declared.text.Refusal.{Refusal}
use Rattle.flash_text.specs.declared.text.Refusal.TheVariants.{BadFormat, TooLarge}
use Rattle.flash_meta.specs.declared.meta.MetaLine.{MetaLine}
use Rattle.flash_meta.specs.declared.meta.MetaLine.TheVariants.{Command, Data, Bad}
use Rattle.flash_meta.specs.declared.meta.MetaVerb.{MetaVerb}
use Rattle.flash_meta.specs.declared.meta.MetaVerb.TheVariants as verbs
use Rattle.flash_meta.specs.declared.flags.Flags.{Flags}
use Rattle.flash_meta.specs.MetaParts.{MetaParts}
use Rattle.flash_meta.specs.MetaSaid.{MetaSaid}
use Rattle.flash_meta.specs.FlagReading.{flags_in}
use Rattle.flash_meta.specs.Keys.{key_of}
use Rattle.flash_meta.specs.MetaLines.{data_bytes, length_of, said_of, accepted, answer_of, meta_of}

-- what a line says that is read
abbrev pub said_in : MetaLine → Option MetaSaid
said_in (Command said) = Some said
said_in (Data said length) = Some said
said_in (Bad refusal skip) = None

-- the key is the word and a key of the text protocol, or with the flag `b` the word is the base64 of the key
pub record IsItsKey (said : MetaSaid) : Type 0 where
  pub some : 1 ≤ length said.key
  pub plain : said.base64 ≡ false → (said.key ≡ said.word) × (is_key said.word ≡ true)
  pub encoded : said.base64 ≡ true → IsBytes said.word → said.word ≡ encode_of standard said.key

-- this of every line that is read
abbrev pub EachKeyIsThatOfItsWord : Type 0
EachKeyIsThatOfItsWord =
    (item_max : ℕ) (line : List ℕ) (said : MetaSaid) → said_in (meta_of item_max line) ≡ Some said → IsItsKey said

-- the words of a line: its command, the key as it was sent, the length where it is `ms`, and the flags
abbrev pub HasWords : MetaVerb → List (List ℕ) → MetaSaid → Type 0
HasWords verbs.Set words said =
    (command : List ℕ) × (length : List ℕ) × (words ≡ command ∷ said.word ∷ length ∷ spaced_words said.asked)
HasWords verb words said = (command : List ℕ) × (words ≡ command ∷ said.word ∷ spaced_words said.asked)

-- a line that is read gives its words back
abbrev pub EachLineGivesItsWordsBack : Type 0
EachLineGivesItsWordsBack =
    (item_max : ℕ) (line : List ℕ) (said : MetaSaid) → said_in (meta_of item_max line) ≡ Some said
    → HasWords said.verb (spaced_words (without_return line)) said

-- no letter is given twice: a line of such flags isn't read
abbrev pub NoLetterIsGivenTwice : Type 0
NoLetterIsGivenTwice =
    (verb : MetaVerb) (before middle behind : List (List ℕ)) (letter : ℕ) (one other : List ℕ) (flags : Flags)
    → flags_in verb (before ++ (letter ∷ one) ∷ (middle ++ (letter ∷ other) ∷ behind)) ≢ Ok flags

-- each number is in its range, and the length at most the one that is allowed
pub record IsInRange (item_max : ℕ) (said : MetaSaid) : Type 0 where
  pub length : said.length < 2 ^ 31
  pub allowed : said.length ≤ item_max
  pub exptime : IfSome said.exptime IsExptime
  pub flags : said.flags < 2 ^ 32
  pub compare : IfSome said.compare (λ n. n < 2 ^ 64)
  pub delta : said.delta < 2 ^ 64
  pub create : IfSome said.create IsExptime
  pub start : said.start < 2 ^ 64

-- this of every line that is read
abbrev pub NumbersAreInRange : Type 0
NumbersAreInRange =
    (item_max : ℕ) (line : List ℕ) (said : MetaSaid) → said_in (meta_of item_max line) ≡ Some said
    → IsInRange item_max said

-- the data that follows a line has at most as many bytes as are allowed
abbrev pub DataIsWithin : Type 0
DataIsWithin =
    (item_max : ℕ) (line : List ℕ) (said : MetaSaid) (size : ℕ) → meta_of item_max line ≡ Data said size
    → size ≤ item_max

-- the refusals of a line that has its words: first that of its flags, then of its key, then of its length
pub record ComesFirst (item_max : ℕ) (parts : MetaParts) : Type 0 where
  pub bad_flags : (refusal : Refusal) → flags_in parts.verb (spaced_words parts.asked) ≡ Err refusal
      → answer_of item_max parts ≡ Bad refusal (data_bytes parts.length)
  pub bad_key : (flags : Flags) → flags_in parts.verb (spaced_words parts.asked) ≡ Ok flags
      → key_of flags.base64 parts.word ≡ None → answer_of item_max parts ≡ Bad BadFormat (data_bytes parts.length)
  pub too_large : (flags : Flags) (key : List ℕ) → flags_in parts.verb (spaced_words parts.asked) ≡ Ok flags
      → key_of flags.base64 parts.word ≡ Some key → item_max < length_of parts.length
      → answer_of item_max parts ≡ Bad TooLarge (data_bytes parts.length)
  pub read : (flags : Flags) (key : List ℕ) → flags_in parts.verb (spaced_words parts.asked) ≡ Ok flags
      → key_of flags.base64 parts.word ≡ Some key → length_of parts.length ≤ item_max
      → answer_of item_max parts ≡ accepted parts.length (said_of parts flags key)

-- this of every line that has its words
abbrev pub RefusalsComeInOrder : Type 0
RefusalsComeInOrder = (item_max : ℕ) (parts : MetaParts) → ComesFirst item_max parts
