-- What is true of every line that is read, and in which order a line is refused.
use Rattle.std.specs.Prelude.{◌≡◌, ℕ, ℤ, pos, neg_ℤ, ◌^◌, ◌<◌, ◌≤◌, ◌<ℤ◌, true, false, ◌&&◌, is_none, List, Option, None, Some}
use Rattle.std.specs.List.{list_all}
use Rattle.flash_text.specs.declared.text.Verb.{Verb}
use Rattle.flash_text.specs.declared.text.Refusal.TheVariants.{BadFormat, BadDelta, TooLarge}
use Rattle.flash_text.specs.declared.text.Line.{Line}
use Rattle.flash_text.specs.declared.text.Line.TheVariants.{Command, Data, Bad}
use Rattle.flash_text.specs.Said.{Said, FieldValues}
use Rattle.flash_text.specs.Words.{spaced_words}
use Rattle.flash_text.specs.Keys.{is_key}
use Rattle.flash_text.specs.Form.{is_storage, takes_delta}
use Rattle.flash_text.specs.Reading.{lacks_a_field, data_bytes, said_of}
use Rattle.flash_text.specs.Lines.{accepted, answer_of, line_of}

-- what a line says that is read
abbrev pub said_in : Line → Option Said
said_in (Command said) = Some said
said_in (Data said length) = Some said
said_in (Bad refusal skip) = None

-- between -10^18 and 10^18
abbrev pub IsExptime : ℤ → Type 0
IsExptime exptime = (neg_ℤ (pos (10 ^ 18)) <ℤ exptime) × (exptime <ℤ pos (10 ^ 18))

-- each number is below its limit, and the length at most the one that is allowed
pub record IsInRange (item_max : ℕ) (said : Said) : Type 0 where
  pub flags : said.flags < 2 ^ 32
  pub exptime : IsExptime said.exptime
  pub length : said.length < 2 ^ 31
  pub allowed : said.length ≤ item_max
  pub number : said.number < 2 ^ 64

-- the words of the keys of a line that is read are keys
abbrev pub EachWordOfTheKeysIsAKey : Type 0
EachWordOfTheKeysIsAKey =
    (item_max : ℕ) (line : List ℕ) (said : Said) → said_in (line_of item_max line) ≡ Some said
    → list_all is_key (spaced_words said.keys) ≡ true

-- the numbers of a line that is read are in their ranges
abbrev pub NumbersAreInRange : Type 0
NumbersAreInRange =
    (item_max : ℕ) (line : List ℕ) (said : Said) → said_in (line_of item_max line) ≡ Some said → IsInRange item_max said

-- data follows exactly the storage lines, and is as long as the line says
pub record DataFollows (line : Line) : Type 0 where
  pub storage : (said : Said) (length : ℕ) → line ≡ Data said length
      → (is_storage said.verb ≡ true) × (length ≡ said.length)
  pub other : (said : Said) → line ≡ Command said → is_storage said.verb ≡ false

-- this of every line
abbrev pub DataFollowsStorageLines : Type 0
DataFollowsStorageLines = (item_max : ℕ) (line : List ℕ) → DataFollows (line_of item_max line)

-- the refusals of a line that has the words of its form: first its length, then its delta, then its other words, and
-- last a length above the one that is allowed
pub record ComesFirst (item_max : ℕ) (verb : Verb) (fields : FieldValues) : Type 0 where
  pub no_length : fields.length ≡ None → answer_of item_max verb fields ≡ Bad BadFormat 0
  pub no_delta : (length : ℕ) → fields.length ≡ Some length → takes_delta verb ≡ true → fields.number ≡ None
      → answer_of item_max verb fields ≡ Bad BadDelta 0
  pub no_field : (length : ℕ) → fields.length ≡ Some length → (takes_delta verb && is_none fields.number) ≡ false
      → lacks_a_field fields ≡ true → answer_of item_max verb fields ≡ Bad BadFormat (data_bytes verb fields)
  pub too_large : (length : ℕ) → fields.length ≡ Some length → lacks_a_field fields ≡ false → item_max < length
      → answer_of item_max verb fields ≡ Bad TooLarge (data_bytes verb fields)
  pub read : (length : ℕ) → fields.length ≡ Some length → lacks_a_field fields ≡ false → length ≤ item_max
      → answer_of item_max verb fields ≡ accepted (said_of verb fields)

-- this of every command and its fields
abbrev pub RefusalsComeInOrder : Type 0
RefusalsComeInOrder = (item_max : ℕ) (verb : Verb) (fields : FieldValues) → ComesFirst item_max verb fields
