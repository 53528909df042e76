-- What the words behind a command give, by the form of its line.
use Rattle.std.specs.Prelude.{ℕ, pos, ◌^◌, List, [], ◌∷◌, length, Option, None, Some, true, false, codes, if◌then◌else◌}
use Rattle.std.specs.Option.{option_map, option_and_then}
use Rattle.std.specs.List.{list_all}
use Rattle.std.specs.Str.{bytes_eq}
use Rattle.flash_names.specs.Numbers.{number_of}
use Rattle.flash_text.specs.Said.{FieldValues}
use Rattle.flash_text.specs.Words.{spaced_words, behind_words, trimmed}
use Rattle.flash_text.specs.Keys.{is_key, key_of}
use Rattle.flash_text.specs.Numbers.{number_below, delay_of, exptime_of}
use Rattle.flash_text.specs.Form.{Place, Key, Flags, Exptime, Length, Number, Optional, Zero, Delay, Noreply, Ending, KeyWords, OptionalWords, Form}

-- those of a line without words behind its command
abbrev pub no_fields : FieldValues
no_fields = record {
  keys = Some [];
  flags = Some 0;
  exptime = Some (pos 0);
  length = Some 0;
  number = Some 0;
  quiet = false;
}

-- a word at its place
abbrev pub with_word : Place → List ℕ → FieldValues → FieldValues
with_word Key word fields = record fields { keys = key_of word }
with_word Flags word fields = record fields { flags = number_below (2 ^ 32) word }
with_word Exptime word fields = record fields { exptime = exptime_of word }
with_word Length word fields = record fields { length = number_below (2 ^ 31) word }
with_word Number word fields = record fields { number = number_of word }

-- a word at each of these places, and the words behind them; none where a word lacks
abbrev pub with_places : List Place → List (List ℕ) → FieldValues → Option (FieldValues × List (List ℕ))
with_places [] words fields = Some (fields, words)
with_places (place ∷ places) [] fields = None
with_places (place ∷ places) (word ∷ words) fields = with_places places words (with_word place word fields)

-- an optional word, where this is one
abbrev pub with_optional : Optional → List ℕ → FieldValues → Option FieldValues
with_optional Zero word fields = if bytes_eq word (codes "0") then Some fields else None
with_optional Delay word fields = option_map (λ delay. record fields { exptime = Some delay }) (delay_of word)
with_optional Noreply word fields =
    if bytes_eq word (codes "noreply") then Some (record fields { quiet = true }) else None

-- the words at the end of a line; none where one of them isn't the next of the optional ones
abbrev pub with_optionals : List Optional → List (List ℕ) → FieldValues → Option FieldValues
with_optionals [] [] fields = Some fields
with_optionals [] (word ∷ words) fields = None
with_optionals (optional ∷ optionals) [] fields = Some fields
with_optionals (optional ∷ optionals) (word ∷ words) fields =
    elim (with_optional optional word fields) [
      | None ↦ with_optionals optionals (word ∷ words) fields
      | Some more ↦ with_optionals optionals words more
    ]

-- the keys at the end of a line, which are these bytes where each of its words is a key; none where there is no word
abbrev pub keys_at_end : List ℕ → List (List ℕ) → Option (Option (List ℕ))
keys_at_end span [] = None
keys_at_end span (word ∷ words) = Some (if list_all is_key (word ∷ words) then Some span else None)

-- those keys as a field
abbrev pub with_keys : List ℕ → List (List ℕ) → FieldValues → Option FieldValues
with_keys span words fields = option_map (λ keys. record fields { keys = keys }) (keys_at_end span words)

-- what ends the line
abbrev pub with_ending : Ending → List ℕ → List (List ℕ) → FieldValues → Option FieldValues
with_ending KeyWords span words fields = with_keys span words fields
with_ending (OptionalWords optionals) span words fields = with_optionals optionals words fields

-- what is behind a command's word gives, by the form of its line; none where it has another count of words, or a
-- word in an optional place that isn't one
unfoldable pub fields_of : Form → List ℕ → Option FieldValues
fields_of form rest =
    option_and_then (λ read. with_ending form.ending (trimmed (behind_words (length form.places) rest)) read.1 read.0)
    (with_places form.places (spaced_words rest) no_fields)
