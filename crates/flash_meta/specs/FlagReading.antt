-- What the flags of a line give, from left to right, or the first refusal.
use Rattle.std.specs.Prelude.{◌≡◌, ℕ, ◌<◌, slice_index_or, ◌^◌, ◌==◌, ◌&&◌, ◌||◌, Bool, true, false, nat_le, nat_lt, List, [], ◌∷◌, length, Option, None, Some, Result, Ok, Err, codes, if◌then◌else◌}
use Rattle.std.specs.Option.{option_map}
use Rattle.std.specs.List.{list_any}
use Rattle.std.specs.Str.{bytes_eq}
use Rattle.flash_names.specs.Numbers.{number_of}
use Rattle.flash_entry.specs.declared.ask.Mode.{Mode}
use Rattle.flash_entry.specs.declared.ask.Mode.TheVariants as modes
use Rattle.flash_text.specs.Numbers.{number_below, exptime_of}
use Rattle.flash_text.specs.declared.text.Refusal.{Refusal}
use Rattle.flash_text.specs.declared.text.Refusal.TheVariants.{BadFlag, DuplicateFlag, BadToken}
use Rattle.flash_meta.specs.declared.meta.MetaVerb.{MetaVerb}
use Rattle.flash_meta.specs.declared.flags.Flag.{Flag}
use Rattle.flash_meta.specs.declared.flags.Flag.TheVariants.{Base64, Quiet, Value, Shown, Opaque, Exptime, ClientFlags, Compare, StoreMode, Direction, Delta, Create, Start}
use Rattle.flash_meta.specs.declared.flags.Flags.{Flags}
use Rattle.flash_meta.specs.Flags.{flag_of, is_bare}

-- what a line without flags says
abbrev pub no_flags : Flags
no_flags = record {
  base64 = false;
  quiet = false;
  value = false;
  exptime = None;
  flags = 0;
  compare = None;
  mode = modes.Set;
  down = false;
  delta = 1;
  create = None;
  start = 0;
}

-- how a value is stored, by its letter
abbrev pub mode_of : List ℕ → Option Mode
mode_of token =
    if bytes_eq token (codes "S") || bytes_eq token (codes "s") then Some modes.Set
    else if bytes_eq token (codes "E") || bytes_eq token (codes "e") then Some modes.Add
    else if bytes_eq token (codes "A") || bytes_eq token (codes "a") then Some modes.Append
    else if bytes_eq token (codes "P") || bytes_eq token (codes "p") then Some modes.Prepend
    else if bytes_eq token (codes "R") || bytes_eq token (codes "r") then Some modes.Replace
    else None

-- whether a number goes down, by its letter
abbrev pub down_of : List ℕ → Option Bool
down_of token =
    if bytes_eq token (codes "I") || bytes_eq token (codes "i") || bytes_eq token (codes "+") then Some false
    else if bytes_eq token (codes "D") || bytes_eq token (codes "d") || bytes_eq token (codes "-") then Some true
    else None

-- a flag with its token; none where the token can't be read
abbrev pub with_flag : Flag → List ℕ → Flags → Option Flags
with_flag Base64 token flags = Some (record flags { base64 = true })
with_flag Quiet token flags = Some (record flags { quiet = true })
with_flag Value token flags = Some (record flags { value = true })
with_flag Shown token flags = Some flags
with_flag Opaque token flags = if nat_le 1 (length token) && nat_le (length token) 250 then Some flags else None
with_flag Exptime token flags = option_map (λ e. record flags { exptime = Some e }) (exptime_of token)
with_flag ClientFlags token flags = option_map (λ n. record flags { flags = n }) (number_below (2 ^ 32) token)
with_flag Compare token flags = option_map (λ n. record flags { compare = Some n }) (number_of token)
with_flag StoreMode token flags = option_map (λ m. record flags { mode = m }) (mode_of token)
with_flag Direction token flags = option_map (λ d. record flags { down = d }) (down_of token)
with_flag Delta token flags = option_map (λ n. record flags { delta = n }) (number_of token)
with_flag Create token flags = option_map (λ e. record flags { create = Some e }) (exptime_of token)
with_flag Start token flags = option_map (λ n. record flags { start = n }) (number_of token)

-- a value, or this refusal
abbrev pub or_refusal : {A : Type 0} → Refusal → Option A → Result A Refusal
or_refusal refusal None = Err refusal
or_refusal refusal (Some value) = Ok value

-- a letter with this meaning and its token, behind the letters that were given before
abbrev pub read_known : Option Flag → ℕ → List ℕ → List ℕ → Flags → Result Flags Refusal
read_known None letter token given flags = Err BadFlag
read_known (Some flag) letter token given flags =
    if is_bare flag && nat_lt 0 (length token) then Err BadFlag
    else if list_any (λ other. other == letter) given then Err DuplicateFlag
    else or_refusal BadToken (with_flag flag token flags)

-- the word of a flag, behind the letters that were given before
abbrev pub read_word : MetaVerb → List ℕ → List ℕ → Flags → Result Flags Refusal
read_word verb given [] flags = Ok flags
read_word verb given (letter ∷ token) flags = read_known (flag_of verb letter) letter token given flags

-- the letters that were given, with that of one word more
abbrev pub given_with : List ℕ → List ℕ → List ℕ
given_with given [] = given
given_with given (letter ∷ token) = letter ∷ given

-- the words of the flags from left to right, behind the letters that were given before
abbrev pub read_words : MetaVerb → List ℕ → List (List ℕ) → Flags → Result Flags Refusal
read_words verb given [] flags = Ok flags
read_words verb given (word ∷ words) flags =
    elim (read_word verb given word flags) [
      | Err refusal ↦ Err refusal
      | Ok more ↦ read_words verb (given_with given word) words more
    ]

-- what the flags of a line give, or the first refusal
unfoldable pub flags_in : MetaVerb → List (List ℕ) → Result Flags Refusal
flags_in verb words = read_words verb [] words no_flags

-- a table of letters that holds those that were given
abbrev pub AreGiven : List ℕ → List Bool → Type 0
AreGiven given table =
    (letter : ℕ) → letter < 128 → slice_index_or table letter false ≡ list_any (λ other. other == letter) given
