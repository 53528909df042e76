-- The numbers and the bytes that a word of the journal may stand for.
use Rattle.std.specs.Prelude.{ℕ, ℤ, pos, negsuc, zero, suc, ◌^◌, Bool, false, ◌==◌, ◌&&◌, ◌||◌, nat_le, nat_lt, List, [], ◌∷◌, length, Option, None, Some, codes, if◌then◌else◌}
use Rattle.std.specs.Option.{option_and_then, option_map}
use Rattle.std.specs.Result.{result_ok}
use Rattle.std.specs.List.{list_all}
use Rattle.std.specs.Str.{bytes_eq}
use Rattle.hex.specs.Hex.{decode_of}
use Rattle.flash_names.specs.Numbers.{number_of, if_below, is_digit}

-- a zero with something after it
abbrev pub has_leading_zero : List ℕ → Bool
has_leading_zero [] = false
has_leading_zero (b ∷ bytes) = b == 48 && nat_lt 0 (length bytes)

-- a decimal number below 2^64 as it is printed: no leading zeros and no sign
unfoldable pub plain_number : List ℕ → Option ℕ
plain_number word = if has_leading_zero word then None else number_of word

-- the same, where it is below 2^32
unfoldable pub narrow_number : List ℕ → Option ℕ
narrow_number word = if_below (2 ^ 32) (plain_number word)

-- the number that is this far below zero, where it is at least -2^63 and isn't zero
abbrev pub below_zero : ℕ → Option ℤ
below_zero zero = None
below_zero (suc n) = if nat_lt n (2 ^ 63) then Some (negsuc n) else None

-- a decimal number from -2^63 to 2^63 - 1 as it is printed
unfoldable pub signed_number : List ℕ → Option ℤ
signed_number [] = None
signed_number (b ∷ bytes) =
    if b == 45 then option_and_then below_zero (plain_number bytes)
    else option_map pos (if_below (2 ^ 63) (plain_number (b ∷ bytes)))

-- nothing where the word is this one, and else what of has
abbrev pub or_word : {A : Type 0} → List ℕ → (List ℕ → Option A) → List ℕ → Option (Option A)
or_word other of word = if bytes_eq word other then Some None else option_map Some (of word)

-- a number, or a dash where there is none
unfoldable pub optional_number : List ℕ → Option (Option ℕ)
optional_number word = or_word (codes "-") plain_number word

-- a number that may be negative, or a dash
unfoldable pub optional_signed : List ℕ → Option (Option ℤ)
optional_signed word = or_word (codes "-") signed_number word

-- an item's CAS number, or the word for no item
unfoldable pub number_or_none : List ℕ → Option (Option ℕ)
number_or_none word = or_word (codes "none") plain_number word

-- a page's number, or the word for a value in memory
unfoldable pub narrow_or_here : List ℕ → Option (Option ℕ)
narrow_or_here word = or_word (codes "here") narrow_number word

-- a digit from `0` to `9` or from `a` to `f`
abbrev pub is_lower_digit : ℕ → Bool
is_lower_digit b = is_digit b || (nat_le 97 b && nat_le b 102)

-- the bytes of an even count of lower-case hexadecimal digits, at least two
unfoldable pub bytes_of_digits : List ℕ → Option (List ℕ)
bytes_of_digits word =
    if nat_lt 0 (length word) && list_all is_lower_digit word then result_ok (decode_of word) else None

-- at most 250 bytes
abbrev pub if_key : List ℕ → Option (List ℕ)
if_key bytes = if nat_le (length bytes) 250 then Some bytes else None

-- the bytes of a key
unfoldable pub key_of_digits : List ℕ → Option (List ℕ)
key_of_digits word = option_and_then if_key (bytes_of_digits word)

-- the bytes of a value, or a dash where there are none
unfoldable pub value_of_digits : List ℕ → Option (List ℕ)
value_of_digits word = if bytes_eq word (codes "-") then Some [] else bytes_of_digits word

-- the same, or the word for a read or a write that failed
unfoldable pub bytes_or_failed : List ℕ → Option (Option (List ℕ))
bytes_or_failed word = or_word (codes "failed") value_of_digits word
