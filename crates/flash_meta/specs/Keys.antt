-- The key that a word of the meta protocol means.
use Rattle.std.specs.Prelude.{ℕ, Bool, nat_le, List, length, Option, None, Some, if◌then◌else◌}
use Rattle.std.specs.Option.{option_and_then}
use Rattle.std.specs.Result.{result_ok}
use Rattle.base64.specs.GeneralPurpose.{decode_of}
use Rattle.base64.specs.Engines.{standard}
use Rattle.flash_text.specs.Keys as text

-- one byte at least
abbrev pub if_some_bytes : List ℕ → Option (List ℕ)
if_some_bytes bytes = if nat_le 1 (length bytes) then Some bytes else None

-- the bytes whose base64 a word of at most 250 bytes is: the standard one with padding and zero bits at the end (RFC
-- 4648, section 4)
unfoldable pub base64_key : List ℕ → Option (List ℕ)
base64_key word =
    if nat_le (length word) 250 then option_and_then if_some_bytes (result_ok (decode_of standard word)) else None

-- the key of a word, which is base64 or the key itself
abbrev pub key_of : Bool → List ℕ → Option (List ℕ)
key_of is_base64 word = if is_base64 then base64_key word else text.key_of word
