-- Keys of the text protocol.
use Rattle.std.specs.Prelude.{ℕ, Bool, ◌&&◌, nat_le, List, length, Option, None, Some, if◌then◌else◌}
use Rattle.std.specs.List.{list_all}
use Rattle.flash_lanes.specs.KeyBytes.{is_key_byte}

-- a word of 1 to 250 bytes, each above a space and none 0x7f
abbrev pub is_key : List ℕ → Bool
is_key word = nat_le 1 (length word) && nat_le (length word) 250 && list_all is_key_byte word

-- the key of a word, where it is one
abbrev pub key_of : List ℕ → Option (List ℕ)
key_of word = if is_key word then Some word else None
