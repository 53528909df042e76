-- Bytes that a key may have.
use Rattle.std.specs.Prelude.{ℕ, Bool, ◌&&◌, not, nat_eq, nat_lt}

-- a byte above 0x20 that isn't 0x7f
abbrev pub is_key_byte : ℕ → Bool
is_key_byte byte = nat_lt 32 byte && not (nat_eq byte 127)
