-- One byte that is read wrong.
use Rattle.std.specs.Prelude.{ℕ, ◌-◌, ◌&&◌, nat_eq, nat_le, List, bit_xor, slice_index, slice_set, if◌then◌else◌}

-- the bytes with the lowest bit of the one at the index turned over, where there is one
abbrev pub flipped : ℕ → List ℕ → List ℕ
flipped index bytes = slice_set bytes index (bit_xor (slice_index bytes index) 1)

-- the bytes from an offset of a page on, as they are read where the byte of this page and offset is damaged
abbrev pub damaged : ℕ × ℕ → ℕ → ℕ → List ℕ → List ℕ
damaged damage page offset bytes =
    if nat_eq page damage.0 && nat_le offset damage.1 then flipped (damage.1 - offset) bytes else bytes
