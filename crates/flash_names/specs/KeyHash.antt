-- The hash of bytes: FNV-1a with 64 bits (Fowler, Noll and Vo; the Internet draft draft-eastlake-fnv).
use Rattle.std.specs.Prelude.{ℕ, ◌*◌, ◌%◌, ◌^◌, List, [], ◌∷◌, bit_xor}

-- the hash of no bytes, FNV's offset basis
abbrev pub hash_of_none : ℕ
hash_of_none = 14695981039346656037

-- the hash after one byte more: the byte is put in by xor, and FNV's prime multiplies, modulo 2^64
abbrev pub hash_after : ℕ → ℕ → ℕ
hash_after hash byte = bit_xor hash byte * 1099511628211 % 2 ^ 64

-- the hash after these bytes more
abbrev pub hash_from : ℕ → List ℕ → ℕ
hash_from hash [] = hash
hash_from hash (byte ∷ rest) = hash_from (hash_after hash byte) rest

-- the hash of these bytes
unfoldable pub hash_of : List ℕ → ℕ
hash_of bytes = hash_from hash_of_none bytes
