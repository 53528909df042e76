-- Where a key is at home, by its hash.
use Rattle.std.specs.Prelude.{ℕ, zero, suc, ◌+◌, ◌*◌, ◌-◌, ◌/◌, ◌%◌, nat_eq, nat_lt, if◌then◌else◌}

-- the greatest power of two that is at most n, for n above 0
unfoldable pub power : ℕ → ℕ
power zero = 1
power (suc n) = if nat_eq (suc n) (2 * power n) then suc n else power n

-- the home of a quotient q among n homes, where b is the power of n
abbrev pub home_at : ℕ → ℕ → ℕ → ℕ
home_at b n q = if nat_lt (q % (2 * b)) n then q % (2 * b) else q % b

-- the home of a hash among n homes
abbrev pub home : ℕ → ℕ → ℕ
home n hash = home_at (power n) n (hash / 256)

-- the tag of a hash, from 1 to 255
abbrev pub tag : ℕ → ℕ
tag hash = 1 + hash % 255

-- the home whose keys are divided when home n is added
abbrev pub split_home : ℕ → ℕ
split_home n = n - power n
