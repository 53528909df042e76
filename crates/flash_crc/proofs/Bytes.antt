-- The pieces of a list of bytes are lists of bytes.
use Rattle.std.proofs.Common.{ℕ, zero, suc, List, [], ◌∷◌, take, drop, lit<}
use Rattle.flash_crc.specs.Bytes.{IsBytes}

pub in_front : (n : ℕ) (bytes : List ℕ) → IsBytes bytes → IsBytes (take n bytes)
in_front zero bytes each i = lit< tt
in_front (suc n) [] each i = lit< tt
in_front (suc n) (byte ∷ rest) each zero = each zero
in_front (suc n) (byte ∷ rest) each (suc i) = in_front n rest (λ j. each (suc j)) i

pub behind : (n : ℕ) (bytes : List ℕ) → IsBytes bytes → IsBytes (drop n bytes)
behind zero bytes each i = each i
behind (suc n) [] each i = lit< tt
behind (suc n) (byte ∷ rest) each i = behind n rest (λ j. each (suc j)) i
