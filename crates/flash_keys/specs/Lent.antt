-- Bytes that are lent, where there are some.
use Rattle.std.specs.Prelude.{ℕ, List, Option, None, Some}
use Rattle.std.specs.Borrow.{Bor}

-- the bytes after the reference
abbrev pub lent_bytes : Option (Bor (List ℕ)) → Option (List ℕ)
lent_bytes None = None
lent_bytes (Some bytes) = Some bytes.now
