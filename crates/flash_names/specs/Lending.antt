-- What a blob is after it lent its bytes for writing.
use Rattle.std.specs.Prelude.{ℕ, List, length}
use Rattle.std.specs.List.{refill}
use Rattle.std.specs.Borrow.{Lends, MutBor, Fml, Array, u8}
use Rattle.flash_names.specs.contracts.blob.Blob.{the_row}

-- when the loan r has ended, the blob has the bytes that were last written through it, as many as before
abbrev pub LendsBytes : MutBor (List ℕ) → MutBor (List ℕ) → Fml
LendsBytes blob r = Lends the_row (Array u8 0) blob r (λ bytes. refill (length blob.now) blob.now bytes)
