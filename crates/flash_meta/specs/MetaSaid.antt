-- What a line of the meta protocol says, with the lent bytes as lists.
use Rattle.std.specs.Prelude.{ℕ, ℤ, Bool, List, Option}
use Rattle.flash_entry.specs.declared.ask.Mode.{Mode}
use Rattle.flash_meta.specs.declared.meta.MetaVerb.{MetaVerb}

-- a line that was read: the command, the key as it was sent and the key that it means, the length of the data, the
-- flags as they were sent, and what they say
pub record MetaSaid : Type 0 where
  pub verb : MetaVerb
  pub word : List ℕ
  pub key : List ℕ
  pub length : ℕ
  pub asked : List ℕ
  pub base64 : Bool
  pub quiet : Bool
  pub value : Bool
  pub exptime : Option ℤ
  pub flags : ℕ
  pub compare : Option ℕ
  pub mode : Mode
  pub down : Bool
  pub delta : ℕ
  pub create : Option ℤ
  pub start : ℕ
