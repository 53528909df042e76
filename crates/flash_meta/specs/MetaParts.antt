-- The words of a line of the meta protocol.
use Rattle.std.specs.Prelude.{ℕ, List, Option}
use Rattle.flash_meta.specs.declared.meta.MetaVerb.{MetaVerb}

-- what is behind a command: the key as it was sent, the length where data follows, and the flags as they were sent
pub record MetaParts : Type 0 where
  pub verb : MetaVerb
  pub word : List ℕ
  pub length : Option ℕ
  pub asked : List ℕ
