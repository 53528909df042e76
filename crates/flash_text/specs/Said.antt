-- What a line of the text protocol says, with the keys as a list of bytes.
use Rattle.std.specs.Prelude.{ℕ, ℤ, Bool, List, Option}
use Rattle.flash_text.specs.declared.text.Verb.{Verb}

-- a line that was read; what it doesn't have is empty, 0 or false
pub record Said : Type 0 where
  pub verb : Verb
  pub keys : List ℕ
  pub flags : ℕ
  pub exptime : ℤ
  pub length : ℕ
  pub number : ℕ
  pub quiet : Bool

-- what the words behind a command give: none where a word isn't what its place asks for
pub record FieldValues : Type 0 where
  pub keys : Option (List ℕ)
  pub flags : Option ℕ
  pub exptime : Option ℤ
  pub length : Option ℕ
  pub number : Option ℕ
  pub quiet : Bool
