-- What a session's bytes are made of.
use Rattle.std.specs.Prelude.{ℕ, List}
use Rattle.flash_text.specs.declared.text.Refusal.{Refusal}
use Rattle.flash_reply.specs.declared.command.Command.{Command}
use Rattle.flash_commands.specs.declared.place.Place.{Place}

-- a command, with the block of data that follows its line, or a line or a block that is refused
pub data Asked : Type 0 where
  Asks : Command → List ℕ → Asked
  Refused : Refusal → Asked

-- what a line means: a command without data, one with a block of so many bytes, a refusal with so many bytes that are
-- skipped, or the end of the session
pub data Meaning : Type 0 where
  Plain : Command → Meaning
  Block : Command → ℕ → Meaning
  Skips : Refusal → ℕ → Meaning
  Quits : Meaning

-- the bytes up to a line feed and those after it, or no line feed yet, or none among the bytes that a line may have
pub data Cut : Type 0 where
  Feed : List ℕ → List ℕ → Cut
  Lacking : Cut
  Over : Cut

-- the front of the bytes: what is asked there, how many bytes it takes, and the place after it; or more bytes are needed
pub data Front : Type 0 where
  Takes : List Asked → ℕ → Place → Front
  Rest : Front

-- what is read of bytes: what is asked, how many bytes are skipped that aren't there yet, the place after it, and the
-- bytes that are left
pub record Read : Type 0 where
  pub asked : List Asked
  pub skip : ℕ
  pub place : Place
  pub rest : List ℕ
