-- What a session needs next.
use Rattle.std.specs.Prelude.{◌≡◌, ℕ, ◌+◌, ◌-◌, ◌^◌, true, false, List, [], Some, IsSome}
use Rattle.flash_entry.specs.declared.found.Told.{Told}
use Rattle.flash_commands.specs.declared.place.Place.TheVariants.{AtQuit, TooLong}
use Rattle.flash_commands.specs.Parts.{Rest}
use Rattle.flash_commands.specs.Laws.{IsEnd}
use Rattle.flash_session.specs.declared.todo.Todo.{Todo}
use Rattle.flash_session.specs.declared.todo.Todo.TheVariants.{Write, Wait, Do, Closed, Input}
use Rattle.flash_session.specs.declared.todo.Ending.TheVariants.{Quit, LineTooLong, UsedUp}
use Rattle.flash_session.specs.States.{Session, front_now, ask_at}
use Rattle.flash_session.specs.Pieces.{HoldsAPiece}
use Rattle.flash_session.specs.Stands.{Stands}

-- a session stands for all that another stands for
abbrev pub StandsAs : Session → Session → Type 0
StandsAs old new = (bytes : List ℕ) (told : List Told) (gone : List ℕ) → Stands bytes told gone old → Stands bytes told gone new

-- and where what the one has to send is the next piece, or nothing, so it is with the other
abbrev pub HoldsAPieceAs : Session → Session → Type 0
HoldsAPieceAs old new = (bytes : List ℕ) (told : List Told) (gone : List ℕ) → Stands bytes told gone old
    → HoldsAPiece bytes told gone old → HoldsAPiece bytes told gone new

-- a session that has read on from another: it stands for the same, asked no step, and has read no front more than the
-- first that has a reply, and none where there was something to send
pub record HasReadOn (old new : Session) : Type 0 where
  pub stands : StandsAs old new
  pub piece : HoldsAPieceAs old new
  pub pass : new.pass ≡ old.pass
  pub item_max : new.reads.item_max ≡ old.reads.item_max
  pub owed : new.owed ≡ old.owed
  pub last : new.last ≡ old.last

-- nothing is to be sent, and no answer is owed
pub record IsFree (s : Session) : Type 0 where
  pub sent : s.out ≡ []
  pub told : s.owed ≡ false

-- besides, no front is whole
pub record IsAtRest (s : Session) : Type 0 where
  pub free : IsFree s
  pub rests : front_now s ≡ Rest

-- what holds of a session that needs this
abbrev pub IsNext : Session → Todo → Type 0
IsNext s Write = s.out ≡ [] → ⊥
IsNext s Wait = (s.out ≡ []) × (s.owed ≡ true)
IsNext s (Do id ask) =
    (s.out ≡ []) × (s.owed ≡ true) × (id ≡ record { pass = s.pass; seq = s.last })
    × (ask_at s.step (front_now s) ≡ Some ask)
IsNext s (Closed Quit) = IsAtRest s × (s.reads.reader.place ≡ AtQuit)
IsNext s (Closed LineTooLong) = IsAtRest s × (s.reads.reader.place ≡ TooLong)
IsNext s (Closed UsedUp) = IsFree s × (s.last ≡ 2 ^ 64 - 1) × IsSome (ask_at s.step (front_now s))
IsNext s Input = IsAtRest s × (IsEnd s.reads.reader.place → ⊥)

-- how its steps are counted: the step that it asks is one more, and no answer was owed
abbrev pub IsCounted : Session → Todo → Session → Type 0
IsCounted old (Do id ask) new = (old.owed ≡ false) × (new.last ≡ old.last + 1)
IsCounted old _ new = (new.owed ≡ old.owed) × (new.last ≡ old.last)

-- a session that has come to need this: it stands for what it stood for, and what it has to send is one piece
pub record Needs (old : Session) (todo : Todo) (new : Session) : Type 0 where
  pub stands : StandsAs old new
  pub piece : HoldsAPieceAs old new
  pub pass : new.pass ≡ old.pass
  pub item_max : new.reads.item_max ≡ old.reads.item_max
  pub counted : IsCounted old todo new
  pub next : IsNext new todo
