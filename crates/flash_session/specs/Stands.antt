-- What a session stands for: the bytes that it was fed, the answers that it was told, and the bytes that were sent.
use Rattle.std.specs.Prelude.{◌≡◌, ℕ, ◌+◌, ◌<◌, Bool, true, false, List, [], ◌∷◌, ◌++◌, length, IsSome}
use Rattle.std.specs.List.{AllByRecursion}
use Rattle.flash_entry.specs.declared.found.Told.{Told}
use Rattle.flash_reply.specs.declared.command.Command.{Command}
use Rattle.flash_reply.specs.Replies.{text}
use Rattle.flash_commands.specs.Parts.{Asked, Asks, Front, Takes}
use Rattle.flash_commands.specs.Reading.{HasRead}
use Rattle.flash_session.specs.Talks.{talk_of, ends_command, IsWhole}
use Rattle.flash_session.specs.States.{Session, front_now, ask_at}

-- one where it is so
abbrev pub one_if : Bool → ℕ
one_if true = 1
one_if false = 0

-- the replies to the first steps of a command, from one of this number on
abbrev pub replies_to : Command → ℕ → List Told → List ℕ
replies_to command step [] = []
replies_to command step (answer ∷ told) = text command step answer ++ replies_to command (step + 1) told

-- the replies to the first steps of the command at a front
abbrev pub front_replies : Front → List Told → List ℕ
front_replies (Takes (Asks command block ∷ []) n next) told = replies_to command 1 told
front_replies _ told = []

-- the commands that are done, the answers to their steps, and those to the steps of the command at the reader's front
pub record Stands (fed : List ℕ) (told : List Told) (sent : List ℕ) (s : Session) : Type 0 where
  pub done : List Asked
  pub before : List Told
  pub here : List Told
  pub told_is : told ≡ before ++ here
  pub reads : HasRead s.reads.item_max fed done s.reads.reader
  pub held : 0 < s.reads.reader.skip → s.reads.reader.unread ≡ []
  pub whole : IsWhole done before
  pub step : s.step ≡ length here
  pub going : AllByRecursion (λ answer. ends_command answer ≡ false) here
  pub started : 0 < s.step → IsSome (ask_at s.step (front_now s))
  pub owed : s.owed ≡ true → IsSome (ask_at s.step (front_now s))
  pub last : s.last ≡ length (talk_of done before).asks + length here + one_if s.owed
  pub replies : sent ++ s.out ≡ (talk_of done before).replies ++ front_replies (front_now s) here
