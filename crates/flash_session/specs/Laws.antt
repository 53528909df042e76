-- What a session stands for after each of its calls.
use Rattle.std.specs.Prelude.{◌≡◌, ℕ, ◌+◌, true, false, List, [], ◌∷◌, ◌++◌, length, take, slice_get, Some}
use Rattle.std.specs.List.{AllByRecursion}
use Rattle.flash_entry.specs.declared.ask.Ask.{Ask}
use Rattle.flash_entry.specs.declared.found.Told.{Told}
use Rattle.flash_commands.specs.Parts.{Asked, Rest}
use Rattle.flash_commands.specs.Commands.{commands_of}
use Rattle.flash_reader.specs.Readers.{fed}
use Rattle.flash_session.specs.Talks.{ends_command, talk_of, steps_of}
use Rattle.flash_session.specs.States.{Session, first_session, front_now, read_at_once, ask_at, asking, told_at, sent}
use Rattle.flash_session.specs.Stands.{one_if, Stands}

-- a session that was fed nothing stands for nothing
abbrev pub ANewSessionStandsForNothing : Type 0
ANewSessionStandsForNothing = (pass item_max : ℕ) → Stands [] [] [] (first_session pass item_max)

-- more bytes
abbrev pub AFeedGoesOn : Type 0
AFeedGoesOn = (bytes more : List ℕ) (told : List Told) (gone : List ℕ) (s : Session) → Stands bytes told gone s
    → Stands (bytes ++ more) told gone (record s { reads = record s.reads { reader = fed s.reads.reader more } })

-- a front that is read at once
abbrev pub AReadGoesOn : Type 0
AReadGoesOn = (bytes : List ℕ) (told : List Told) (gone : List ℕ) (s next : Session)
    → read_at_once s (front_now s) ≡ Some next → Stands bytes told gone s → Stands bytes told gone next

-- a step that is asked
abbrev pub AnAskGoesOn : Type 0
AnAskGoesOn = (bytes : List ℕ) (told : List Told) (gone : List ℕ) (s : Session) (ask : Ask) → s.owed ≡ false
    → ask_at s.step (front_now s) ≡ Some ask → Stands bytes told gone s → Stands bytes told gone (asking s)

-- the step at the front is the next one of all that the bytes ask: that after those that were answered
abbrev pub AnAskIsTheNextStep : Type 0
AnAskIsTheNextStep = (bytes : List ℕ) (told : List Told) (gone : List ℕ) (s : Session) (ask : Ask)
    → ask_at s.step (front_now s) ≡ Some ask → Stands bytes told gone s
    → slice_get (talk_of (commands_of s.reads.item_max bytes).asked told).asks (length told) ≡ Some ask

-- the number of the last step counts those that were answered, and the one that awaits its answer
abbrev pub StepsAreCounted : Type 0
StepsAreCounted = (bytes : List ℕ) (told : List Told) (gone : List ℕ) (s : Session) → Stands bytes told gone s
    → s.last ≡ length told + one_if s.owed

-- where each step had memory, the steps so far are the first of those that are asked: as many as were answered, and one
abbrev pub StepsComeInOrder : Type 0
StepsComeInOrder = (asked : List Asked) (told : List Told) → AllByRecursion (λ answer. ends_command answer ≡ false) told
    → (talk_of asked told).asks ≡ take (length told + 1) (steps_of asked)

-- an answer
abbrev pub AnAnswerGoesOn : Type 0
AnAnswerGoesOn = (bytes : List ℕ) (told : List Told) (gone : List ℕ) (s : Session) (answer : Told)
    → s.owed ≡ true → Stands bytes told gone s
    → Stands bytes (told ++ answer ∷ []) gone (told_at s (front_now s) answer)

-- bytes that were sent
abbrev pub ASendGoesOn : Type 0
ASendGoesOn = (bytes : List ℕ) (told : List Told) (gone : List ℕ) (s : Session) (n : ℕ) → Stands bytes told gone s
    → Stands bytes told (gone ++ take n s.out) (sent s n)

-- all is said: each step that the bytes ask was answered, all replies were sent, and the session is where the bytes end
pub record IsAllSaid (bytes : List ℕ) (told : List Told) (gone : List ℕ) (s : Session) : Type 0 where
  pub asks : length (talk_of (commands_of s.reads.item_max bytes).asked told).asks ≡ length told
  pub replies : (talk_of (commands_of s.reads.item_max bytes).asked told).replies ≡ gone
  pub place : (commands_of s.reads.item_max bytes).place ≡ s.reads.reader.place

-- where nothing is to be sent and no front is whole, all is said
abbrev pub AllIsSaid : Type 0
AllIsSaid = (bytes : List ℕ) (told : List Told) (gone : List ℕ) (s : Session) → s.out ≡ [] → front_now s ≡ Rest
    → Stands bytes told gone s → IsAllSaid bytes told gone s
