-- What a session asks and is answered: its commands, with what its steps were told.
use Rattle.std.specs.Prelude.{◌≡◌, ℕ, ◌+◌, Bool, true, false, List, [], ◌∷◌, ◌++◌, Option, None, Some, if◌then◌else◌}
use Rattle.flash_entry.specs.declared.ask.Ask.{Ask}
use Rattle.flash_entry.specs.declared.found.Told.{Told}
use Rattle.flash_entry.specs.declared.found.Told.TheVariants.{NoMemory}
use Rattle.flash_reply.specs.declared.command.Command.{Command}
use Rattle.flash_reply.specs.Lines.{refusal_line}
use Rattle.flash_reply.specs.Replies.{text, plain_text}
use Rattle.flash_commands.specs.Parts.{Asked, Asks, Refused}
use Rattle.flash_commands.specs.Asks.{asks_of}

-- what was asked so far, step by step, the last one without an answer yet where one is awaited; and the replies so far
pub record Talk : Type 0 where
  pub asks : List Ask
  pub replies : List ℕ

abbrev pub silence : Talk
silence = record { asks = []; replies = [] }

-- one talk, and another after it
abbrev pub then_talk : Talk → Talk → Talk
then_talk one other = record { asks = one.asks ++ other.asks; replies = one.replies ++ other.replies }

-- whether a step had no memory, which ends its command
abbrev pub ends_command : Told → Bool
ends_command NoMemory = true
ends_command _ = false

-- the steps of a command from one of this number on, and what comes after them
abbrev pub talk_steps : Command → ℕ → List Ask → List Told → (List Told → Talk) → Talk
talk_steps command step [] told after = after told
talk_steps command step (ask ∷ asks) [] after = record { asks = ask ∷ []; replies = [] }
talk_steps command step (ask ∷ asks) (answer ∷ told) after =
    then_talk (record { asks = ask ∷ []; replies = text command step answer })
    (if ends_command answer then after told else talk_steps command (step + 1) asks told after)

-- the reply to a command that makes no step
abbrev pub plain_reply : Command → List Ask → List ℕ
plain_reply command [] = plain_text command
plain_reply command (ask ∷ asks) = []

-- what a session's commands ask, by what their steps were told, and the replies to them
abbrev pub talk_of : List Asked → List Told → Talk
talk_of [] told = silence
talk_of (Refused refusal ∷ more) told =
    then_talk (record { asks = []; replies = refusal_line refusal }) (talk_of more told)
talk_of (Asks command block ∷ more) told =
    then_talk (record { asks = []; replies = plain_reply command (asks_of command block) })
    (talk_steps command 1 (asks_of command block) told (λ left. talk_of more left))

-- the steps that are asked, one after the other, where each has memory
abbrev pub steps_of : List Asked → List Ask
steps_of [] = []
steps_of (Refused refusal ∷ more) = steps_of more
steps_of (Asks command block ∷ more) = asks_of command block ++ steps_of more

-- what is left of the answers after a command's steps, or nothing where an answer is awaited
abbrev pub left_of_steps : List Ask → List Told → Option (List Told)
left_of_steps [] told = Some told
left_of_steps (ask ∷ asks) [] = None
left_of_steps (ask ∷ asks) (answer ∷ told) = if ends_command answer then Some told else left_of_steps asks told

-- these commands are answered whole by these answers
abbrev pub IsWhole : List Asked → List Told → Type 0
IsWhole [] told = told ≡ []
IsWhole (Refused refusal ∷ more) told = IsWhole more told
IsWhole (Asks command block ∷ more) told =
    (left : List Told) × (left_of_steps (asks_of command block) told ≡ Some left) × IsWhole more left
