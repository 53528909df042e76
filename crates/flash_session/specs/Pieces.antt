-- The pieces of a session's replies, as they are written.
use Rattle.std.specs.Prelude.{◌≡◌, ℕ, ◌+◌, ◌-◌, nat_lt, List, [], ◌∷◌, length, drop, Option, None, Some, if◌then◌else◌}
use Rattle.flash_entry.specs.declared.ask.Ask.{Ask}
use Rattle.flash_entry.specs.declared.found.Told.{Told}
use Rattle.flash_reply.specs.declared.command.Command.{Command}
use Rattle.flash_reply.specs.Lines.{refusal_line}
use Rattle.flash_reply.specs.Replies.{text}
use Rattle.flash_commands.specs.Parts.{Asked, Asks, Refused}
use Rattle.flash_commands.specs.Commands.{commands_of}
use Rattle.flash_commands.specs.Asks.{asks_of}
use Rattle.flash_session.specs.States.{Session}
use Rattle.flash_session.specs.Talks.{ends_command, plain_reply}

-- the replies to the steps of a command from one of this number on, as far as they were answered, and what comes after
-- them where all were
abbrev pub pieces_from : Command → ℕ → List Ask → List Told → (List Told → List (List ℕ)) → List (List ℕ)
pieces_from command step [] told after = after told
pieces_from command step (ask ∷ asks) [] after = []
pieces_from command step (ask ∷ asks) (answer ∷ told) after =
    text command step answer
    ∷ (if ends_command answer then after told else pieces_from command (step + 1) asks told after)

-- the replies to a session's commands, by what its steps were told, piece by piece: one for each refusal, for each
-- command before its steps, and for each step. A piece may be empty
abbrev pub pieces_of : List Asked → List Told → List (List ℕ)
pieces_of [] told = []
pieces_of (Refused refusal ∷ more) told = refusal_line refusal ∷ pieces_of more told
pieces_of (Asks command block ∷ more) told =
    plain_reply command (asks_of command block)
    ∷ pieces_from command 1 (asks_of command block) told (λ left. pieces_of more left)

-- the first piece that goes beyond so many bytes of them, from there on
abbrev pub piece_after : ℕ → List (List ℕ) → Option (List ℕ)
piece_after n [] = None
piece_after n (piece ∷ more) =
    if nat_lt n (length piece) then Some (drop n piece) else piece_after (n - length piece) more

-- the piece that is next where these bytes were given, these answers told, and these bytes sent
abbrev pub next_piece : ℕ → List ℕ → List Told → List ℕ → Option (List ℕ)
next_piece item_max bytes told gone = piece_after (length gone) (pieces_of (commands_of item_max bytes).asked told)

-- what is to be sent, where anything is, is the next piece of the replies
abbrev pub HoldsAPiece : List ℕ → List Told → List ℕ → Session → Type 0
HoldsAPiece bytes told gone s = (s.out ≡ [] → ⊥) → next_piece s.reads.item_max bytes told gone ≡ Some s.out
