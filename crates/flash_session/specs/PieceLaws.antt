-- How the pieces of a session's replies come, one after the other.
use Rattle.std.specs.Prelude.{◌≡◌, ℕ, true, List, [], ◌∷◌, ◌++◌, None, Some}
use Rattle.flash_entry.specs.declared.ask.Ask.{Ask}
use Rattle.flash_entry.specs.declared.found.Told.{Told}
use Rattle.flash_commands.specs.Laws.{joined}
use Rattle.flash_commands.specs.Parts.{Asked}
use Rattle.flash_session.specs.Pieces.{pieces_of, next_piece, HoldsAPiece}
use Rattle.flash_session.specs.Stands.{Stands}
use Rattle.flash_session.specs.States.{Session, front_now, read_at_once, ask_at, told_at}
use Rattle.flash_session.specs.Talks.{talk_of}

-- pieces go on from others
pub record GoOnFrom (pieces longer : List (List ℕ)) : Type 0 where
  pub more : List (List ℕ)
  pub parts : longer ≡ pieces ++ more

-- the pieces together are the replies
abbrev pub PiecesAreTheReplies : Type 0
PiecesAreTheReplies = (asked : List Asked) (told : List Told) → joined (pieces_of asked told) ≡ (talk_of asked told).replies

-- more commands, and more answers, add pieces behind those that are there
pub record PiecesGoOn : Type 0 where
  pub asked : (asked more : List Asked) (told : List Told) → GoOnFrom (pieces_of asked told) (pieces_of (asked ++ more) told)
  pub told : (asked : List Asked) (told more : List Told) → GoOnFrom (pieces_of asked told) (pieces_of asked (told ++ more))

-- the next piece stays where more bytes are given
abbrev pub ANextPieceStays : Type 0
ANextPieceStays = (item_max : ℕ) (bytes more : List ℕ) (told : List Told) (gone piece : List ℕ)
    → next_piece item_max bytes told gone ≡ Some piece → next_piece item_max (bytes ++ more) told gone ≡ Some piece

-- a session that had nothing to send, and reads a front at once, then has the next piece to send, if any
abbrev pub AReadHoldsAPiece : Type 0
AReadHoldsAPiece = (bytes : List ℕ) (told : List Told) (gone : List ℕ) (s next : Session) → s.out ≡ []
    → read_at_once s (front_now s) ≡ Some next → Stands bytes told gone s → HoldsAPiece bytes told gone next

-- so does one that is told an answer
abbrev pub AnAnswerHoldsAPiece : Type 0
AnAnswerHoldsAPiece = (bytes : List ℕ) (told : List Told) (gone : List ℕ) (s : Session) (answer : Told) → s.out ≡ []
    → s.owed ≡ true → Stands bytes told gone s
    → HoldsAPiece bytes (told ++ answer ∷ []) gone (told_at s (front_now s) answer)

-- where nothing is to be sent and a step is next, no piece is, however many bytes more are given
abbrev pub NoPieceIsNextAtAnAsk : Type 0
NoPieceIsNextAtAnAsk = (bytes more : List ℕ) (told : List Told) (gone : List ℕ) (s : Session) (ask : Ask) → s.out ≡ []
    → ask_at s.step (front_now s) ≡ Some ask → Stands bytes told gone s
    → next_piece s.reads.item_max (bytes ++ more) told gone ≡ None
