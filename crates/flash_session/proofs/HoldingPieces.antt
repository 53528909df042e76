-- What a session has to send is the next piece of its replies.
use Rattle.std.proofs.Common.{◌≡◌, ℕ, ◌+◌, ◌<◌, Bool, true, false, List, [], ◌∷◌, ◌++◌, length, None, Some, if◌then◌else◌, refl, sym, ◌∙◌, ap, subst, append_assoc, arith}
use Rattle.std.specs.Prelude.{IsSome}
use Rattle.std.proofs.lemmas.List.{append-nil}
use Rattle.flash_entry.specs.declared.ask.Ask.{Ask}
use Rattle.flash_entry.specs.declared.found.Told.{Told}
use Rattle.flash_reply.specs.declared.command.Command.{Command}
use Rattle.flash_reply.specs.Lines.{refusal_line}
use Rattle.flash_reply.specs.Replies.{text, plain_text}
use Rattle.flash_commands.specs.declared.place.Place.{Place}
use Rattle.flash_commands.specs.Laws.{joined}
use Rattle.flash_commands.specs.Parts.{Asked, Asks, Refused, Front, Takes}
use Rattle.flash_commands.specs.Commands.{commands_of}
use Rattle.flash_commands.specs.Asks.{asks_of}
use Rattle.flash_session.specs.Pieces.{pieces_from, pieces_of, piece_after, next_piece, HoldsAPiece}
use Rattle.flash_session.specs.PieceLaws.{GoOnFrom}
use Rattle.flash_session.specs.Stands.{front_replies, Stands}
use Rattle.flash_session.specs.States.{Session, front_now, after_front, read_plain, read_at_once, ask_at, is_done, told_at}
use Rattle.flash_session.specs.Talks.{plain_reply, talk_of}
use Rattle.flash_session.proofs.Answering.{some_within}
use Rattle.flash_session.proofs.Asking.{behind, asked_is}
use Rattle.flash_session.proofs.Pieces.{joined_pieces, pieces_behind, texts, texts_joined, awaits, is_told, joined_both, piece_behind, first_piece}
use Rattle.flash_session.proofs.Reading.{here_none, said_so_far}
use Rattle.flash_session.proofs.Resting.{none_asked}

-- where the pieces before what it has to send were sent, that is the next piece
pub holds : (bytes : List ℕ) (told : List Told) (gone : List ℕ) (s : Session) (before later : List (List ℕ)) (reply : List ℕ)
    → pieces_of (commands_of s.reads.item_max bytes).asked told ≡ before ++ reply ∷ later → joined before ≡ gone → s.out ≡ reply → HoldsAPiece bytes told gone s
holds bytes told gone s before later reply pieces are_sent out = λ some.
    ap (piece_after (length gone)) pieces
    ∙ ap (λ (g : List ℕ). piece_after (length g) (before ++ reply ∷ later)) (sym are_sent)
    ∙ piece_behind before (reply ∷ later)
    ∙ first_piece reply later (λ none. some (out ∙ none))
    ∙ ap (λ (r : List ℕ). Some r) (sym out)

module _ (bytes : List ℕ) (told : List Told) (gone : List ℕ) (s : Session) (stands : Stands bytes told gone s) (none : s.reads.reader.skip ≡ 0) (empty : s.out ≡ []) where
  -- the pieces of what is done, and then those of the front and what comes behind it, with these answers
  pieces_are : (asked : List Asked) (n : ℕ) (next : Place) → front_now s ≡ Takes asked n next → (longer here : List Told) → longer ≡ stands.before ++ here
      → pieces_of (commands_of s.reads.item_max bytes).asked longer ≡ pieces_of stands.done stands.before ++ pieces_of (asked ++ behind s n next) here
  pieces_are asked n next front longer here is =
      ap (λ (a : List Asked). pieces_of a longer) (asked_is bytes told gone s stands none asked n next front)
      ∙ ap (pieces_of (stands.done ++ (asked ++ behind s n next))) is
      ∙ pieces_behind stands.done (asked ++ behind s n next) stands.before here stands.whole

  -- a front that is read at once, and has this reply
  module _ (first : s.step ≡ 0) (free : s.owed ≡ false) where
    are_sent : joined (pieces_of stands.done stands.before) ≡ gone
    are_sent =
        joined_pieces stands.done stands.before ∙ sym (said_so_far bytes told gone s stands none first free)
        ∙ ap (λ (out : List ℕ). gone ++ out) empty ∙ append-nil gone

    takes_piece : (asked : List Asked) (n : ℕ) (next : Place) (reply : List ℕ) → front_now s ≡ Takes asked n next → pieces_of (asked ++ behind s n next) [] ≡ reply ∷ pieces_of (behind s n next) []
        → HoldsAPiece bytes told gone (after_front s n next reply)
    takes_piece asked n next reply front is =
        holds bytes told gone (after_front s n next reply) (pieces_of stands.done stands.before) (pieces_of (behind s n next) []) reply
        (pieces_are asked n next front told [] (stands.told_is ∙ ap (λ (h : List Told). stands.before ++ h) (here_none bytes told gone s stands none first free))
        ∙ ap (λ (ps : List (List ℕ)). pieces_of stands.done stands.before ++ ps) is)
        are_sent (ap (λ (out : List ℕ). out ++ reply) empty)

    plain_piece : (command : Command) (block : List ℕ) (asks : List Ask) (n : ℕ) (place : Place) (next : Session) → asks_of command block ≡ asks → front_now s ≡ Takes (Asks command block ∷ []) n place
        → read_plain s command asks n place ≡ Some next → HoldsAPiece bytes told gone next
    plain_piece command block [] n place next is front read =
        let same : after_front s n place (plain_text command) ≡ next = cc read in
        subst (λ (new : Session). HoldsAPiece bytes told gone new) same
        (takes_piece (Asks command block ∷ []) n place (plain_text command) front
        (ap (λ (l : List Ask). plain_reply command l ∷ pieces_from command 1 l [] (λ left. pieces_of (behind s n place) left)) is))
    plain_piece command block (ask ∷ asks) n place next is front read = absurd (cc read)

    pub read_piece : (front : Front) (next : Session) → front_now s ≡ front → read_at_once s front ≡ Some next → HoldsAPiece bytes told gone next
    read_piece (Takes [] n place) next front read =
        let same : after_front s n place [] ≡ next = cc read in
        subst (λ (new : Session). HoldsAPiece bytes told gone new) same (λ some. absurd (some (ap (λ (out : List ℕ). out ++ []) empty)))
    read_piece (Takes (Refused refusal ∷ []) n place) next front read =
        let same : after_front s n place (refusal_line refusal) ≡ next = cc read in
        subst (λ (new : Session). HoldsAPiece bytes told gone new) same (takes_piece (Refused refusal ∷ []) n place (refusal_line refusal) front refl)
    read_piece (Takes (Asks command block ∷ []) n place) next front read = plain_piece command block (asks_of command block) n place next refl front read
    read_piece _ next front read = absurd (cc read)

  -- a front that asks a step
  module _ (command : Command) (block : List ℕ) (n : ℕ) (next : Place) (front : front_now s ≡ Takes (Asks command block ∷ []) n next) (less : s.step < length (asks_of command block)) where
    abbrev asks : List Ask
    asks = asks_of command block

    within : length stands.here < length asks
    within = let step = stands.step in omega (arith, step, less)

    -- the pieces so far: those of what is done, an empty one before the command's steps, and those to its first steps
    abbrev so_far : List (List ℕ)
    so_far = pieces_of stands.done stands.before ++ [] ∷ texts command 1 stands.here

    so_far_sent : joined so_far ≡ gone
    so_far_sent =
        joined_both (pieces_of stands.done stands.before) ([] ∷ texts command 1 stands.here)
        ∙ ap (λ (r : List ℕ). r ++ joined (texts command 1 stands.here)) (joined_pieces stands.done stands.before)
        ∙ ap (λ (r : List ℕ). (talk_of stands.done stands.before).replies ++ r) (texts_joined command 1 stands.here)
        ∙ sym (stands.replies ∙ ap (λ (f : Front). (talk_of stands.done stands.before).replies ++ front_replies f stands.here) front)
        ∙ ap (λ (out : List ℕ). gone ++ out) empty ∙ append-nil gone

    plain_none : (l : List Ask) → length stands.here < length l → plain_reply command l ≡ []
    plain_none [] less = absurd (omega (arith, less))
    plain_none (ask ∷ l) less = refl

    -- with these answers to its steps
    pieces_with : (longer here : List Told) (pieces : List (List ℕ)) → longer ≡ stands.before ++ here → pieces_from command 1 asks here (λ left. pieces_of (behind s n next) left) ≡ pieces
        → pieces_of (commands_of s.reads.item_max bytes).asked longer ≡ pieces_of stands.done stands.before ++ [] ∷ pieces
    pieces_with longer here pieces is from =
        pieces_are (Asks command block ∷ []) n next front longer here is
        ∙ ap (λ (p : List ℕ). pieces_of stands.done stands.before ++ p ∷ pieces_from command 1 asks here (λ left. pieces_of (behind s n next) left)) (plain_none asks within)
        ∙ ap (λ (ps : List (List ℕ)). pieces_of stands.done stands.before ++ [] ∷ ps) from

    -- no piece is left while the answer is awaited
    pub none_is_next : next_piece s.reads.item_max bytes told gone ≡ None
    none_is_next =
        ap (piece_after (length gone)) (pieces_with told stands.here (texts command 1 stands.here) stands.told_is (awaits command (λ left. pieces_of (behind s n next) left) 1 asks stands.here stands.going within))
        ∙ ap (λ (g : List ℕ). piece_after (length g) so_far) (sym so_far_sent)
        ∙ ap (piece_after (length (joined so_far))) (sym (append-nil so_far))
        ∙ piece_behind so_far []

    module _ (answer : Told) where
      abbrev on : GoOnFrom (texts command 1 stands.here ++ text command (1 + length stands.here) answer ∷ []) (pieces_from command 1 asks (stands.here ++ answer ∷ []) (λ left. pieces_of (behind s n next) left))
      on = is_told command (λ left. pieces_of (behind s n next) left) 1 asks stands.here answer stands.going within

      told_pieces : pieces_of (commands_of s.reads.item_max bytes).asked (told ++ answer ∷ []) ≡ so_far ++ text command (1 + length stands.here) answer ∷ on.more
      told_pieces =
          pieces_with (told ++ answer ∷ []) (stands.here ++ answer ∷ []) (texts command 1 stands.here ++ text command (1 + length stands.here) answer ∷ on.more)
          (ap (λ (t : List Told). t ++ answer ∷ []) stands.told_is ∙ append_assoc stands.before stands.here (answer ∷ []))
          (on.parts ∙ append_assoc (texts command 1 stands.here) (text command (1 + length stands.here) answer ∷ []) on.more)
          ∙ sym (append_assoc (pieces_of stands.done stands.before) ([] ∷ texts command 1 stands.here) (text command (1 + length stands.here) answer ∷ on.more))

      out_is : s.out ++ text command (s.step + 1) answer ≡ text command (1 + length stands.here) answer
      out_is =
          let number : s.step + 1 ≡ 1 + length stands.here = (let step = stands.step in omega (arith, step)) in
          ap (λ (out : List ℕ). out ++ text command (s.step + 1) answer) empty ∙ ap (λ (k : ℕ). text command k answer) number

      -- the answer's reply is the piece, whether the command is done or not
      told_by : (done : Bool) → HoldsAPiece bytes (told ++ answer ∷ []) gone
          (if done then record (after_front s n next (text command (s.step + 1) answer)) { owed = false } else record s { owed = false; step = s.step + 1; out = s.out ++ text command (s.step + 1) answer })
      told_by true = holds bytes (told ++ answer ∷ []) gone (record (after_front s n next (text command (s.step + 1) answer)) { owed = false }) so_far on.more (text command (1 + length stands.here) answer) told_pieces so_far_sent out_is
      told_by false = holds bytes (told ++ answer ∷ []) gone (record s { owed = false; step = s.step + 1; out = s.out ++ text command (s.step + 1) answer }) so_far on.more (text command (1 + length stands.here) answer) told_pieces so_far_sent out_is

  pub told_piece : (front : Front) (answer : Told) → front_now s ≡ front → IsSome (ask_at s.step front) → HoldsAPiece bytes (told ++ answer ∷ []) gone (told_at s front answer)
  told_piece (Takes (Asks command block ∷ []) n next) answer front some =
      told_by command block n next front (some_within (asks_of command block) s.step some) answer (is_done answer (s.step + 1) (asks_of command block))
  told_piece _ answer front some = absurd (none_asked some)

  pub none_at_an_ask : (front : Front) → front_now s ≡ front → IsSome (ask_at s.step front) → next_piece s.reads.item_max bytes told gone ≡ None
  none_at_an_ask (Takes (Asks command block ∷ []) n next) front some = none_is_next command block n next front (some_within (asks_of command block) s.step some)
  none_at_an_ask _ front some = absurd (none_asked some)
