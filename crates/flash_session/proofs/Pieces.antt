-- The pieces of replies, one after the other.
use Rattle.std.proofs.Common.{◌≡◌, ℕ, ◌+◌, ◌-◌, ◌<◌, Bool, true, false, List, [], ◌∷◌, ◌++◌, length, Option, Some, if◌then◌else◌, refl, sym, ◌∙◌, ap, subst, append_assoc, arith}
use Rattle.std.specs.Prelude.{nat_lt, drop}
use Rattle.std.specs.List.{AllByRecursion}
use Rattle.std.proofs.lemmas.List.{append-nil, length-append}
use Rattle.std.proofs.lemmas.Bool.Decides.{nat_tests}
use Rattle.flash_entry.specs.declared.ask.Ask.{Ask}
use Rattle.flash_entry.specs.declared.found.Told.{Told}
use Rattle.flash_reply.specs.declared.command.Command.{Command}
use Rattle.flash_reply.specs.Lines.{refusal_line}
use Rattle.flash_reply.specs.Replies.{text}
use Rattle.flash_commands.specs.Laws.{joined}
use Rattle.flash_commands.specs.Parts.{Asked, Asks, Refused}
use Rattle.flash_commands.specs.Asks.{asks_of}
use Rattle.flash_session.specs.Pieces.{pieces_from, pieces_of, piece_after}
use Rattle.flash_session.specs.PieceLaws.{GoOnFrom, PiecesGoOn}
use Rattle.flash_session.specs.Stands.{replies_to}
use Rattle.flash_session.specs.Talks.{Talk, ends_command, talk_steps, plain_reply, talk_of, left_of_steps, IsWhole}
use Rattle.flash_session.proofs.Talking.{some_left}

-- the pieces together are the replies
module _ (command : Command) (pieces : List Told → List (List ℕ)) (talk : List Told → Talk) (same : (left : List Told) → joined (pieces left) ≡ (talk left).replies) where
  joined_by : (step : ℕ) (asks : List Ask) (told : List Told) (ends : Bool) → joined (pieces_from command step asks told pieces) ≡ (talk_steps command step asks told talk).replies
      → joined (if ends then pieces told else pieces_from command step asks told pieces) ≡ (if ends then talk told else talk_steps command step asks told talk).replies
  joined_by step asks told true more = same told
  joined_by step asks told false more = more

  joined_from : (step : ℕ) (asks : List Ask) (told : List Told) → joined (pieces_from command step asks told pieces) ≡ (talk_steps command step asks told talk).replies
  joined_from step [] told = same told
  joined_from step (ask ∷ asks) [] = refl
  joined_from step (ask ∷ asks) (answer ∷ told) =
      ap (λ (r : List ℕ). text command step answer ++ r) (joined_by (step + 1) asks told (ends_command answer) (joined_from (step + 1) asks told))

pub joined_pieces : (asked : List Asked) (told : List Told) → joined (pieces_of asked told) ≡ (talk_of asked told).replies
joined_pieces [] told = refl
joined_pieces (Refused refusal ∷ more) told = ap (λ (r : List ℕ). refusal_line refusal ++ r) (joined_pieces more told)
joined_pieces (Asks command block ∷ more) told =
    ap (λ (r : List ℕ). plain_reply command (asks_of command block) ++ r)
    (joined_from command (λ left. pieces_of more left) (λ left. talk_of more left) (λ left. joined_pieces more left) 1 (asks_of command block) told)

-- pieces that go on from others do so behind one piece more
pub one_more : (piece : List ℕ) (pieces longer : List (List ℕ)) → GoOnFrom pieces longer → GoOnFrom (piece ∷ pieces) (piece ∷ longer)
one_more piece pieces longer on = record { more = on.more; parts = ap (λ (ps : List (List ℕ)). piece ∷ ps) on.parts }

-- more commands and more answers add pieces behind those that are there
module _ (command : Command) (here : List Told) (after longer : List Told → List (List ℕ)) (on : (left : List Told) → GoOnFrom (after left) (longer (left ++ here))) where
  go_on_by : (step : ℕ) (asks : List Ask) (told : List Told) (ends : Bool) → GoOnFrom (pieces_from command step asks told after) (pieces_from command step asks (told ++ here) longer)
      → GoOnFrom (if ends then after told else pieces_from command step asks told after) (if ends then longer (told ++ here) else pieces_from command step asks (told ++ here) longer)
  go_on_by step asks told true rest = on told
  go_on_by step asks told false rest = rest

  go_on_from : (step : ℕ) (asks : List Ask) (told : List Told) → GoOnFrom (pieces_from command step asks told after) (pieces_from command step asks (told ++ here) longer)
  go_on_from step [] told = on told
  go_on_from step (ask ∷ asks) [] = record { more = pieces_from command step (ask ∷ asks) here longer; parts = refl }
  go_on_from step (ask ∷ asks) (answer ∷ told) = one_more (text command step answer) _ _ (go_on_by (step + 1) asks told (ends_command answer) (go_on_from (step + 1) asks told))

pieces_on : (asked more : List Asked) (told here : List Told) → GoOnFrom (pieces_of asked told) (pieces_of (asked ++ more) (told ++ here))
pieces_on [] more told here = record { more = pieces_of more (told ++ here); parts = refl }
pieces_on (Refused refusal ∷ asked) more told here = one_more (refusal_line refusal) _ _ (pieces_on asked more told here)
pieces_on (Asks command block ∷ asked) more told here =
    one_more (plain_reply command (asks_of command block)) _ _
    (go_on_from command here (λ left. pieces_of asked left) (λ left. pieces_of (asked ++ more) left) (λ left. pieces_on asked more left here) 1 (asks_of command block) told)

pub go_on : PiecesGoOn
go_on = record {
  asked = λ asked more told. subst (λ (t : List Told). GoOnFrom (pieces_of asked told) (pieces_of (asked ++ more) t)) (append-nil told) (pieces_on asked more told []);
  told = λ asked told more. subst (λ (a : List Asked). GoOnFrom (pieces_of asked told) (pieces_of a (told ++ more))) (append-nil asked) (pieces_on asked [] told more);
}

-- the pieces of more commands stand behind those of commands that are answered whole
module _ (command : Command) (here : List Told) (rest : List (List ℕ)) (after short : List Told → List (List ℕ)) where
  abbrev GoesOn : List Told → Type 0
  GoesOn left = after (left ++ here) ≡ short left ++ rest

  whole_by : (asks : List Ask) (step : ℕ) (told left : List Told) (ends : Bool) → (if ends then Some told else left_of_steps asks told) ≡ Some left → GoesOn left
      → (left_of_steps asks told ≡ Some left → pieces_from command step asks (told ++ here) after ≡ pieces_from command step asks told short ++ rest)
      → (if ends then after (told ++ here) else pieces_from command step asks (told ++ here) after) ≡ (if ends then short told else pieces_from command step asks told short) ++ rest
  whole_by asks step told left true is on more = subst GoesOn (sym (some_left left told is)) on
  whole_by asks step told left false is on more = more is

  whole_from : (asks : List Ask) (step : ℕ) (told left : List Told) → left_of_steps asks told ≡ Some left → GoesOn left
      → pieces_from command step asks (told ++ here) after ≡ pieces_from command step asks told short ++ rest
  whole_from [] step told left is on = subst GoesOn (sym (some_left left told is)) on
  whole_from (ask ∷ asks) step [] left is on = absurd (cc is)
  whole_from (ask ∷ asks) step (answer ∷ told) left is on =
      ap (λ (ps : List (List ℕ)). text command step answer ∷ ps) (whole_by asks (step + 1) told left (ends_command answer) is on (λ same. whole_from asks (step + 1) told left same on))

pub pieces_behind : (done more : List Asked) (before here : List Told) → IsWhole done before → pieces_of (done ++ more) (before ++ here) ≡ pieces_of done before ++ pieces_of more here
pieces_behind [] more before here whole = ap (λ (t : List Told). pieces_of more (t ++ here)) whole
pieces_behind (Refused refusal ∷ done) more before here whole = ap (λ (ps : List (List ℕ)). refusal_line refusal ∷ ps) (pieces_behind done more before here whole)
pieces_behind (Asks command block ∷ done) more before here whole =
    ap (λ (ps : List (List ℕ)). plain_reply command (asks_of command block) ∷ ps)
    (whole_from command here (pieces_of more here) (λ left. pieces_of (done ++ more) left) (λ left. pieces_of done left) (asks_of command block) 1 before whole.0 whole.1 (pieces_behind done more whole.0 here whole.2))

-- the texts that answer the first steps of a command, from one of this number on
abbrev pub texts : Command → ℕ → List Told → List (List ℕ)
texts command step [] = []
texts command step (answer ∷ told) = text command step answer ∷ texts command (step + 1) told

pub texts_joined : (command : Command) (step : ℕ) (told : List Told) → joined (texts command step told) ≡ replies_to command step told
texts_joined command step [] = refl
texts_joined command step (answer ∷ told) = ap (λ (r : List ℕ). text command step answer ++ r) (texts_joined command (step + 1) told)

-- a command that awaits an answer has the texts of those that it was told
module _ (command : Command) (after : List Told → List (List ℕ)) where
  pub awaits : (step : ℕ) (asks : List Ask) (here : List Told) → AllByRecursion (λ answer. ends_command answer ≡ false) here → length here < length asks → pieces_from command step asks here after ≡ texts command step here
  awaits step [] here going within = absurd (omega (arith, within))
  awaits step (ask ∷ asks) [] going within = refl
  awaits step (ask ∷ asks) (first ∷ here) going within = rw going.0 (ap (λ (ps : List (List ℕ)). text command step first ∷ ps) (awaits (step + 1) asks here going.1 (omega (arith, within))))

  -- and one more, once it is told the answer
  pub is_told : (step : ℕ) (asks : List Ask) (here : List Told) (answer : Told) → AllByRecursion (λ answer. ends_command answer ≡ false) here → length here < length asks
      → GoOnFrom (texts command step here ++ text command (step + length here) answer ∷ []) (pieces_from command step asks (here ++ answer ∷ []) after)
  is_told step [] here answer going within = absurd (omega (arith, within))
  is_told step (ask ∷ asks) [] answer going within =
      let same : step ≡ step + 0 = omega arith in
      let rest = if ends_command answer then after [] else pieces_from command (step + 1) asks [] after in
      record { more = rest; parts = ap (λ (k : ℕ). text command k answer ∷ rest) same }
  is_told step (ask ∷ asks) (first ∷ here) answer going within =
      let same : step + 1 + length here ≡ step + length (first ∷ here) = omega arith in
      let rest : GoOnFrom (texts command (step + 1) here ++ text command (step + length (first ∷ here)) answer ∷ []) (pieces_from command (step + 1) asks (here ++ answer ∷ []) after) =
      subst (λ (k : ℕ). GoOnFrom (texts command (step + 1) here ++ text command k answer ∷ []) (pieces_from command (step + 1) asks (here ++ answer ∷ []) after)) same
      (is_told (step + 1) asks here answer going.1 (omega (arith, within))) in
      rw going.0 (one_more (text command step first) _ _ rest)

-- pieces that are joined
pub joined_both : (one other : List (List ℕ)) → joined (one ++ other) ≡ joined one ++ joined other
joined_both [] other = refl
joined_both (piece ∷ one) other = ap (λ (r : List ℕ). piece ++ r) (joined_both one other) ∙ sym (append_assoc piece (joined one) (joined other))

-- a piece that is next stays it with pieces behind
stays_by : (short : Bool) (first piece : List ℕ) (one other : Option (List ℕ)) → (if short then Some first else one) ≡ Some piece → (one ≡ Some piece → other ≡ Some piece) → (if short then Some first else other) ≡ Some piece
stays_by true first piece one other is more = is
stays_by false first piece one other is more = more is

pub piece_stays : (n : ℕ) (pieces more : List (List ℕ)) (piece : List ℕ) → piece_after n pieces ≡ Some piece → piece_after n (pieces ++ more) ≡ Some piece
piece_stays n [] more piece is = absurd (cc is)
piece_stays n (first ∷ pieces) more piece is =
    stays_by (nat_lt n (length first)) (drop n first) piece (piece_after (n - length first) pieces) (piece_after (n - length first) (pieces ++ more)) is (piece_stays (n - length first) pieces more piece)

-- pieces that were sent are passed over
pub piece_behind : (pieces more : List (List ℕ)) → piece_after (length (joined pieces)) (pieces ++ more) ≡ piece_after 0 more
piece_behind [] more = refl
piece_behind (piece ∷ pieces) more =
    let both = length-append piece (joined pieces) in
    let passed : nat_lt (length (piece ++ joined pieces)) (length piece) ≡ false = grind (arith, nat_tests, both) in
    let left : length (piece ++ joined pieces) - length piece ≡ length (joined pieces) = omega (arith, both) in
    rw passed (ap (λ (n : ℕ). piece_after n (pieces ++ more)) left ∙ piece_behind pieces more)

-- a piece that isn't empty is the first
pub first_piece : (piece : List ℕ) (more : List (List ℕ)) → (piece ≡ [] → ⊥) → piece_after 0 (piece ∷ more) ≡ Some piece
first_piece [] more some = absurd (some refl)
first_piece (b ∷ piece) more some = let low : nat_lt 0 (length (b ∷ piece)) ≡ true = grind (arith, nat_tests) in rw low refl
