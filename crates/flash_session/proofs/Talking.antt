-- Talks, one after the other.
use Rattle.std.proofs.Common.{◌≡◌, ℕ, zero, suc, ◌+◌, Bool, true, false, List, [], ◌∷◌, ◌++◌, length, Some, if◌then◌else◌, refl, sym, ◌∙◌, ap, subst, append_assoc, arith}
use Rattle.std.specs.Prelude.{take}
use Rattle.std.specs.List.{AllByRecursion}
use Rattle.flash_entry.specs.declared.ask.Ask.{Ask}
use Rattle.flash_entry.specs.declared.found.Told.{Told}
use Rattle.flash_reply.specs.declared.command.Command.{Command}
use Rattle.flash_reply.specs.Lines.{refusal_line}
use Rattle.flash_reply.specs.Replies.{text}
use Rattle.flash_commands.specs.Parts.{Asked, Asks, Refused}
use Rattle.flash_commands.specs.Asks.{asks_of}
use Rattle.flash_session.specs.Talks.{Talk, then_talk, ends_command, talk_steps, plain_reply, talk_of, steps_of, left_of_steps, IsWhole}

pub then_assoc : (one two three : Talk) → then_talk (then_talk one two) three ≡ then_talk one (then_talk two three)
then_assoc one two three = λ i. record { asks = append_assoc one.asks two.asks three.asks i; replies = append_assoc one.replies two.replies three.replies i }

-- steps that are answered whole, with more answers after them
pub some_left : (left told : List Told) → Some told ≡ Some left → told ≡ left
some_left left told is = cc is

module _ (command : Command) (here : List Told) (rest : Talk) (after short : List Told → Talk) where
  abbrev GoesOn : List Told → Type 0
  GoesOn left = after (left ++ here) ≡ then_talk (short left) rest

  steps_by : (ask : Ask) (asks : List Ask) (step : ℕ) (answer : Told) (told left : List Told) (ends : Bool) → (if ends then Some told else left_of_steps asks told) ≡ Some left → GoesOn left
      → (left_of_steps asks told ≡ Some left → talk_steps command (step + 1) asks (told ++ here) after ≡ then_talk (talk_steps command (step + 1) asks told short) rest)
      → (if ends then after (told ++ here) else talk_steps command (step + 1) asks (told ++ here) after)
      ≡ then_talk (if ends then short told else talk_steps command (step + 1) asks told short) rest
  steps_by ask asks step answer told left true is on more = subst GoesOn (sym (some_left left told is)) on
  steps_by ask asks step answer told left false is on more = more is

  steps_go_on : (asks : List Ask) (step : ℕ) (told left : List Told) → left_of_steps asks told ≡ Some left → GoesOn left
      → talk_steps command step asks (told ++ here) after ≡ then_talk (talk_steps command step asks told short) rest
  steps_go_on [] step told left is on = subst GoesOn (sym (some_left left told is)) on
  steps_go_on (ask ∷ asks) step [] left is on = absurd (cc is)
  steps_go_on (ask ∷ asks) step (answer ∷ told) left is on =
      let first : Talk = record { asks = ask ∷ []; replies = text command step answer } in
      ap (then_talk first) (steps_by ask asks step answer told left (ends_command answer) is on (λ same. steps_go_on asks (step + 1) told left same on))
      ∙ sym (then_assoc first _ rest)

pub after_whole : (done more : List Asked) (before here : List Told) → IsWhole done before → talk_of (done ++ more) (before ++ here) ≡ then_talk (talk_of done before) (talk_of more here)
after_whole [] more before here whole = ap (λ (t : List Told). talk_of more (t ++ here)) whole
after_whole (Refused refusal ∷ done) more before here whole =
    let first : Talk = record { asks = []; replies = refusal_line refusal } in
    ap (then_talk first) (after_whole done more before here whole) ∙ sym (then_assoc first (talk_of done before) (talk_of more here))
after_whole (Asks command block ∷ done) more before here whole =
    let first : Talk = record { asks = []; replies = plain_reply command (asks_of command block) } in
    ap (then_talk first)
    (steps_go_on command here (talk_of more here) (λ left. talk_of (done ++ more) left) (λ left. talk_of done left) (asks_of command block) 1 before whole.0 whole.1 (after_whole done more whole.0 here whole.2))
    ∙ sym (then_assoc first _ (talk_of more here))

-- answers that are left are left with more after them
left_by : (asks : List Ask) (told left here : List Told) (ends : Bool) → (if ends then Some told else left_of_steps asks told) ≡ Some left
    → (left_of_steps asks told ≡ Some left → left_of_steps asks (told ++ here) ≡ Some (left ++ here)) → (if ends then Some (told ++ here) else left_of_steps asks (told ++ here)) ≡ Some (left ++ here)
left_by asks told left here true is more = ap (λ (t : List Told). Some (t ++ here)) (some_left left told is)
left_by asks told left here false is more = more is

left_on : (asks : List Ask) (told left here : List Told) → left_of_steps asks told ≡ Some left → left_of_steps asks (told ++ here) ≡ Some (left ++ here)
left_on [] told left here is = ap (λ (t : List Told). Some (t ++ here)) (some_left left told is)
left_on (ask ∷ asks) [] left here is = absurd (cc is)
left_on (ask ∷ asks) (answer ∷ told) left here is = left_by asks told left here (ends_command answer) is (left_on asks told left here)

pub whole_on : (done more : List Asked) (before here : List Told) → IsWhole done before → IsWhole more here → IsWhole (done ++ more) (before ++ here)
whole_on [] more before here whole then_whole = subst (λ (t : List Told). IsWhole more (t ++ here)) (sym whole) then_whole
whole_on (Refused refusal ∷ done) more before here whole then_whole = whole_on done more before here whole then_whole
whole_on (Asks command block ∷ done) more before here whole then_whole =
    (whole.0 ++ here, left_on (asks_of command block) before whole.0 here whole.1, whole_on done more whole.0 here whole.2 then_whole)

-- a talk that is answered whole has as many steps as answers
module _ (command : Command) (after : List Told → Talk) where
  count_by : (asks : List Ask) (step : ℕ) (told left : List Told) (ends : Bool) → (if ends then Some told else left_of_steps asks told) ≡ Some left
      → (left_of_steps asks told ≡ Some left → length (talk_steps command step asks told after).asks + length left ≡ length told + length (after left).asks)
      → length (if ends then after told else talk_steps command step asks told after).asks + length left ≡ length told + length (after left).asks
  count_by asks step told left true is more = subst (λ (l : List Told). length (after told).asks + length l ≡ length told + length (after l).asks) (some_left left told is) (omega arith)
  count_by asks step told left false is more = more is

  steps_count : (asks : List Ask) (step : ℕ) (told left : List Told) → left_of_steps asks told ≡ Some left → length (talk_steps command step asks told after).asks + length left ≡ length told + length (after left).asks
  steps_count [] step told left is = subst (λ (l : List Told). length (after told).asks + length l ≡ length told + length (after l).asks) (some_left left told is) (omega arith)
  steps_count (ask ∷ asks) step [] left is = absurd (cc is)
  steps_count (ask ∷ asks) step (answer ∷ told) left is =
      let more = count_by asks (step + 1) told left (ends_command answer) is (λ same. steps_count asks (step + 1) told left same) in omega (arith, more)

pub whole_count : (done : List Asked) (before : List Told) → IsWhole done before → length (talk_of done before).asks ≡ length before
whole_count [] before whole = sym (ap (λ (l : List Told). length l) whole)
whole_count (Refused refusal ∷ done) before whole = whole_count done before whole
whole_count (Asks command block ∷ done) before whole =
    let steps = steps_count command (λ left. talk_of done left) (asks_of command block) 1 before whole.0 whole.1 in
    let rest = whole_count done whole.0 whole.2 in
    omega (arith, steps, rest)

-- where each step had memory, the steps so far are the first ones
abbrev NoneEnds : List Told → Type 0
NoneEnds told = AllByRecursion (λ answer. ends_command answer ≡ false) told

take_none : (n : ℕ) → [] ≡ take n (let none : List Ask = [] in none)
take_none zero = refl
take_none (suc n) = refl

steps_taken : (command : Command) (after : List Told → Talk) (rest asks : List Ask) (step : ℕ) (told : List Told) → NoneEnds told
    → ((left : List Told) → NoneEnds left → (after left).asks ≡ take (length left + 1) rest) → (talk_steps command step asks told after).asks ≡ take (length told + 1) (asks ++ rest)
steps_taken command after rest [] step told none more = more told none
steps_taken command after rest (ask ∷ asks) step [] none more = refl
steps_taken command after rest (ask ∷ asks) step (answer ∷ told) none more =
    let number : suc (length told + 1) ≡ suc (length told) + 1 = omega arith in
    rw none.0 (ap (λ (l : List Ask). ask ∷ l) (steps_taken command after rest asks (step + 1) told none.1 more)) ∙ ap (λ (n : ℕ). take n (ask ∷ (asks ++ rest))) number

pub talk_taken : (asked : List Asked) (told : List Told) → NoneEnds told → (talk_of asked told).asks ≡ take (length told + 1) (steps_of asked)
talk_taken [] told none = take_none (length told + 1)
talk_taken (Refused refusal ∷ more) told none = talk_taken more told none
talk_taken (Asks command block ∷ more) told none =
    steps_taken command (λ left. talk_of more left) (steps_of more) (asks_of command block) 1 told none (λ left each. talk_taken more left each)
