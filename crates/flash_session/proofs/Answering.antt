-- A session is told an answer.
use Rattle.std.proofs.Common.{◌≡◌, ℕ, zero, suc, ◌+◌, ◌<◌, Bool, true, false, List, [], ◌∷◌, ◌++◌, length, Option, None, Some, if◌then◌else◌, refl, sym, ◌∙◌, ap, subst, append_assoc, arith}
use Rattle.std.specs.Prelude.{IsSome, slice_get, nat_le}
use Rattle.std.specs.List.{AllByRecursion}
use Rattle.std.proofs.lemmas.List.{append-nil, length-append}
use Rattle.std.proofs.lemmas.Bool.Decides.{nat_tests}
use Rattle.flash_entry.specs.declared.ask.Ask.{Ask}
use Rattle.flash_entry.specs.declared.found.Told.{Told}
use Rattle.flash_reply.specs.declared.command.Command.{Command}
use Rattle.flash_reply.specs.Replies.{text}
use Rattle.flash_commands.specs.declared.place.Place.{Place}
use Rattle.flash_commands.specs.Parts.{Asks, Front, Takes}
use Rattle.flash_commands.specs.Asks.{asks_of}
use Rattle.flash_commands.proofs.Taking.{takes}
use Rattle.flash_session.specs.Talks.{Talk, then_talk, ends_command, talk_steps, plain_reply, talk_of, left_of_steps, IsWhole}
use Rattle.flash_session.specs.States.{Session, front_now, after_front, ask_at, is_done, told_at}
use Rattle.flash_session.specs.Stands.{one_if, replies_to, front_replies, Stands}
use Rattle.flash_session.proofs.Talking.{after_whole, whole_on}
use Rattle.flash_session.proofs.Reading.{none_replied, passes, held_over}

-- the replies to steps with one more
pub replies_more : (command : Command) (step : ℕ) (here : List Told) (answer : Told) → replies_to command step (here ++ answer ∷ []) ≡ replies_to command step here ++ text command (step + length here) answer
replies_more command step [] answer = append-nil (text command step answer) ∙ (let same : step ≡ step + 0 = omega arith in ap (λ (n : ℕ). text command n answer) same)
replies_more command step (first ∷ here) answer =
    let same : step + 1 + length here ≡ step + suc (length here) = omega arith in
    ap (λ (r : List ℕ). text command step first ++ r) (replies_more command (step + 1) here answer ∙ ap (λ (n : ℕ). replies_to command (step + 1) here ++ text command n answer) same)
    ∙ sym (append_assoc (text command step first) (replies_to command (step + 1) here) (text command (step + suc (length here)) answer))

pub length_more : (here : List Told) (answer : Told) → length (here ++ answer ∷ []) ≡ length here + 1
length_more [] answer = refl
length_more (first ∷ here) answer = let rest = length_more here answer in omega (arith, rest)

pub going_more : (here : List Told) (answer : Told) → AllByRecursion (λ answer. ends_command answer ≡ false) here → ends_command answer ≡ false → AllByRecursion (λ answer. ends_command answer ≡ false) (here ++ answer ∷ [])
going_more [] answer going last = (last, tt)
going_more (first ∷ here) answer going last = (going.0, going_more here answer going.1 last)

-- a command that is done: the answer ends it, or it is that to its last step
abbrev Ends : List Ask → List Told → Told → Type 0
Ends asks here answer = (is_done answer (length here + 1) asks ≡ true) × (length here < length asks)

-- the talk of a command that is done
record Finishes (command : Command) (step : ℕ) (asks : List Ask) (here : List Told) (answer : Told) (after : List Told → Talk) : Type 0 where
  left : left_of_steps asks (here ++ answer ∷ []) ≡ Some []
  replies : (talk_steps command step asks (here ++ answer ∷ []) after).replies ≡ replies_to command step (here ++ answer ∷ []) ++ (after []).replies
  count : length (talk_steps command step asks (here ++ answer ∷ []) after).asks ≡ length here + 1 + length (after []).asks

module _ (command : Command) (after : List Told → Talk) where
  -- the last step, by whether its answer ends the command
  last_by : (step : ℕ) (ask : Ask) (asks : List Ask) (answer : Told) (ends : Bool) → ends_command answer ≡ ends → (if ends then true else nat_le (suc (length asks)) 1) ≡ true → Finishes command step (ask ∷ asks) [] answer after
  last_by step ask asks answer true is done = record {
    left = rw is refl;
    replies = rw is (ap (λ (r : List ℕ). r ++ (after []).replies) (sym (append-nil (text command step answer))));
    count = rw is (omega arith);
  }
  last_by step ask [] answer false is done = record {
    left = rw is refl;
    replies = rw is (ap (λ (r : List ℕ). r ++ (after []).replies) (sym (append-nil (text command step answer))));
    count = rw is (omega arith);
  }
  last_by step ask (other ∷ asks) answer false is done = absurd (let low : nat_le (suc (suc (length asks))) 1 ≡ false = grind (arith, nat_tests) in let no : true ≡ false = sym done ∙ low in cc no)

  finishes : (step : ℕ) (asks : List Ask) (here : List Told) (answer : Told) → AllByRecursion (λ answer. ends_command answer ≡ false) here → length here < length asks
      → is_done answer (length here + 1) asks ≡ true → Finishes command step asks here answer after
  finishes step [] here answer going within done = absurd (omega (arith, within))
  finishes step (ask ∷ asks) [] answer going within done = last_by step ask asks answer (ends_command answer) refl done
  finishes step (ask ∷ asks) (first ∷ here) answer going within done =
      let shorter : nat_le (length asks) (length here + 1) ≡ nat_le (suc (length asks)) (suc (length here) + 1) = grind (arith, nat_tests) in
      let rest = finishes (step + 1) asks here answer going.1 (omega (arith, within)) (ap (λ (b : Bool). if ends_command answer then true else b) shorter ∙ done) in
      let count = rest.count in
      record {
        left = rw going.0 rest.left;
        replies = rw going.0 (ap (λ (r : List ℕ). text command step first ++ r) rest.replies ∙ sym (append_assoc (text command step first) (replies_to command (step + 1) (here ++ answer ∷ [])) (after []).replies));
        count = rw going.0 (omega (arith, count));
      }

-- a place in a list that has something is within it
pub some_within : (asks : List Ask) (step : ℕ) → IsSome (slice_get asks step) → step < length asks
some_within [] step some = absurd (none_some some)
  where
    none_some : IsSome (let none : Option Ask = None in none) → ⊥
    none_some is = cc
some_within (ask ∷ asks) zero some = omega arith
some_within (ask ∷ asks) (suc step) some = let rest = some_within asks step some in omega (arith, rest)

-- and each place within it has something
some_there : (asks : List Ask) (step : ℕ) → step < length asks → IsSome (slice_get asks step)
some_there [] step less = absurd (omega (arith, less))
some_there (ask ∷ asks) zero less = refl
some_there (ask ∷ asks) (suc step) less = some_there asks step (omega (arith, less))

module _ (bytes : List ℕ) (told : List Told) (gone : List ℕ) (s : Session) (stands : Stands bytes told gone s) (none : s.reads.reader.skip ≡ 0) (owes : s.owed ≡ true) (answer : Told) where
  module _ (command : Command) (block : List ℕ) (n : ℕ) (next : Place) (front : front_now s ≡ Takes (Asks command block ∷ []) n next) where
    abbrev asks : List Ask
    asks = asks_of command block

    within : s.step < length asks
    within = some_within asks s.step (subst (λ (f : Front). IsSome (ask_at s.step f)) front (stands.owed owes))

    told_more : told ++ answer ∷ [] ≡ stands.before ++ (stands.here ++ answer ∷ [])
    told_more = ap (λ (t : List Told). t ++ answer ∷ []) stands.told_is ∙ append_assoc stands.before stands.here (answer ∷ [])

    abbrev reply : List ℕ
    reply = text command (s.step + 1) answer

    -- the replies to the command so far, and this one
    said_more : gone ++ (s.out ++ reply) ≡ (talk_of stands.done stands.before).replies ++ replies_to command 1 (stands.here ++ answer ∷ [])
    said_more =
        let number : 1 + length stands.here ≡ s.step + 1 = (let step = stands.step in omega (arith, step)) in
        sym (append_assoc gone s.out reply)
        ∙ ap (λ (said : List ℕ). said ++ reply) (stands.replies ∙ ap (λ (f : Front). (talk_of stands.done stands.before).replies ++ front_replies f stands.here) front)
        ∙ append_assoc (talk_of stands.done stands.before).replies (replies_to command 1 stands.here) reply
        ∙ ap (λ (r : List ℕ). (talk_of stands.done stands.before).replies ++ r)
        (ap (λ (k : ℕ). replies_to command 1 stands.here ++ text command k answer) (sym number) ∙ sym (replies_more command 1 stands.here answer))

    -- more steps of the command are left
    more_left : ends_command answer ≡ false → s.step + 1 < length asks → IsSome (slice_get asks (s.step + 1)) → Stands bytes (told ++ answer ∷ []) gone (record s { owed = false; step = s.step + 1; out = s.out ++ reply })
    more_left goes less some = record {
      done = stands.done;
      before = stands.before;
      here = stands.here ++ answer ∷ [];
      told_is = told_more;
      reads = stands.reads;
      held = stands.held;
      whole = stands.whole;
      step = (let step = stands.step in let more = length_more stands.here answer in omega (arith, step, more));
      going = going_more stands.here answer stands.going goes;
      started = λ positive. subst (λ (f : Front). IsSome (ask_at (s.step + 1) f)) (sym front) some;
      owed = λ no. absurd (cc no);
      last =
          let counted = stands.last in
          let owed_one : one_if s.owed ≡ 1 = ap one_if owes in
          let more = length_more stands.here answer in
          omega (arith, counted, owed_one, more);
      replies = said_more ∙ sym (ap (λ (f : Front). (talk_of stands.done stands.before).replies ++ front_replies f (stands.here ++ answer ∷ [])) front);
    }

    -- the command is done
    all_done : is_done answer (s.step + 1) asks ≡ true → Stands bytes (told ++ answer ∷ []) gone (record (after_front s n next reply) { owed = false })
    all_done done =
        let here2 = stands.here ++ answer ∷ [] in
        let step_is = stands.step in
        let is_last : is_done answer (length stands.here + 1) asks ≡ true = subst (λ (k : ℕ). is_done answer (k + 1) asks ≡ true) step_is done in
        let less : length stands.here < length asks = subst (λ (k : ℕ). k < length asks) step_is within in
        let ends = finishes command (λ left. talk_of [] left) 1 asks stands.here answer stands.going less is_last in
        let whole_one : IsWhole (Asks command block ∷ []) here2 = ([], ends.left, refl) in
        let both : talk_of (stands.done ++ Asks command block ∷ []) (stands.before ++ here2) ≡ then_talk (talk_of stands.done stands.before) (talk_of (Asks command block ∷ []) here2) =
        after_whole stands.done (Asks command block ∷ []) stands.before here2 stands.whole in
        record {
          done = stands.done ++ Asks command block ∷ [];
          before = stands.before ++ here2;
          here = [];
          told_is = told_more ∙ sym (append-nil (stands.before ++ here2));
          reads = passes s.reads.item_max bytes (stands.done ++ Asks command block ∷ []) (record { skip = n; place = next; unread = s.reads.reader.unread })
              (takes s.reads.item_max n bytes stands.done (Asks command block ∷ []) next s.reads.reader none front stands.reads);
          held = held_over (record { skip = n; place = next; unread = s.reads.reader.unread });
          whole = whole_on stands.done (Asks command block ∷ []) stands.before here2 stands.whole whole_one;
          step = refl;
          going = tt;
          started = λ some. absurd (omega (arith, some));
          owed = λ no. absurd (cc no);
          last =
              let counted = stands.last in
              let owed_one : one_if s.owed ≡ 1 = ap one_if owes in
              let one = ends.count in
              let sum : length (talk_of (stands.done ++ Asks command block ∷ []) (stands.before ++ here2)).asks ≡ length (talk_of stands.done stands.before).asks + length (talk_of (Asks command block ∷ []) here2).asks =
              (ap (λ (t : Talk). length t.asks) both ∙ length-append (talk_of stands.done stands.before).asks (talk_of (Asks command block ∷ []) here2).asks) in
              omega (arith, counted, owed_one, one, sum);
          replies =
              said_more
              ∙ ap (λ (r : List ℕ). (talk_of stands.done stands.before).replies ++ r) (sym (append-nil (replies_to command 1 here2)) ∙ sym ends.replies ∙ said_after)
              ∙ sym (ap (λ (t : Talk). t.replies) both)
              ∙ sym (append-nil (talk_of (stands.done ++ Asks command block ∷ []) (stands.before ++ here2)).replies)
              ∙ ap (λ (r : List ℕ). (talk_of (stands.done ++ Asks command block ∷ []) (stands.before ++ here2)).replies ++ r)
              (sym (none_replied (front_now (record (after_front s n next reply) { owed = false }))));
        }
      where
        said_after : (talk_steps command 1 asks (stands.here ++ answer ∷ []) (λ left. talk_of [] left)).replies ≡ (talk_of (Asks command block ∷ []) (stands.here ++ answer ∷ [])).replies
        said_after = plain_none asks within
          where
            plain_none : (l : List Ask) → s.step < length l → (talk_steps command 1 l (stands.here ++ answer ∷ []) (λ left. talk_of [] left)).replies
                ≡ (then_talk (record { asks = []; replies = plain_reply command l }) (talk_steps command 1 l (stands.here ++ answer ∷ []) (λ left. talk_of [] left))).replies
            plain_none [] less = absurd (omega (arith, less))
            plain_none (ask ∷ l) less = refl

    -- by whether the command is done
    goes_by : (ends done : Bool) → ends_command answer ≡ ends → (if ends then true else nat_le (length asks) (s.step + 1)) ≡ done → is_done answer (s.step + 1) asks ≡ done
        → Stands bytes (told ++ answer ∷ []) gone (if done then record (after_front s n next reply) { owed = false } else record s { owed = false; step = s.step + 1; out = s.out ++ reply })
    goes_by ends true is sized done = all_done done
    goes_by true false is sized done = absurd (cc sized)
    goes_by false false is sized done =
        let less : s.step + 1 < length asks = grind (arith, nat_tests, sized) in more_left is less (some_there asks (s.step + 1) less)

    goes : Stands bytes (told ++ answer ∷ []) gone (told_at s (Takes (Asks command block ∷ []) n next) answer)
    goes = goes_by (ends_command answer) (is_done answer (s.step + 1) asks) refl refl refl

  none_asked : IsSome (let none : Option Ask = None in none) → ⊥
  none_asked some = cc

  pub answered : (front : Front) → front_now s ≡ front → Stands bytes (told ++ answer ∷ []) gone (told_at s front answer)
  answered (Takes (Asks command block ∷ []) n next) front = goes command block n next front
  answered _ front = absurd (none_asked (subst (λ (f : Front). IsSome (ask_at s.step f)) front (stands.owed owes)))
