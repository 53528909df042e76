-- What a session asks and says, with more bytes and more answers.
use Rattle.std.proofs.Common.{◌≡◌, ℕ, zero, suc, ◌+◌, ◌-◌, ◌<◌, Bool, true, false, List, [], ◌∷◌, ◌++◌, length, Some, if◌then◌else◌, refl, sym, ◌∙◌, ap, subst, append_assoc, arith}
use Rattle.std.specs.Prelude.{IsSome, slice_get}
use Rattle.std.specs.Option.{ForSome}
use Rattle.std.proofs.lemmas.List.{append-nil}
use mathlib.Core.List.{IsPrefix}
use Rattle.flash_entry.specs.declared.ask.Ask.{Ask}
use Rattle.flash_entry.specs.declared.entry.Entry.{Entry}
use Rattle.flash_entry.specs.declared.found.Told.{Told}
use Rattle.flash_answers.specs.Records.{entry_ask, IsOneOf, Keeps}
use Rattle.flash_reply.specs.declared.command.Command.{Command}
use Rattle.flash_commands.specs.declared.place.Place.{Place}
use Rattle.flash_commands.specs.declared.place.Place.TheVariants.{InLine, InSkip, AtQuit, TooLong}
use Rattle.flash_commands.specs.Asks.{asks_of}
use Rattle.flash_commands.specs.Commands.{line_limit, front_of, commands_of}
use Rattle.flash_commands.specs.Laws.{MoreBytesGoOn, joined}
use Rattle.flash_commands.specs.Parts.{Asked, Asks, Refused, Front, Takes, Rest, Read}
use Rattle.flash_commands.specs.Reading.{left_of}
use Rattle.flash_commands.proofs.Taking.{takes}
use Rattle.flash_session.specs.Pieces.{pieces_of, pieces_from}
use Rattle.flash_session.specs.Stands.{replies_to, front_replies, Stands}
use Rattle.flash_session.specs.States.{Session, front_now, ask_at}
use Rattle.flash_session.specs.Talks.{Talk, ends_command, talk_steps, plain_reply, talk_of}
use Rattle.flash_session.proofs.Pieces.{joined_pieces, pieces_behind, texts_joined, awaits, joined_both, go_on}
use Rattle.flash_actors.proofs.OnTime.{get_front}
use Rattle.flash_actors.proofs.Others.{all_map}

-- what comes first in a list comes first with one element more before it
one_more : {A : Type 0} (x : A) (short long : List A) → IsPrefix short long → IsPrefix (x ∷ short) (x ∷ long)
one_more x short long starts = (starts.0, ap (λ l. x ∷ l) starts.1)

-- more commands and more answers add asks after those that are there
module _ (command : Command) (here : List Told) (after longer : List Told → Talk) (on : (left : List Told) → IsPrefix (after left).asks (longer (left ++ here)).asks) where
  awaited : (step : ℕ) (ask : Ask) (asks : List Ask) (told : List Told) → IsPrefix (ask ∷ []) (talk_steps command step (ask ∷ asks) told longer).asks
  awaited step ask asks [] = ([], refl)
  awaited step ask asks (answer ∷ told) = ((if ends_command answer then longer told else talk_steps command (step + 1) asks told longer).asks, refl)

  asks_by : (step : ℕ) (asks : List Ask) (told : List Told) (ends : Bool) → IsPrefix (talk_steps command step asks told after).asks (talk_steps command step asks (told ++ here) longer).asks
      → IsPrefix (if ends then after told else talk_steps command step asks told after).asks (if ends then longer (told ++ here) else talk_steps command step asks (told ++ here) longer).asks
  asks_by step asks told true rest = on told
  asks_by step asks told false rest = rest

  asks_from : (step : ℕ) (asks : List Ask) (told : List Told) → IsPrefix (talk_steps command step asks told after).asks (talk_steps command step asks (told ++ here) longer).asks
  asks_from step [] told = on told
  asks_from step (ask ∷ asks) [] = awaited step ask asks here
  asks_from step (ask ∷ asks) (answer ∷ told) = one_more ask _ _ (asks_by (step + 1) asks told (ends_command answer) (asks_from (step + 1) asks told))

pub asks_on : (asked more : List Asked) (told here : List Told) → IsPrefix (talk_of asked told).asks (talk_of (asked ++ more) (told ++ here)).asks
asks_on [] more told here = ((talk_of more (told ++ here)).asks, refl)
asks_on (Refused refusal ∷ asked) more told here = asks_on asked more told here
asks_on (Asks command block ∷ asked) more told here =
    asks_from command here (λ left. talk_of asked left) (λ left. talk_of (asked ++ more) left) (λ left. asks_on asked more left here) 1 (asks_of command block) told

pub asks_told : (asked : List Asked) (told here : List Told) → IsPrefix (talk_of asked told).asks (talk_of asked (told ++ here)).asks
asks_told asked told here = subst (λ (a : List Asked). IsPrefix (talk_of asked told).asks (talk_of a (told ++ here)).asks) (append-nil asked) (asks_on asked [] told here)

-- a journal that keeps to asks keeps to more
pub keeps_more : (steps longer : List Ask) (pass : ℕ) (h : List Entry) → IsPrefix steps longer → Keeps steps pass h → Keeps longer pass h
keeps_more steps longer pass h starts =
    all_map (λ e. ForSome (entry_ask e) (IsOneOf pass steps)) (λ e. ForSome (entry_ask e) (IsOneOf pass longer))
    (λ e one step asked same.
    let was = one step asked same in
    let at : slice_get (steps ++ starts.0) (step.0.seq - 1) ≡ Some step.1 = get_front steps starts.0 (step.0.seq - 1) step.1 was.1 in
    (was.0, ap (λ (l : List Ask). slice_get l (step.0.seq - 1)) (sym starts.1) ∙ at)) h

-- the asks and the replies of more bytes go on
module _ (more_bytes : MoreBytesGoOn) (item_max : ℕ) (bytes more : List ℕ) (told : List Told) where
  abbrev behind : List Asked
  behind = (left_of item_max (record { skip = (commands_of item_max bytes).skip; place = (commands_of item_max bytes).place; unread = (commands_of item_max bytes).rest ++ more })).asked

  longer_asked : (commands_of item_max bytes).asked ++ behind ≡ (commands_of item_max (bytes ++ more)).asked
  longer_asked = ap (λ (read : Read). read.asked) (sym (more_bytes item_max bytes more))

  pub asks_longer : IsPrefix (talk_of (commands_of item_max bytes).asked told).asks (talk_of (commands_of item_max (bytes ++ more)).asked told).asks
  asks_longer =
      subst (λ (t : List Told). IsPrefix (talk_of (commands_of item_max bytes).asked told).asks (talk_of (commands_of item_max (bytes ++ more)).asked t).asks) (append-nil told)
      (subst (λ (a : List Asked). IsPrefix (talk_of (commands_of item_max bytes).asked told).asks (talk_of a (told ++ [])).asks) longer_asked (asks_on (commands_of item_max bytes).asked behind told []))

  pub replies_longer : IsPrefix (talk_of (commands_of item_max bytes).asked told).replies (talk_of (commands_of item_max (bytes ++ more)).asked told).replies
  replies_longer =
      let asked = (commands_of item_max bytes).asked in
      let on = go_on.asked asked behind told in (
        joined on.more,
        ap (λ (r : List ℕ). r ++ joined on.more) (sym (joined_pieces asked told)) ∙ sym (joined_both (pieces_of asked told) on.more) ∙ ap joined (sym on.parts)
            ∙ joined_pieces (asked ++ behind) told ∙ ap (λ (a : List Asked). (talk_of a told).replies) longer_asked,
      )

-- a place that has something is within the list
pub some_within : (xs : List Ask) (k : ℕ) → IsSome (slice_get xs k) → k < length xs
some_within [] k some = absurd (cc some)
some_within (x ∷ xs) zero some = omega arith
some_within (x ∷ xs) (suc k) some = omega (arith, some_within xs k some)

-- what is sent, and what is to be sent, come first in the replies
module _ (bytes : List ℕ) (told : List Told) (gone : List ℕ) (s : Session) (stands : Stands bytes told gone s) where
  abbrev item_max : ℕ
  item_max = s.reads.item_max

  abbrev Begun : List ℕ → Type 0
  Begun said = IsPrefix said (talk_of (commands_of item_max bytes).asked told).replies

  -- the replies are those to what is done, and then those to this
  replies_are : (rest : List Asked) (here : List Told) → (commands_of item_max bytes).asked ≡ stands.done ++ rest → told ≡ stands.before ++ here
      → (talk_of (commands_of item_max bytes).asked told).replies ≡ (talk_of stands.done stands.before).replies ++ joined (pieces_of rest here)
  replies_are rest here asked is =
      ap (λ (a : List Asked). (talk_of a told).replies) asked ∙ ap (λ (t : List Told). (talk_of (stands.done ++ rest) t).replies) is
      ∙ sym (joined_pieces (stands.done ++ rest) (stands.before ++ here))
      ∙ ap joined (pieces_behind stands.done rest stands.before here stands.whole) ∙ joined_both (pieces_of stands.done stands.before) (pieces_of rest here)
      ∙ ap (λ (r : List ℕ). r ++ joined (pieces_of rest here)) (joined_pieces stands.done stands.before)

  none_replied : (front : Front) → front_replies front [] ≡ []
  none_replied (Takes (Asks command block ∷ []) n next) = refl
  none_replied _ = refl

  -- without answers to the command at the front
  without : stands.here ≡ [] → Begun (gone ++ s.out)
  without none =
      let left = (left_of item_max s.reads.reader).asked in
      let all = replies_are left [] (ap (λ (read : Read). read.asked) stands.reads) (stands.told_is ∙ ap (λ (l : List Told). stands.before ++ l) none) in
      let said : gone ++ s.out ≡ (talk_of stands.done stands.before).replies =
      stands.replies
      ∙ ap (λ (r : List ℕ). (talk_of stands.done stands.before).replies ++ r) (ap (front_replies (front_now s)) none ∙ none_replied (front_now s))
      ∙ append-nil (talk_of stands.done stands.before).replies in
      (joined (pieces_of left []), ap (λ (r : List ℕ). r ++ joined (pieces_of left [])) said ∙ sym all)

  -- no bytes have no front
  none_rest : (place : Place) → front_of item_max line_limit place [] ≡ Rest
  none_rest InLine = refl
  none_rest InSkip = refl
  none_rest AtQuit = refl
  none_rest TooLong = refl

  plain_none : (command : Command) (asks : List Ask) → 0 < length asks → plain_reply command asks ≡ []
  plain_none command [] some = absurd (omega (arith, some))
  plain_none command (ask ∷ asks) some = refl

  -- with the command at the front
  module _ (command : Command) (block : List ℕ) (n : ℕ) (next : Place) (front : front_now s ≡ Takes (Asks command block ∷ []) n next) where
    skip_by : (skip : ℕ) → s.reads.reader.skip ≡ skip → s.reads.reader.skip ≡ 0
    skip_by zero is = is
    skip_by (suc skip) is =
        let none : s.reads.reader.unread ≡ [] = stands.held (omega (arith, is)) in
        let rests : Rest ≡ Takes (Asks command block ∷ []) n next = sym (none_rest s.reads.reader.place) ∙ ap (front_of item_max line_limit s.reads.reader.place) (sym none) ∙ front in
        absurd (cc rests)

    with_front : s.step < length (asks_of command block) → Begun (gone ++ s.out)
    with_front within =
        let asks = asks_of command block in
        let none = skip_by s.reads.reader.skip refl in
        let behind = (left_of item_max (record { skip = n; place = next; unread = s.reads.reader.unread })).asked in
        let asked : (commands_of item_max bytes).asked ≡ stands.done ++ (Asks command block ∷ behind) =
        ap (λ (read : Read). read.asked) (takes item_max n bytes stands.done (Asks command block ∷ []) next s.reads.reader none front stands.reads) ∙ append_assoc stands.done (Asks command block ∷ []) behind in
        let all = replies_are (Asks command block ∷ behind) stands.here asked stands.told_is in
        let step_is = stands.step in
        let texts_are : joined (pieces_of (Asks command block ∷ behind) stands.here) ≡ replies_to command 1 stands.here =
        ap (λ (p : List ℕ). p ++ joined (pieces_from command 1 asks stands.here (λ left. pieces_of behind left))) (plain_none command asks (omega (arith, within)))
        ∙ ap joined (awaits command (λ left. pieces_of behind left) 1 asks stands.here stands.going (omega (arith, within, step_is))) ∙ texts_joined command 1 stands.here in
        let said : gone ++ s.out ≡ (talk_of (commands_of item_max bytes).asked told).replies =
        stands.replies ∙ ap (λ (r : List ℕ). (talk_of stands.done stands.before).replies ++ r) (ap (λ (f : Front). front_replies f stands.here) front ∙ sym texts_are) ∙ sym all in
        ([], append-nil (gone ++ s.out) ∙ said)

  by_front : (front : Front) → front_now s ≡ front → IsSome (ask_at s.step front) → Begun (gone ++ s.out)
  by_front (Takes (Asks command block ∷ []) n next) front some = with_front command block n next front (some_within (asks_of command block) s.step some)
  by_front _ front some = absurd (cc some)

  by_here : (here : List Told) → stands.here ≡ here → Begun (gone ++ s.out)
  by_here [] is = without is
  by_here (answer ∷ here) is =
      let step_is = stands.step in
      let some : s.step ≡ length (answer ∷ here) = step_is ∙ ap (λ (l : List Told). length l) is in
      by_front (front_now s) refl (stands.started (omega (arith, some)))

  pub said_first : IsPrefix (gone ++ s.out) (talk_of (commands_of s.reads.item_max bytes).asked told).replies
  said_first = by_here stands.here refl
