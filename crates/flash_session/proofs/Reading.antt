-- A session reads a front at once, asks, and sends.
use Rattle.std.proofs.Common.{◌≡◌, ℕ, ◌-◌, ◌<◌, true, false, List, [], ◌∷◌, ◌++◌, length, drop, Some, refl, sym, ◌∙◌, ap, subst, append_assoc, arith}
use Rattle.std.specs.Prelude.{min}
use Rattle.std.proofs.lemmas.List.{append-nil}
use Rattle.flash_entry.specs.declared.ask.Ask.{Ask}
use Rattle.flash_entry.specs.declared.found.Told.{Told}
use Rattle.flash_reply.specs.declared.command.Command.{Command}
use Rattle.flash_reply.specs.Lines.{refusal_line}
use Rattle.flash_reply.specs.Replies.{plain_text}
use Rattle.flash_commands.specs.declared.place.Place.{Place}
use Rattle.flash_commands.specs.Parts.{Asked, Asks, Refused, Front, Takes}
use Rattle.flash_commands.specs.Reading.{Reader, HasRead}
use Rattle.flash_commands.specs.Asks.{asks_of}
use Rattle.flash_commands.proofs.Taking.{skips, takes}
use Rattle.flash_reader.specs.Readers.{passed_over}
use Rattle.flash_session.specs.Talks.{Talk, then_talk, plain_reply, talk_steps, talk_of, left_of_steps, IsWhole}
use Rattle.flash_session.specs.States.{Session, front_now, after_front, read_plain, read_at_once}
use Rattle.flash_session.specs.Stands.{one_if, front_replies, Stands}
use Rattle.flash_session.proofs.Talking.{after_whole, whole_on}

-- no answers have no replies, whatever the front is
pub none_replied : (front : Front) → front_replies front [] ≡ []
none_replied (Takes (Asks command block ∷ []) n next) = refl
none_replied _ = refl

pub no_answers : (here : List Told) → length here ≡ 0 → here ≡ []
no_answers [] none = refl
no_answers (answer ∷ here) none = absurd (omega (arith, none))

-- bytes that are skipped are passed over
pub passes : (item_max : ℕ) (bytes : List ℕ) (given : List Asked) (reader : Reader) → HasRead item_max bytes given reader → HasRead item_max bytes given (passed_over reader)
passes item_max bytes given reader has =
    skips item_max (min reader.skip (length reader.unread)) bytes given reader (omega arith) (omega arith) has

-- where bytes are yet to be skipped none is unread
none_left : (n : ℕ) (xs : List ℕ) → 0 < n - min n (length xs) → drop (min n (length xs)) xs ≡ []
none_left n xs more = let all : min n (length xs) ≡ length xs = omega (arith, more) in ap (λ (k : ℕ). drop k xs) all ∙ dropped xs
  where
    dropped : (xs : List ℕ) → drop (length xs) xs ≡ []
    dropped [] = refl
    dropped (x ∷ xs) = dropped xs

pub held_over : (reader : Reader) → 0 < (passed_over reader).skip → (passed_over reader).unread ≡ []
held_over reader more = none_left reader.skip reader.unread more

-- a session without answers to the command at its front, which takes the front, and replies to it
module _ (bytes : List ℕ) (told : List Told) (gone : List ℕ) (s : Session) (stands : Stands bytes told gone s) (none : s.reads.reader.skip ≡ 0) (first : s.step ≡ 0) (free : s.owed ≡ false) where
  pub here_none : stands.here ≡ []
  here_none = no_answers stands.here (sym stands.step ∙ first)

  told_before : told ≡ stands.before
  told_before = stands.told_is ∙ ap (λ (h : List Told). stands.before ++ h) here_none ∙ append-nil stands.before

  pub said_so_far : gone ++ s.out ≡ (talk_of stands.done stands.before).replies
  said_so_far =
      stands.replies ∙ ap (λ (h : List Told). (talk_of stands.done stands.before).replies ++ front_replies (front_now s) h) here_none
      ∙ ap (λ (r : List ℕ). (talk_of stands.done stands.before).replies ++ r) (none_replied (front_now s)) ∙ append-nil (talk_of stands.done stands.before).replies

  last_so_far : s.last ≡ length (talk_of stands.done stands.before).asks
  last_so_far =
      let counted = stands.last in
      let here : length stands.here ≡ 0 = sym stands.step ∙ first in
      let owes : one_if s.owed ≡ 0 = ap one_if free in
      omega (arith, counted, here, owes)

  -- what was asked more, whose answers are none and whose replies are these
  pub takes_front : (asked : List Asked) (n : ℕ) (next : Place) (reply : List ℕ) → front_now s ≡ Takes asked n next → IsWhole asked [] → talk_of asked [] ≡ record { asks = []; replies = reply }
      → Stands bytes told gone (after_front s n next reply)
  takes_front asked n next reply front whole talk =
      let both : talk_of (stands.done ++ asked) stands.before ≡ then_talk (talk_of stands.done stands.before) (record { asks = []; replies = reply }) =
      (ap (talk_of (stands.done ++ asked)) (sym (append-nil stands.before)) ∙ after_whole stands.done asked stands.before [] stands.whole
      ∙ ap (then_talk (talk_of stands.done stands.before)) talk) in
      record {
        done = stands.done ++ asked;
        before = stands.before;
        here = [];
        told_is = told_before ∙ sym (append-nil stands.before);
        reads = passes s.reads.item_max bytes (stands.done ++ asked) (record { skip = n; place = next; unread = s.reads.reader.unread })
            (takes s.reads.item_max n bytes stands.done asked next s.reads.reader none front stands.reads);
        held = held_over (record { skip = n; place = next; unread = s.reads.reader.unread });
        whole = subst (IsWhole (stands.done ++ asked)) (append-nil stands.before) (whole_on stands.done asked stands.before [] stands.whole whole);
        step = refl;
        going = tt;
        started = λ some. absurd (omega (arith, some));
        owed = λ owes. absurd (let no : true ≡ false = sym owes ∙ free in cc no);
        last =
            let asks : (talk_of (stands.done ++ asked) stands.before).asks ≡ (talk_of stands.done stands.before).asks = ap (λ (t : Talk). t.asks) both ∙ append-nil (talk_of stands.done stands.before).asks in
            let same : length (talk_of (stands.done ++ asked) stands.before).asks ≡ length (talk_of stands.done stands.before).asks = ap (λ (l : List Ask). length l) asks in
            let owes : one_if s.owed ≡ 0 = ap one_if free in
            let so_far = last_so_far in
            omega (arith, so_far, same, owes);
        replies =
            sym (append_assoc gone s.out reply) ∙ ap (λ (said : List ℕ). said ++ reply) said_so_far
            ∙ sym (ap (λ (t : Talk). t.replies) both)
            ∙ sym (append-nil (talk_of (stands.done ++ asked) stands.before).replies)
            ∙ ap (λ (r : List ℕ). (talk_of (stands.done ++ asked) stands.before).replies ++ r) (sym (none_replied (front_now (after_front s n next reply))));
      }

  plain_by : (command : Command) (block : List ℕ) (asks : List Ask) (n : ℕ) (place : Place) (next : Session) → asks_of command block ≡ asks → front_now s ≡ Takes (Asks command block ∷ []) n place
      → read_plain s command asks n place ≡ Some next → Stands bytes told gone next
  plain_by command block [] n place next is front read =
      let same : after_front s n place (plain_text command) ≡ next = cc read in
      subst (Stands bytes told gone) same
      (takes_front (Asks command block ∷ []) n place (plain_text command) front ([], ap (λ (l : List Ask). left_of_steps l []) is, refl)
      (ap (λ (l : List Ask). then_talk (record { asks = []; replies = plain_reply command l }) (talk_steps command 1 l [] (λ left. talk_of [] left))) is
      ∙ (λ i. record { asks = []; replies = append-nil (plain_text command) i })))
  plain_by command block (ask ∷ asks) n place next is front read = absurd (cc read)

  pub reads_by : (front : Front) (next : Session) → front_now s ≡ front → read_at_once s front ≡ Some next → Stands bytes told gone next
  reads_by (Takes [] n place) next front read =
      let same : after_front s n place [] ≡ next = cc read in
      subst (Stands bytes told gone) same (takes_front [] n place [] front refl refl)
  reads_by (Takes (Refused refusal ∷ []) n place) next front read =
      let same : after_front s n place (refusal_line refusal) ≡ next = cc read in
      subst (Stands bytes told gone) same
      (takes_front (Refused refusal ∷ []) n place (refusal_line refusal) front refl (λ i. record { asks = []; replies = append-nil (refusal_line refusal) i }))
  reads_by (Takes (Asks command block ∷ []) n place) next front read = plain_by command block (asks_of command block) n place next refl front read
  reads_by _ next front read = absurd (cc read)
