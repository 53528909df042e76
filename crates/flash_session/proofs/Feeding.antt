-- A session is fed.
use Rattle.std.proofs.Common.{◌≡◌, ℕ, List, [], ◌∷◌, ◌++◌, length, drop, sym, ◌∙◌, ap, subst, arith}
use Rattle.std.specs.Prelude.{min, IsSome}
use Rattle.flash_entry.specs.declared.found.Told.{Told}
use Rattle.flash_commands.specs.Parts.{Front, Takes, Rest}
use Rattle.flash_commands.specs.Commands.{line_limit, front_of}
use Rattle.flash_commands.proofs.Fronts.{FrontStays, front_stays}
use Rattle.flash_commands.proofs.Going.{is_fed}
use Rattle.flash_reader.specs.Readers.{fed}
use Rattle.flash_session.specs.Talks.{talk_of}
use Rattle.flash_session.specs.States.{Session, front_now, ask_at}
use Rattle.flash_session.specs.Stands.{front_replies, Stands}
use Rattle.flash_session.proofs.Resting.{none_asked, asked_none_skipped}
use Rattle.flash_session.proofs.Reading.{none_replied, passes, held_over}

-- a front at which a step is asked stays
asked_stays : (step : ℕ) (front longer : Front) → FrontStays front longer → IsSome (ask_at step front) → longer ≡ front
asked_stays step (Takes asked n place) longer stays some = stays
asked_stays step Rest longer stays some = absurd (none_asked some)

module _ (bytes more : List ℕ) (told : List Told) (gone : List ℕ) (s : Session) (stands : Stands bytes told gone s) where
  abbrev pub after : Session
  after = record s { reads = record s.reads { reader = fed s.reads.reader more } }

  pub stays : IsSome (ask_at s.step (front_now s)) → front_now after ≡ front_now s
  stays some =
      let none = asked_none_skipped bytes told gone s stands some in
      let same : min s.reads.reader.skip (length (s.reads.reader.unread ++ more)) ≡ 0 = omega (arith, none) in
      let front : front_now after ≡ front_of s.reads.item_max line_limit s.reads.reader.place (s.reads.reader.unread ++ more) =
      ap (λ (k : ℕ). front_of s.reads.item_max line_limit s.reads.reader.place (drop k (s.reads.reader.unread ++ more))) same in
      front ∙ asked_stays s.step (front_now s) (front_of s.reads.item_max line_limit s.reads.reader.place (s.reads.reader.unread ++ more))
      (front_stays s.reads.item_max line_limit s.reads.reader.place s.reads.reader.unread more) some

  replied_by : (here : List Told) → s.step ≡ length here → front_replies (front_now after) here ≡ front_replies (front_now s) here
  replied_by [] step = none_replied (front_now after) ∙ sym (none_replied (front_now s))
  replied_by (answer ∷ here) step = ap (λ (f : Front). front_replies f (answer ∷ here)) (stays (stands.started (omega (arith, step))))

  pub feeds : Stands (bytes ++ more) told gone after
  feeds = record {
    done = stands.done;
    before = stands.before;
    here = stands.here;
    told_is = stands.told_is;
    reads = passes s.reads.item_max (bytes ++ more) stands.done (record s.reads.reader { unread = s.reads.reader.unread ++ more }) (is_fed s.reads.item_max bytes more stands.done s.reads.reader stands.reads);
    held = held_over (record s.reads.reader { unread = s.reads.reader.unread ++ more });
    whole = stands.whole;
    step = stands.step;
    going = stands.going;
    started = λ some. subst (λ (f : Front). IsSome (ask_at s.step f)) (sym (stays (stands.started some))) (stands.started some);
    owed = λ owes. subst (λ (f : Front). IsSome (ask_at s.step f)) (sym (stays (stands.owed owes))) (stands.owed owes);
    last = stands.last;
    replies = stands.replies ∙ ap (λ (r : List ℕ). (talk_of stands.done stands.before).replies ++ r) (sym (replied_by stands.here stands.step));
  }
