-- Where a session stands, by its front.
use Rattle.std.proofs.Common.{◌≡◌, ℕ, zero, suc, ◌<◌, ◌≤◌, true, false, Bool, List, [], ◌∷◌, length, drop, Option, None, Some, refl, ◌∙◌, ap, subst, arith, length-drop}
use Rattle.std.specs.Prelude.{min, slice_get, IsSome}
use Rattle.flash_entry.specs.declared.ask.Ask.{Ask}
use Rattle.flash_entry.specs.declared.found.Told.{Told}
use Rattle.flash_reply.specs.declared.command.Command.{Command}
use Rattle.flash_reply.specs.Lines.{refusal_line}
use Rattle.flash_reply.specs.Replies.{plain_text}
use Rattle.flash_commands.specs.declared.place.Place.{Place}
use Rattle.flash_commands.specs.declared.place.Place.TheVariants.{InLine, InSkip, AtQuit, TooLong}
use Rattle.flash_commands.specs.Parts.{Asked, Asks, Refused, Front, Takes, Rest, Read}
use Rattle.flash_commands.specs.Commands.{line_limit, front_of, after_front, read_from}
use Rattle.flash_commands.specs.Asks.{asks_of}
use Rattle.flash_commands.proofs.Going.{unread}
use Rattle.flash_commands.proofs.Taking.{has_a_byte}
use Rattle.flash_session.specs.States as states
use Rattle.flash_session.specs.States.{Session, front_now, read_plain, read_at_once, ask_at}
use Rattle.flash_session.specs.Stands.{Stands}

pub none_asked : IsSome (let none : Option Ask = None in none) → ⊥
none_asked some = cc

-- no bytes are a rest
none_rests : (item_max : ℕ) (place : Place) → front_of item_max line_limit place [] ≡ Rest
none_rests item_max InLine = refl
none_rests item_max InSkip = refl
none_rests item_max AtQuit = refl
none_rests item_max TooLong = refl

-- a rest asks nothing, and leaves the place
pub record AsksNothing (read : Read) (place : Place) : Type 0 where
  pub asked : read.asked ≡ []
  pub stays : read.place ≡ place

pub rest_read : (item_max skip : ℕ) (place : Place) (bytes : List ℕ) → (0 < skip → bytes ≡ []) → front_of item_max line_limit place bytes ≡ Rest → AsksNothing (read_from item_max line_limit skip place bytes) place
rest_read item_max skip place [] held rest = record { asked = refl; stays = refl }
rest_read item_max zero place (b ∷ bytes) held rest =
    let on = λ (f : Front). after_front f (λ skip next. read_from item_max line_limit skip next bytes) (unread item_max line_limit place (b ∷ bytes)) in
    record { asked = ap (λ (f : Front). (on f).asked) rest; stays = ap (λ (f : Front). (on f).place) rest }
rest_read item_max (suc skip) place (b ∷ bytes) held rest = absurd (let none : b ∷ bytes ≡ [] = held (omega arith) in cc none)

-- a front that is read at once asks no step
plain_asks_none : (s next : Session) (command : Command) (asks : List Ask) (n : ℕ) (place : Place) (step : ℕ) → read_plain s command asks n place ≡ Some next → IsSome (slice_get asks step) → ⊥
plain_asks_none s next command [] n place step read some = none_asked some
plain_asks_none s next command (ask ∷ asks) n place step read some = absurd (cc read)

at_once_asks_none : (s next : Session) (front : Front) (step : ℕ) → read_at_once s front ≡ Some next → IsSome (ask_at step front) → ⊥
at_once_asks_none s next (Takes (Asks command block ∷ []) n place) step read some = plain_asks_none s next command (asks_of command block) n place step read some
at_once_asks_none s next _ step read some = none_asked some

pub not_started : (step : ℕ) → (0 < step → ⊥) → step ≡ 0
not_started zero never = omega arith
not_started (suc step) never = absurd (never (omega arith))

not_owed : (owed : Bool) → (owed ≡ true → ⊥) → owed ≡ false
not_owed true never = absurd (never refl)
not_owed false never = refl

module _ (bytes : List ℕ) (told : List Told) (gone : List ℕ) (s : Session) (stands : Stands bytes told gone s) where
  -- where bytes are yet to be skipped there is no front
  none_by : (skip : ℕ) → s.reads.reader.skip ≡ skip → (front_now s ≡ Rest → ⊥) → s.reads.reader.skip ≡ 0
  none_by zero is more = is
  none_by (suc skip) is more =
      let none : s.reads.reader.unread ≡ [] = stands.held (omega (arith, is)) in
      absurd (more (ap (front_of s.reads.item_max line_limit s.reads.reader.place) none ∙ none_rests s.reads.item_max s.reads.reader.place))

  pub none_skipped : (front_now s ≡ Rest → ⊥) → s.reads.reader.skip ≡ 0
  none_skipped more = none_by s.reads.reader.skip refl more

  -- so it is where a step is asked
  pub asked_none_skipped : IsSome (ask_at s.step (front_now s)) → s.reads.reader.skip ≡ 0
  asked_none_skipped some = none_skipped (λ rest. none_asked (subst (λ (f : Front). IsSome (ask_at s.step f)) rest some))

  -- at a rest no step was answered
  pub rest_step : front_now s ≡ Rest → s.step ≡ 0
  rest_step rest = not_started s.step (λ some. none_asked (subst (λ (f : Front). IsSome (ask_at s.step f)) rest (stands.started some)))

  module _ (next : Session) (read : read_at_once s (front_now s) ≡ Some next) where
    rest_isn_t_read : front_now s ≡ Rest → ⊥
    rest_isn_t_read rest = let none : read_at_once s Rest ≡ Some next = subst (λ (f : Front). read_at_once s f ≡ Some next) rest read in cc none

    pub read_none_skipped : s.reads.reader.skip ≡ 0
    read_none_skipped = none_skipped rest_isn_t_read

    pub read_step : s.step ≡ 0
    read_step = not_started s.step (λ some. at_once_asks_none s next (front_now s) s.step read (stands.started some))

    pub read_free : s.owed ≡ false
    read_free = not_owed s.owed (λ owes. at_once_asks_none s next (front_now s) s.step read (stands.owed owes))

-- a front that is read at once leaves fewer bytes
fewer_by : (n : ℕ) (xs : List ℕ) → 1 ≤ n → 1 ≤ length xs → length (drop (min n (length xs)) xs) < length xs
fewer_by n xs one some = let left = length-drop (min n (length xs)) xs in omega (arith, left, one, some)

module _ (s : Session) where
  after_fewer : (asked : List Asked) (n : ℕ) (place : Place) (reply : List ℕ) → front_now s ≡ Takes asked n place → length (states.after_front s n place reply).reads.reader.unread < length s.reads.reader.unread
  after_fewer asked n place reply front =
      let some = has_a_byte s.reads.item_max line_limit (omega arith) n asked s.reads.reader.place place s.reads.reader.unread front in
      fewer_by n s.reads.reader.unread some.0 some.1

  abbrev IsFewer : Session → Type 0
  IsFewer next = length next.reads.reader.unread < length s.reads.reader.unread

  plain_fewer : (next : Session) (command : Command) (block : List ℕ) (asks : List Ask) (n : ℕ) (place : Place) → front_now s ≡ Takes (Asks command block ∷ []) n place → read_plain s command asks n place ≡ Some next → IsFewer next
  plain_fewer next command block [] n place front read =
      let same : states.after_front s n place (plain_text command) ≡ next = cc read in
      subst IsFewer same (after_fewer (Asks command block ∷ []) n place (plain_text command) front)
  plain_fewer next command block (ask ∷ asks) n place front read = absurd (cc read)

  pub fewer : (next : Session) (front : Front) → front_now s ≡ front → read_at_once s front ≡ Some next → length next.reads.reader.unread < length s.reads.reader.unread
  fewer next (Takes [] n place) front read =
      let same : states.after_front s n place [] ≡ next = cc read in subst IsFewer same (after_fewer [] n place [] front)
  fewer next (Takes (Refused refusal ∷ []) n place) front read =
      let same : states.after_front s n place (refusal_line refusal) ≡ next = cc read in
      subst IsFewer same (after_fewer (Refused refusal ∷ []) n place (refusal_line refusal) front)
  fewer next (Takes (Asks command block ∷ []) n place) front read = plain_fewer next command block (asks_of command block) n place front read
  fewer next _ front read = absurd (cc read)
