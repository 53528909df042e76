-- A session that reads on.
use Rattle.std.proofs.Common.{◌≡◌, ℕ, ◌+◌, true, List, [], ◌∷◌, Some, refl, sym, ◌∙◌, ap, subst}
use Rattle.flash_entry.specs.declared.ask.Ask.{Ask}
use Rattle.flash_reply.specs.declared.command.Command.{Command}
use Rattle.flash_reply.specs.Lines.{refusal_line}
use Rattle.flash_reply.specs.Replies.{plain_text}
use Rattle.flash_commands.specs.declared.place.Place.{Place}
use Rattle.flash_commands.specs.Parts.{Asks, Refused, Front, Takes}
use Rattle.flash_commands.specs.Asks.{asks_of}
use Rattle.flash_session.specs.Laws.{AReadGoesOn, AnAskGoesOn}
use Rattle.flash_session.specs.PieceLaws.{AReadHoldsAPiece}
use Rattle.flash_session.specs.States.{Session, front_now, after_front, read_plain, read_at_once, ask_at}
use Rattle.flash_session.specs.Stands.{Stands}
use Rattle.flash_session.specs.Todos.{HasReadOn, IsFree, IsNext, IsCounted, Needs}
use Rattle.flash_session.specs.declared.todo.Todo.{Todo}
use Rattle.flash_session.specs.declared.todo.Todo.TheVariants.{Write, Wait, Do, Closed, Input}

-- what reading a front leaves
record Leaves (s next : Session) : Type 0 where
  pass : next.pass ≡ s.pass
  item_max : next.reads.item_max ≡ s.reads.item_max
  owed : next.owed ≡ s.owed
  last : next.last ≡ s.last

module _ (s next : Session) where
  after_leaves : (n : ℕ) (place : Place) (reply : List ℕ) → after_front s n place reply ≡ next → Leaves s next
  after_leaves n place reply same = subst (Leaves s) same (record { pass = refl; item_max = refl; owed = refl; last = refl })

  plain_leaves : (command : Command) (asks : List Ask) (n : ℕ) (place : Place) → read_plain s command asks n place ≡ Some next → Leaves s next
  plain_leaves command [] n place read = after_leaves n place (plain_text command) (cc read)
  plain_leaves command (ask ∷ asks) n place read = absurd (cc read)

  leaves : (front : Front) → read_at_once s front ≡ Some next → Leaves s next
  leaves (Takes [] n place) read = after_leaves n place [] (cc read)
  leaves (Takes (Refused refusal ∷ []) n place) read = after_leaves n place (refusal_line refusal) (cc read)
  leaves (Takes (Asks command block ∷ []) n place) read = plain_leaves command (asks_of command block) n place read
  leaves _ read = absurd (cc read)

-- one front more
pub reads_more : (first s next : Session) → AReadGoesOn → AReadHoldsAPiece → HasReadOn first s → s.out ≡ [] → read_at_once s (front_now s) ≡ Some next → HasReadOn first next
reads_more first s next law piece_law was empty read =
    let same = leaves s next (front_now s) read in
    record {
      stands = λ bytes told gone stands. law bytes told gone s next read (was.stands bytes told gone stands);
      piece = λ bytes told gone stands holds. piece_law bytes told gone s next empty read (was.stands bytes told gone stands);
      pass = same.pass ∙ was.pass;
      item_max = same.item_max ∙ was.item_max;
      owed = same.owed ∙ was.owed;
      last = same.last ∙ was.last;
    }

-- a session that is as it was needs what holds of it
pub same_needs : (s : Session) (todo : Todo) → IsCounted s todo s → IsNext s todo → Needs s todo s
same_needs s todo counted next = record { stands = λ bytes told gone stands. stands; piece = λ bytes told gone stands holds. holds; pass = refl; item_max = refl; counted = counted; next = next }

-- one that has read on, and has replies to send
pub read_needs : (s next : Session) → HasReadOn s next → (next.out ≡ [] → ⊥) → Needs s Write next
read_needs s next read some = record { stands = read.stands; piece = read.piece; pass = read.pass; item_max = read.item_max; counted = (read.owed, read.last); next = some }

-- one that has read on, and then comes to need this
counted_on : (s read next : Session) (todo : Todo) → HasReadOn s read → IsCounted read todo next → IsCounted s todo next
counted_on s read next (Do id ask) on counted = (sym on.owed ∙ counted.0, counted.1 ∙ ap (λ (n : ℕ). n + 1) on.last)
counted_on s read next Write on counted = (counted.0 ∙ on.owed, counted.1 ∙ on.last)
counted_on s read next Wait on counted = (counted.0 ∙ on.owed, counted.1 ∙ on.last)
counted_on s read next (Closed end) on counted = (counted.0 ∙ on.owed, counted.1 ∙ on.last)
counted_on s read next Input on counted = (counted.0 ∙ on.owed, counted.1 ∙ on.last)

pub then_needs : (s read next : Session) (todo : Todo) → HasReadOn s read → Needs read todo next → Needs s todo next
then_needs s read next todo on needs = record {
  stands = λ bytes told gone stands. needs.stands bytes told gone (on.stands bytes told gone stands);
  piece = λ bytes told gone stands holds. needs.piece bytes told gone (on.stands bytes told gone stands) (on.piece bytes told gone stands holds);
  pass = needs.pass ∙ on.pass;
  item_max = needs.item_max ∙ on.item_max;
  counted = counted_on s read next todo on needs.counted;
  next = needs.next;
}

-- one that asks the step that is next
pub asks_on : (s : Session) (ask : Ask) (seq : ℕ) → AnAskGoesOn → IsFree s → ask_at s.step (front_now s) ≡ Some ask → seq ≡ s.last + 1
    → Needs s (Do (record { pass = s.pass; seq = seq }) ask) (record s { owed = true; last = seq })
asks_on s ask seq law free next more = record {
  stands = λ bytes told gone stands. subst (λ (n : ℕ). Stands bytes told gone (record s { owed = true; last = n })) (sym more) (law bytes told gone s ask free.told next stands);
  piece = λ bytes told gone stands holds some. absurd (some free.sent);
  pass = refl;
  item_max = refl;
  counted = (free.told, more);
  next = (free.sent, refl, refl, next);
}
