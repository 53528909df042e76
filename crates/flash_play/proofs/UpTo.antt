-- A session that is up to the bytes that it was given: it has done the first of the steps that they ask, and was answered
-- the first pieces of the replies to them.
use Rattle.std.proofs.Common.{◌≡◌, ℕ, ◌+◌, Bool, true, false, List, [], ◌∷◌, ◌++◌, length, refl, sym, ◌∙◌, ap, subst, arith, append_assoc}
use Rattle.std.specs.Prelude.{drop, take}
use Rattle.std.proofs.lemmas.List.{append-nil, length-append}
use Rattle.flash_names.specs.declared.geometry.Geometry.{Geometry}
use Rattle.flash_entry.specs.declared.ask.Ask.{Ask}
use Rattle.flash_entry.specs.declared.entry.Entry.{Entry}
use Rattle.flash_entry.specs.declared.found.Told.{Told}
use Rattle.flash_answers.specs.Outcomes.{outcomes}
use Rattle.flash_answers.specs.Records.{Keeps}
use Rattle.flash_commands.specs.declared.place.Place.{Place}
use Rattle.flash_commands.specs.declared.place.Place.TheVariants.{InLine, InSkip, AtQuit, TooLong}
use Rattle.flash_commands.specs.Parts.{Asked, Asks, Refused, Read}
use Rattle.flash_commands.specs.Commands.{line_limit, read_from, commands_of}
use Rattle.flash_commands.specs.Asks.{asks_of}
use Rattle.flash_commands.specs.Laws.{IsEnd, EndsAlike, MoreBytesGoOn, AnEndStays, read_on, joined}
use Rattle.flash_session.specs.Pieces.{pieces_of}
use Rattle.flash_session.specs.PieceLaws.{PiecesAreTheReplies, PiecesGoOn}
use Rattle.flash_session.specs.Talks.{talk_of, steps_of}
use Rattle.flash_play.specs.Answers.{IsAnswered, IsAnsweredSoFar}
use Rattle.flash_play.specs.Playing.{Seat, new_seat, seat_with_more, is_end}
use Rattle.flash_play.proofs.Serving.{IsServed}

-- what the laws of the commands and of the pieces of replies say
pub record ByteLaws : Type 0 where
  pub goes_on : MoreBytesGoOn
  pub stays : AnEndStays
  pub joined_are : PiecesAreTheReplies
  pub pieces : PiecesGoOn

pub at_end : (place : Place) → is_end place ≡ true → IsEnd place
at_end AtQuit is = tt
at_end TooLong is = tt
at_end InLine is = cc is
at_end InSkip is = cc is

-- the steps of commands and of more
pub steps_append : (xs ys : List Asked) → steps_of (xs ++ ys) ≡ steps_of xs ++ steps_of ys
steps_append [] ys = refl
steps_append (Refused refusal ∷ xs) ys = steps_append xs ys
steps_append (Asks command block ∷ xs) ys =
    ap (λ (l : List Ask). asks_of command block ++ l) (steps_append xs ys) ∙ sym (append_assoc (asks_of command block) (steps_of xs) (steps_of ys))

-- what is behind as many as there are
pub behind_all : (xs ys : List Ask) (n : ℕ) → n ≡ length xs → drop n (xs ++ ys) ≡ ys
behind_all xs ys n is = ap (λ (k : ℕ). drop k (xs ++ ys)) is ∙ dropped xs
  where
    dropped : (l : List Ask) → drop (length l) (l ++ ys) ≡ ys
    dropped [] = refl
    dropped (x ∷ l) = dropped l

module _ {A : Type 0} where
  none_taken : (l : List A) → take 0 l ≡ []
  none_taken [] = refl
  none_taken (x ∷ l) = refl

  all_taken : (xs ys : List A) → take (length xs) (xs ++ ys) ≡ xs
  all_taken [] ys = none_taken ys
  all_taken (x ∷ xs) ys = ap (λ (l : List A). x ∷ l) (all_taken xs ys)

  -- as many as there are of the first ones
  pub first_all : (xs ys : List A) (n : ℕ) → n ≡ length xs → take n (xs ++ ys) ≡ xs
  first_all xs ys n is = ap (λ (k : ℕ). take k (xs ++ ys)) is ∙ all_taken xs ys

-- the steps that these bytes ask
abbrev pub steps_in : Geometry → List ℕ → List Ask
steps_in g bytes = steps_of (commands_of g.item_max bytes).asked

-- the pieces of the replies to them, by these answers
abbrev pub pieces_in : Geometry → List ℕ → List Told → List (List ℕ)
pieces_in g bytes told = pieces_of (commands_of g.item_max bytes).asked told

-- what a session was told, was answered and whether it is closed, where it has done all that these bytes ask
pub record IsExact (g : Geometry) (session : ℕ) (turned : List ℕ) (journal : List Entry) (told : List Told) (replies : List ℕ) (closed : Bool) : Type 0 where
  pub served : IsServed g session journal (steps_in g turned) told
  pub replied : replies ≡ (talk_of (commands_of g.item_max turned).asked told).replies
  pub is_closed : closed ≡ is_end (commands_of g.item_max turned).place

-- a session that was given these bytes, `turned` of them before its last run: unless it is closed it has them all, and
-- else no others are read; it has done the first of their steps, which others may follow, and was answered the first pieces;
-- and where it took no single turn `since` its last run, it has done all that the bytes before that ask
pub record IsUpTo (g : Geometry) (session : ℕ) (given turned : List ℕ) (since : Bool) (journal : List Entry) (seat : Seat) : Type 0 where
  pub has : seat.closed ≡ false → seat.given ≡ given
  pub alike : EndsAlike (commands_of g.item_max seat.given) (commands_of g.item_max given)
  pub ended : seat.closed ≡ true → IsEnd (commands_of g.item_max seat.given).place
  pub done : List Ask
  pub later : List Ask
  pub later_are : steps_in g seat.given ≡ done ++ later
  pub served : IsServed g session journal done seat.told
  pub said : List (List ℕ)
  pub unsaid : List (List ℕ)
  pub unsaid_are : pieces_in g seat.given seat.told ≡ said ++ unsaid
  pub replied : seat.replies ≡ joined said
  pub exact : since ≡ false → IsExact g session turned journal seat.told seat.replies seat.closed

module _ (laws : ByteLaws) (g : Geometry) (session : ℕ) where
  -- no bytes more
  pub given_none : (given more turned : List ℕ) (since : Bool) (journal : List Entry) (seat : Seat) → more ≡ [] → IsUpTo g session given turned since journal seat → IsUpTo g session (given ++ more) turned since journal seat
  given_none given more turned since journal seat none up =
      subst (λ (bytes : List ℕ). IsUpTo g session bytes turned since journal seat) (sym (ap (λ (l : List ℕ). given ++ l) none ∙ append-nil given)) up

  -- bytes for a session that isn't closed
  pub more_up : (given more turned : List ℕ) (since : Bool) (journal : List Entry) (seat : Seat) → seat.closed ≡ false → IsUpTo g session given turned since journal seat
      → IsUpTo g session (given ++ more) turned since journal (seat_with_more seat more)
  more_up given more turned since journal seat free up =
      let front = commands_of g.item_max seat.given in
      let rest = read_from g.item_max line_limit front.skip front.place (front.rest ++ more) in
      let on : commands_of g.item_max (seat.given ++ more) ≡ read_on g.item_max front more = laws.goes_on g.item_max seat.given more in
      let all : seat.given ++ more ≡ given ++ more = ap (λ (l : List ℕ). l ++ more) (up.has free) in
      let pieces = laws.pieces.asked front.asked rest.asked seat.told in
      record {
        has = λ still. all;
        alike = subst (λ (l : List ℕ). EndsAlike (commands_of g.item_max (seat.given ++ more)) (commands_of g.item_max l)) all (record { asked = refl; place = refl });
        ended = λ closed. absurd (let no : true ≡ false = sym closed ∙ free in cc no);
        done = up.done;
        later = up.later ++ steps_of rest.asked;
        later_are =
            ap (λ (read : Read). steps_of read.asked) on
            ∙ steps_append front.asked rest.asked
            ∙ ap (λ (l : List Ask). l ++ steps_of rest.asked) up.later_are
            ∙ append_assoc up.done up.later (steps_of rest.asked);
        served = up.served;
        said = up.said;
        unsaid = up.unsaid ++ pieces.more;
        unsaid_are =
            ap (λ (read : Read). pieces_of read.asked seat.told) on ∙ pieces.parts
            ∙ ap (λ (l : List (List ℕ)). l ++ pieces.more) up.unsaid_are
            ∙ append_assoc up.said up.unsaid pieces.more;
        replied = up.replied;
        exact = up.exact;
      }

  -- a session that is closed takes none
  pub closed_up : (given more turned : List ℕ) (since : Bool) (journal : List Entry) (seat : Seat) → seat.closed ≡ true → IsUpTo g session given turned since journal seat → IsUpTo g session (given ++ more) turned since journal seat
  closed_up given more turned since journal seat closed up =
      let place : IsEnd (commands_of g.item_max given).place = subst IsEnd (sym up.alike.place) (up.ended closed) in
      let after = laws.stays g.item_max given more place in
      record {
        has = λ free. absurd (let no : true ≡ false = sym closed ∙ free in cc no);
        alike = record { asked = after.asked ∙ up.alike.asked; place = after.place ∙ up.alike.place };
        ended = up.ended;
        done = up.done;
        later = up.later;
        later_are = up.later_are;
        served = up.served;
        said = up.said;
        unsaid = up.unsaid;
        unsaid_are = up.unsaid_are;
        replied = up.replied;
        exact = up.exact;
      }

  -- before the first step
  none_served : IsServed g session [] [] []
  none_served = record { told_are = refl; count = refl; keeps = tt; known = λ seq from to. absurd (omega (arith, from, to)); each = tt }

  pub first_up : IsUpTo g session [] [] false [] new_seat
  first_up = record {
    has = λ free. refl;
    alike = record { asked = refl; place = refl };
    ended = λ closed. absurd (cc closed);
    done = [];
    later = [];
    later_are = refl;
    served = none_served;
    said = [];
    unsaid = [];
    unsaid_are = refl;
    replied = refl;
    exact = λ none. record { served = none_served; replied = refl; is_closed = refl };
  }

  -- a session that is up to its bytes was answered so far
  pub is_answered_so_far : (given turned : List ℕ) (since : Bool) (journal : List Entry) (seat : Seat) → IsUpTo g session given turned since journal seat → IsAnsweredSoFar g session given journal seat
  is_answered_so_far given turned since journal seat up =
      let asked = (commands_of g.item_max given).asked in
      let steps : steps_of asked ≡ up.done ++ up.later = ap steps_of up.alike.asked ∙ up.later_are in
      let count = up.served.count in
      record {
        done = length seat.told;
        few =
            let all : length (steps_of asked) ≡ length up.done + length up.later = ap (λ (l : List Ask). length l) steps ∙ length-append up.done up.later in
            omega (arith, all, count);
        known = up.served.known;
        keeps = subst (λ (l : List Ask). Keeps l session journal) (sym (ap (λ (l : List Ask). take (length seat.told) l) steps ∙ first_all up.done up.later (length seat.told) count)) up.served.keeps;
        pieces = length up.said;
        replies =
            up.replied ∙ sym (ap joined (first_all up.said up.unsaid (length up.said) refl))
            ∙ ap (λ (l : List (List ℕ)). joined (take (length up.said) l)) (sym up.unsaid_are)
            ∙ ap (λ (l : List Asked). joined (take (length up.said) (pieces_of l seat.told))) (sym up.alike.asked)
            ∙ ap (λ (told : List Told). joined (take (length up.said) (pieces_of asked told))) up.served.told_are;
      }

  -- and where it took no single turn since its last run, it was answered for all bytes before that
  pub is_answered : (given turned : List ℕ) (since : Bool) (journal : List Entry) (seat : Seat) → since ≡ false → IsUpTo g session given turned since journal seat → IsAnswered g session turned journal seat
  is_answered given turned since journal seat none up =
      let exact = up.exact none in
      let same : length seat.told ≡ length (steps_in g turned) = exact.served.count in
      record {
        replies = exact.replied ∙ ap (λ (told : List Told). (talk_of (commands_of g.item_max turned).asked told).replies) (exact.served.told_are ∙ ap (outcomes g session journal) same);
        known = λ seq from to. exact.served.known seq from (omega (arith, same, to));
        keeps = exact.served.keeps;
        closed = exact.is_closed;
      }
