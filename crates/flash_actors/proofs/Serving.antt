-- What each part of a turn leaves of a session that is served.
use Rattle.std.proofs.Common.{◌≡◌, ℕ, ◌+◌, Bool, true, false, List, [], ◌∷◌, ◌++◌, length, take, drop, Option, None, Some, refl, sym, ◌∙◌, ap, subst, append_assoc, ⊎_elim}
use Rattle.std.specs.Prelude.{slice_get}
use Rattle.std.specs.Option.{ForSome}
use Rattle.std.proofs.lemmas.List.{append-nil, take-append-drop, length-append}
use Rattle.flash_names.specs.Clock.{Reads}
use Rattle.flash_names.specs.Told.{with_front, with_more}
use Rattle.flash_names.specs.declared.geometry.Geometry.{Geometry}
use Rattle.flash_names.specs.declared.place.Id.{Id}
use Rattle.flash_streams.specs.Writing.{IsWritten}
use Rattle.flash_entry.specs.declared.ask.Ask.{Ask}
use Rattle.flash_entry.specs.declared.entry.Entry.{Entry}
use Rattle.flash_entry.specs.declared.found.Told.{Told}
use Rattle.flash_machine.specs.NewSteps.{IsNew}
use Rattle.flash_answers.specs.Outcomes.{outcomes}
use Rattle.flash_answers.specs.Records.{AreOfOthers}
use Rattle.flash_commands.specs.Asks.{asks_of}
use Rattle.flash_commands.specs.Commands.{commands_of}
use Rattle.flash_commands.specs.Parts.{Asks, Front, Takes}
use Rattle.flash_session.specs.Stands.{one_if, Stands}
use Rattle.flash_session.specs.States.{Session, front_now, ask_at, is_done, told_at, sent}
use Rattle.flash_session.specs.Talks.{talk_of}
use Rattle.flash_session.specs.Todos.{StandsAs}
use Rattle.flash_actors.specs.declared.input.Input.{Input}
use Rattle.flash_actors.specs.declared.output.Output.{Output}
use Rattle.flash_actors.specs.declared.service.Service.{Service}
use Rattle.flash_actors.specs.Headline.{Outside, talk_over}
use Rattle.flash_actors.specs.Laws.{SessionLaws}
use Rattle.flash_actors.specs.Serving.{rest_of, IsServed, HasTaken, HasRead, HasFed}
use Rattle.flash_actors.specs.Stepping.{IsStep}
use Rattle.flash_actors.specs.Timing.{AreRead}
use Rattle.flash_actors.proofs.OnTime.{get_front}
use Rattle.flash_actors.proofs.Saying.{asks_told, keeps_more, asks_longer}
use Rattle.flash_actors.proofs.Stepped.{step_told, step_keeps, step_read}
use Rattle.flash_actors.proofs.Streams.{taken_both, written_both}

pub take_all : (xs : List ℕ) → take (length xs) xs ≡ xs
take_all [] = refl
take_all (x ∷ xs) = ap (λ (l : List ℕ). x ∷ l) (take_all xs)

-- what an answer leaves of a session
pub record LeavesSession (s after : Session) : Type 0 where
  pub free : after.owed ≡ false
  pub item_max : after.reads.item_max ≡ s.reads.item_max
  pub last : after.last ≡ s.last

module _ (s : Session) (ask : Ask) (answer : Told) where
  answered_by : (front : Front) → ask_at s.step front ≡ Some ask → LeavesSession s (told_at s front answer)
  answered_by (Takes (Asks command block ∷ []) n next) is = by_done (is_done answer (s.step + 1) (asks_of command block)) refl
    where
      by_done : (done : Bool) → is_done answer (s.step + 1) (asks_of command block) ≡ done → LeavesSession s (told_at s (Takes (Asks command block ∷ []) n next) answer)
      by_done true done = record { free = rw done refl; item_max = rw done refl; last = rw done refl }
      by_done false done = record { free = rw done refl; item_max = rw done refl; last = rw done refl }
  answered_by _ is = absurd (cc is)

  pub answered : ask_at s.step (front_now s) ≡ Some ask → LeavesSession s (told_at s (front_now s) answer)
  answered is = answered_by (front_now s) is

module _ (laws : SessionLaws) (g : Geometry) (n k : ℕ) (start now : Outside) (service : Service) (h : List Entry) (is : IsServed g n k start now service h) where
  abbrev gathered : List ℕ
  gathered = service.output.gathered.items

  abbrev session : Session
  session = service.session

  -- it has read on
  pub served_as : (mid : Session) → StandsAs session mid → mid.reads.item_max ≡ session.reads.item_max → IsServed g n k start now (record service { session = mid }) h
  served_as mid stands same = record {
    fed = is.fed;
    told = is.told;
    sent = is.sent;
    taken = is.taken;
    written = is.written;
    stands = stands is.fed is.told (is.sent ++ gathered) is.stands;
    size = same ∙ is.size;
    outcomes = is.outcomes;
    keeps = is.keeps;
    read = is.read;
  }

  -- a piece of its replies was taken
  pub served_piece : (held_after : Option (List ℕ)) (output : Output) (after : Session) → HasTaken session.out gathered output.gathered.items now.held held_after → after ≡ sent session (length session.out)
      → IsServed g n k start (record now { held = held_after }) (record service { session = after; output = output }) h
  served_piece held_after output after piece same =
      let gone : (is.sent ++ gathered) ++ take (length session.out) session.out ≡ (is.sent ++ piece.sent) ++ output.gathered.items =
      ap (λ (l : List ℕ). (is.sent ++ gathered) ++ l) (take_all session.out) ∙ append_assoc is.sent gathered session.out ∙ ap (λ (l : List ℕ). is.sent ++ l) piece.parts
      ∙ sym (append_assoc is.sent piece.sent output.gathered.items) in
      record {
        fed = is.fed;
        told = is.told;
        sent = is.sent ++ piece.sent;
        taken = is.taken;
        written = written_both is.sent piece.sent start.held now.held held_after is.written piece.written;
        stands =
            subst (λ (s : Session). Stands is.fed is.told ((is.sent ++ piece.sent) ++ output.gathered.items) s) (sym same)
            (subst (λ (l : List ℕ). Stands is.fed is.told l (sent session (length session.out))) gone (laws.send is.fed is.told (is.sent ++ gathered) session (length session.out) is.stands));
        size = ap (λ (s : Session). s.reads.item_max) same ∙ is.size;
        outcomes = is.outcomes;
        keeps = is.keeps;
        read = is.read;
      }

  -- what was gathered was written
  pub served_sent : (held_after : Option (List ℕ)) (output : Output) → IsWritten gathered now.held held_after → output.gathered.items ≡ []
      → IsServed g n k start (record now { held = held_after }) (record service { output = output }) h
  served_sent held_after output written none =
      let gone : is.sent ++ gathered ≡ (is.sent ++ gathered) ++ output.gathered.items = sym (append-nil (is.sent ++ gathered)) ∙ ap (λ (l : List ℕ). (is.sent ++ gathered) ++ l) (sym none) in
      record {
        fed = is.fed;
        told = is.told;
        sent = is.sent ++ gathered;
        taken = is.taken;
        written = written_both is.sent gathered start.held now.held held_after is.written written;
        stands = subst (λ (l : List ℕ). Stands is.fed is.told l session) gone is.stands;
        size = is.size;
        outcomes = is.outcomes;
        keeps = is.keeps;
        read = is.read;
      }

  -- more bytes were read, where none were left
  pub served_read : (left_after : Option (List ℕ)) (input : Input) → rest_of service.input ≡ [] → HasRead (rest_of input) now.left left_after → IsServed g n k start (record now { left = left_after }) (record service { input = input }) h
  served_read left_after input none has =
      let first : start.left ≡ with_front is.fed now.left = is.taken ∙ ap (λ (l : List ℕ). with_front l now.left) (ap (λ (l : List ℕ). is.fed ++ l) none ∙ append-nil is.fed) in
      record {
        fed = is.fed;
        told = is.told;
        sent = is.sent;
        taken = taken_both is.fed (rest_of input) start.left now.left left_after first has;
        written = is.written;
        stands = is.stands;
        size = is.size;
        outcomes = is.outcomes;
        keeps = is.keeps;
        read = is.read;
      }

  -- it was fed more of them
  pub served_fed : (input : Input) (after : Session) → HasFed service.input session input after → IsServed g n k start now (record service { session = after; input = input }) h
  served_fed input after has =
      let rest = rest_of service.input in
      let more = take has.n rest in
      let whole : is.fed ++ rest ≡ (is.fed ++ more) ++ rest_of input =
      ap (λ (l : List ℕ). is.fed ++ l) (sym (take-append-drop has.n rest)) ∙ sym (append_assoc is.fed more (drop has.n rest)) ∙ ap (λ (l : List ℕ). (is.fed ++ more) ++ l) (sym has.rest) in
      record {
        fed = is.fed ++ more;
        told = is.told;
        sent = is.sent;
        taken = is.taken ∙ ap (λ (l : List ℕ). with_front l now.left) whole;
        written = is.written;
        stands = subst (Stands (is.fed ++ more) is.told (is.sent ++ gathered)) (sym has.fed) (laws.feed is.fed more is.told (is.sent ++ gathered) session is.stands);
        size = ap (λ (s : Session). s.reads.item_max) has.fed ∙ is.size;
        outcomes = is.outcomes;
        keeps =
            keeps_more (talk_over g is.fed is.told).asks (talk_over g (is.fed ++ more) is.told).asks n h
            (asks_longer laws.more g.item_max is.fed more is.told) is.keeps;
        read = is.read;
      }

  -- a step was done, at a reading, and told
  module _ (ask : Ask) (reading : ℕ) (answer : Told) (given_after : Option (List ℕ)) (j : List Entry) (owes : session.owed ≡ true) (asks : ask_at session.step (front_now session) ≡ Some ask) where
    last_is : session.last ≡ length is.told + 1
    last_is = laws.counted is.fed is.told (is.sent ++ gathered) session is.stands ∙ ap (λ (b : Bool). length is.told + one_if b) owes

    -- the ask is the one after those that were answered
    asked_at : slice_get (talk_over g is.fed (is.told ++ answer ∷ [])).asks (length is.told) ≡ Some ask
    asked_at =
        let longer = asks_told (commands_of g.item_max is.fed).asked is.told (answer ∷ []) in
        let at : slice_get (talk_over g is.fed is.told).asks (length is.told) ≡ Some ask =
        subst (λ (m : ℕ). slice_get (talk_of (commands_of m is.fed).asked is.told).asks (length is.told) ≡ Some ask) is.size
        (laws.step is.fed is.told (is.sent ++ gathered) session ask asks is.stands) in
        ap (λ (l : List Ask). slice_get l (length is.told)) (sym longer.1) ∙ get_front (talk_over g is.fed is.told).asks longer.0 (length is.told) ask at

    abbrev id : Id
    id = record { pass = n; seq = length is.told + 1 }

    -- the readings go on
    read_by : (a b : Option (List ℕ)) → b ≡ with_more (reading ∷ []) a → ForSome a (AreRead g n (length is.told) k h) → IsStep (AreOfOthers n) g id ask reading answer h j
        → ForSome b (AreRead g n (length is.told + 1) k j)
    read_by None b more read step all told = absurd (cc (more, told))
    read_by (Some first) b more read step all told =
        let same : first ++ reading ∷ [] ≡ all = cc (more, told) in
        subst (AreRead g n (length is.told + 1) k j) same (step_read laws g n (length is.told) ask reading answer h j step k first (read first refl))

    read_on : Reads now.given reading given_after → IsStep (AreOfOthers n) g id ask reading answer h j → ForSome given_after (AreRead g n (length is.told + 1) k j)
    read_on reads step = ⊎_elim (λ none all told. absurd (cc (none, told))) (λ more. read_by now.given given_after more is.read step) reads

    step_is : IsStep (AreOfOthers n) g (record { pass = n; seq = session.last }) ask reading answer h j → IsStep (AreOfOthers n) g id ask reading answer h j
    step_is step = subst (λ (m : ℕ). IsStep (AreOfOthers n) g (record { pass = n; seq = m }) ask reading answer h j) last_is step

    pub served_step : Reads now.given reading given_after → IsNew h (record { pass = n; seq = session.last }) → IsStep (AreOfOthers n) g (record { pass = n; seq = session.last }) ask reading answer h j
        → IsServed g n k start (record now { given = given_after }) (record service { session = told_at session (front_now session) answer }) j
    served_step reads new first =
        let step = step_is first in
        let is_new : IsNew h id = subst (λ (m : ℕ). IsNew h (record { pass = n; seq = m })) last_is new in
        let told = is.told ++ answer ∷ [] in
        let count : length told ≡ length is.told + 1 = length-append is.told (answer ∷ []) in
        let asks_now = (talk_over g is.fed told).asks in
        let kept = keeps_more (talk_over g is.fed is.told).asks asks_now n h (asks_told (commands_of g.item_max is.fed).asked is.told (answer ∷ [])) is.keeps in
        record {
          fed = is.fed;
          told = told;
          sent = is.sent;
          taken = is.taken;
          written = is.written;
          stands = laws.answer is.fed is.told (is.sent ++ gathered) session answer owes is.stands;
          size = (answered session ask answer asks).item_max ∙ is.size;
          outcomes =
              ap (λ (l : List Told). l ++ answer ∷ []) is.outcomes ∙ sym (step_told laws g n (length is.told) ask reading answer h j step is_new)
              ∙ ap (outcomes g n j) (sym count);
          keeps = step_keeps laws g n (length is.told) ask reading answer h j step asks_now asked_at kept;
          read = subst (λ (m : ℕ). ForSome given_after (AreRead g n m k j)) (sym count) (read_on reads step);
        }
