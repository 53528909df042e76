-- What a session's steps leave: its store, and what they were told.
use Rattle.std.proofs.Common.{◌≡◌, ◌≢◌, ℕ, ◌+◌, ◌-◌, ◌≤◌, false, List, [], ◌∷◌, ◌++◌, length, None, Some, refl, sym, ◌∙◌, ap, subst, arith, inl, inr, append_assoc}
use Rattle.std.specs.Prelude.{slice_get, IsSome}
use Rattle.std.specs.List.{AllByRecursion}
use Rattle.std.specs.Option.{ForSome}
use Rattle.std.proofs.lemmas.Bool.{cases_eq}
use Rattle.std.proofs.lemmas.List.{append-nil, length-append}
use Rattle.flash_names.specs.declared.place.Id.{Id}
use Rattle.flash_names.specs.declared.geometry.Geometry.{Geometry}
use Rattle.flash_entry.specs.declared.ask.Ask.{Ask}
use Rattle.flash_entry.specs.declared.ask.Ask.TheVariants as asks
use Rattle.flash_entry.specs.declared.entry.Entry.{Entry}
use Rattle.flash_entry.specs.declared.found.Told.{Told}
use Rattle.flash_machine.specs.Cache.{first_cache}
use Rattle.flash_machine.specs.NewSteps.{IsNew}
use Rattle.flash_calls.specs.declared.found.Found.{Found}
use Rattle.flash_calls.specs.declared.found.Found.TheVariants as found
use Rattle.flash_calls.specs.Laws.{TheFirstRun, EachClockGoesOn, EachRoomGoesOn, EachReapingGoesOn, EachJugglingGoesOn}
use Rattle.flash_calls.specs.Lookups.{look_call}
use Rattle.flash_calls.specs.Running.{IsRunning}
use Rattle.flash_calls.specs.Store.{Call}
use Rattle.flash_answers.specs.AskCalls.{ask_call, told_found}
use Rattle.flash_answers.specs.Laws.{EachAskGoesOn, EachAskIsTold, EachAskRecordsItself, NumbersStayNew, OutcomesStay, OutcomesAreInOrder, AskLeavesTheMoment, CallsOfNoSession}
use Rattle.flash_answers.specs.Outcomes.{outcome_from, or_no_memory, outcome, outcomes, HasEntry}
use Rattle.flash_answers.specs.Records.{entry_ask, IsOf, AreOf, AreOfNoStep, IsOneOf, Keeps}
use Rattle.flash_session.specs.Talks.{ends_command}
use Rattle.flash_play.specs.Laws.{EachAnswerHadMemory}
use Rattle.flash_play.specs.Playing.{StoreState, number_after, do_ask, do_asks}
use Rattle.flash_play.proofs.Lists.{all_map, all_append, get-front, get-seam}

-- what the laws of the numbers of steps say
pub record NumberLaws : Type 0 where
  pub records : EachAskRecordsItself
  pub numbers : NumbersStayNew
  pub others : CallsOfNoSession

-- what the laws of the store and of its steps say
pub record StepLaws : Type 0 where
  pub goes_on : EachAskGoesOn
  pub is_told : EachAskIsTold
  pub records : EachAskRecordsItself
  pub numbers : NumbersStayNew
  pub stay : OutcomesStay
  pub order : OutcomesAreInOrder
  pub moment : AskLeavesTheMoment
  pub others : CallsOfNoSession
  pub clock : EachClockGoesOn
  pub room : EachRoomGoesOn
  pub reaping : EachReapingGoesOn
  pub juggling : EachJugglingGoesOn
  pub first : TheFirstRun

pub number_laws : StepLaws → NumberLaws
number_laws laws = record { records = laws.records; numbers = laws.numbers; others = laws.others }

-- the store has all that it keeps of its journal, which is a run
abbrev pub IsKept : Geometry → StoreState → Type 0
IsKept g k = IsRunning g k.journal k.cache k.desk

-- the steps that a session has done are these, they were told this, and the journal has their entries and no other of it
pub record IsServed (g : Geometry) (pass : ℕ) (journal : List Entry) (done : List Ask) (told : List Told) : Type 0 where
  pub told_are : told ≡ outcomes g pass journal (length told)
  pub count : length told ≡ length done
  pub keeps : Keeps done pass journal
  pub known : (seq : ℕ) → 1 ≤ seq → seq ≤ length told → HasEntry g pass seq journal
  pub each : AllByRecursion (λ answer. ends_command answer ≡ false) told

-- an answer of the store had memory
found_had : (answer : Found) → ends_command (told_found answer) ≡ false
found_had found.Miss = refl
found_had (found.Head head) = refl
found_had (found.Here hit) = refl
found_had (found.Away head) = refl

pub had_memory : EachAnswerHadMemory
had_memory g c desk id (asks.Look key look) = found_had (look_call c desk id key look).answer
had_memory g c desk id (asks.Store put) = refl
had_memory g c desk id (asks.Delete key compare) = refl
had_memory g c desk id (asks.Sum ask) = refl
had_memory g c desk id (asks.Touch key exptime) = refl
had_memory g c desk id (asks.Flush delay) = refl
had_memory g c desk id asks.Stats = refl

-- a step of the pass that an entry records is one of these
abbrev pub IsListed : ℕ → List Ask → Entry → Type 0
IsListed pass asks e = ForSome (entry_ask e) (IsOneOf pass asks)

pub one_more : {A : Type 0} (xs : List A) (x : A) → length (xs ++ x ∷ []) ≡ length xs + 1
one_more xs x = length-append xs (x ∷ [])

module _ (pass : ℕ) where
  -- a step of fewer asks is one of more
  one_of_more : (asks more : List Ask) (step : Id × Ask) → IsOneOf pass asks step → IsOneOf pass (asks ++ more) step
  one_of_more asks more step one = λ mine. let is = one mine in (is.0, get-front asks more (step.0.seq - 1) step.1 is.1)

  -- so a journal that keeps to fewer asks keeps to more
  keeps_more : (asks more : List Ask) (h : List Entry) → Keeps asks pass h → Keeps (asks ++ more) pass h
  keeps_more asks more h keeps = all_map (IsListed pass asks) (IsListed pass (asks ++ more)) (λ e listed step is. one_of_more asks more step (listed step is)) h keeps

  -- the next step is one of the asks with its own
  own_keeps : (asks : List Ask) (last : ℕ) (ask : Ask) (es : List Entry) → last ≡ length asks → AreOf (record { pass = pass; seq = last + 1 }) ask es → Keeps (asks ++ ask ∷ []) pass es
  own_keeps asks last ask es at all =
      let one : IsOneOf pass (asks ++ ask ∷ []) (record { pass = pass; seq = last + 1 }, ask) = λ mine.
      (omega arith, ap (slice_get (asks ++ ask ∷ [])) (omega (arith, at)) ∙ get-seam asks ask) in
      all_map (IsOf (record { pass = pass; seq = last + 1 }) ask) (IsListed pass (asks ++ ask ∷ [])) (λ e of step is. subst (IsOneOf pass (asks ++ ask ∷ [])) (sym (of step is)) one) es all

  -- a step of another pass is none of it
  other_keeps : (asks : List Ask) (id : Id) (ask : Ask) (es : List Entry) → pass ≢ id.pass → AreOf id ask es → Keeps asks pass es
  other_keeps asks id ask es other all =
      all_map (IsOf id ask) (IsListed pass asks) (λ e of step is mine. absurd (other (sym mine ∙ ap (λ (s : Id × Ask). s.0.pass) (of step is)))) es all

  -- nor are entries of no step
  pub none_keeps : (asks : List Ask) (es : List Entry) → AreOfNoStep es → Keeps asks pass es
  none_keeps asks es none = all_map (λ e. entry_ask e ≡ None) (IsListed pass asks) (λ e no step is. absurd (cc (no, is))) es none

module _ (laws : StepLaws) (g : Geometry) (pass : ℕ) where
  -- entries after that record no other step of it
  pub served_behind : (h es : List Entry) (done : List Ask) (told : List Told) → Keeps done pass es → IsServed g pass h done told → IsServed g pass (h ++ es) done told
  served_behind h es done told keeps was =
      let stay = laws.stay g pass h es in
      record {
        told_are = was.told_are ∙ sym (stay.all (length told) was.known);
        count = was.count;
        keeps = all_append (IsListed pass done) h es was.keeps keeps;
        known = λ seq from to. subst (IsSome {T = Told}) (sym (stay.one seq (was.known seq from to))) (was.known seq from to);
        each = was.each;
      }

module _ (laws : StepLaws) (g : Geometry) (pass : ℕ) where
  -- the store is kept, the session's next number is new, and what its steps were told is in the journal
  pub record Serves (state : StoreState × List Told) (done : List Ask) : Type 0 where
    pub kept : IsKept g state.0
    pub new : IsNew state.0.journal (number_after pass state.1)
    pub served : IsServed g pass state.0.journal done state.1

  module _ (state : StoreState × List Told) (done : List Ask) (ask : Ask) (was : Serves state done) where
    abbrev id : Id
    id = number_after pass state.1

    abbrev call : Call Told
    call = ask_call g state.0.cache state.0.desk id ask

    abbrev h2 : List Entry
    h2 = state.0.journal ++ call.entries

    of : AreOf id ask call.entries
    of = laws.records g state.0.cache state.0.desk id ask

    own : outcome_from g [] first_cache id h2 ≡ Some call.answer
    own = laws.is_told g state.0.cache state.0.journal state.0.desk id ask was.kept was.new

    -- each step up to this one has an entry
    known_more : (seq : ℕ) → 1 ≤ seq → seq ≤ length (state.1 ++ call.answer ∷ []) → HasEntry g pass seq h2
    known_more seq from to = elim (cases_eq seq (length state.1 + 1)) [
      | inl same ↦ subst (λ (n : ℕ). HasEntry g pass n h2) (sym same) (subst (IsSome {T = Told}) (sym own) refl)
      | inr other ↦
          let more = one_more state.1 call.answer in
          let below : seq ≤ length state.1 = omega (arith, other, to, more) in
          let stay = laws.stay g pass state.0.journal call.entries in
          subst (IsSome {T = Told}) (sym (stay.one seq (was.served.known seq from below))) (was.served.known seq from below)
    ]

    told_more : state.1 ++ call.answer ∷ [] ≡ outcomes g pass h2 (length (state.1 ++ call.answer ∷ []))
    told_more =
        let n = length state.1 in
        let stay = laws.stay g pass state.0.journal call.entries in
        let told : outcome g pass (n + 1) h2 ≡ call.answer = ap or_no_memory own in
        ap (λ (l : List Told). l ++ call.answer ∷ []) (was.served.told_are ∙ sym (stay.all n was.served.known))
        ∙ ap (λ (a : Told). outcomes g pass h2 n ++ a ∷ []) (sym told)
        ∙ sym (laws.order g pass h2 n)
        ∙ ap (outcomes g pass h2) (sym (one_more state.1 call.answer))

    served_more : IsServed g pass h2 (done ++ ask ∷ []) (state.1 ++ call.answer ∷ [])
    served_more = record {
      told_are = told_more;
      count = (let one = one_more state.1 call.answer in let other = one_more done ask in let same = was.served.count in omega (arith, one, other, same));
      keeps = all_append (IsListed pass (done ++ ask ∷ [])) state.0.journal call.entries (keeps_more pass done (ask ∷ []) state.0.journal was.served.keeps) (own_keeps pass done (length state.1) ask call.entries was.served.count of);
      known = known_more;
      each = all_append (λ answer. ends_command answer ≡ false) state.1 (call.answer ∷ []) was.served.each (had_memory g state.0.cache state.0.desk id ask, tt);
    }

    -- one step more
    pub ask_serves : Serves (do_ask g pass state ask) (done ++ ask ∷ [])
    ask_serves = record {
      kept = laws.goes_on g state.0.cache state.0.journal state.0.desk id ask was.kept was.new;
      new =
          let next = (laws.numbers state.0.journal call.entries).next id ask of was.new in
          subst (λ (n : ℕ). IsNew h2 (record { pass = pass; seq = n + 1 })) (sym (one_more state.1 call.answer)) next;
      served = served_more;
    }

  -- and all of them
  pub asks_serve : (state : StoreState × List Told) (done asks : List Ask) → Serves state done → Serves (do_asks g pass state asks) (done ++ asks)
  asks_serve state done [] was = subst (Serves state) (sym (append-nil done)) was
  asks_serve state done (ask ∷ more) was =
      subst (Serves (do_asks g pass (do_ask g pass state ask) more)) (append_assoc done (ask ∷ []) more)
      (asks_serve (do_ask g pass state ask) (done ++ ask ∷ []) more (ask_serves state done ask was))

  -- another session was told what it was told before
  pub asks_serve_other : (other : ℕ) (state : StoreState × List Told) (asks done : List Ask) (told : List Told) → other ≢ pass → IsServed g other state.0.journal done told
      → IsServed g other (do_asks g pass state asks).0.journal done told
  asks_serve_other other state [] done told differ was = was
  asks_serve_other other state (ask ∷ more) done told differ was =
      let id = number_after pass state.1 in
      let es = (ask_call g state.0.cache state.0.desk id ask).entries in
      asks_serve_other other (do_ask g pass state ask) more done told differ
      (served_behind laws g other state.0.journal es done told (other_keeps other done id ask es differ (laws.records g state.0.cache state.0.desk id ask)) was)

module _ (laws : NumberLaws) (g : Geometry) (pass : ℕ) where
  -- the next number of another session is new where it was
  pub asks_leave_other : (other : Id) (state : StoreState × List Told) (asks : List Ask) → other.pass ≢ pass → IsNew state.0.journal other → IsNew (do_asks g pass state asks).0.journal other
  asks_leave_other other state [] differ new = new
  asks_leave_other other state (ask ∷ more) differ new =
      let id = number_after pass state.1 in
      let es = (ask_call g state.0.cache state.0.desk id ask).entries in
      asks_leave_other other (do_ask g pass state ask) more differ
      ((laws.numbers state.0.journal es).others id other ask (laws.records g state.0.cache state.0.desk id ask) differ new)

  -- and the session's own
  pub asks_leave_own : (state : StoreState × List Told) (asks : List Ask) → IsNew state.0.journal (number_after pass state.1) → IsNew (do_asks g pass state asks).0.journal (number_after pass (do_asks g pass state asks).1)
  asks_leave_own state [] new = new
  asks_leave_own state (ask ∷ more) new =
      let id = number_after pass state.1 in
      let call = ask_call g state.0.cache state.0.desk id ask in
      let next = (laws.numbers state.0.journal call.entries).next id ask (laws.records g state.0.cache state.0.desk id ask) new in
      asks_leave_own (do_ask g pass state ask) more
      (subst (λ (n : ℕ). IsNew (state.0.journal ++ call.entries) (record { pass = pass; seq = n + 1 })) (sym (one_more state.1 call.answer)) next)
