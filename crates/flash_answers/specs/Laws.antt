-- What each step makes of the run, of the journal's outcomes and of the numbers of steps.
use Rattle.std.specs.Prelude.{◌≡◌, ◌≢◌, ◌<◌, ℕ, ◌+◌, max, min, List, [], ◌∷◌, ◌++◌, length, Some}
use Rattle.flash_names.specs.declared.place.Id.{Id}
use Rattle.flash_names.specs.declared.geometry.Geometry.{Geometry}
use Rattle.flash_entry.specs.declared.ask.Ask.{Ask}
use Rattle.flash_entry.specs.declared.entry.Entry.{Entry}
use Rattle.flash_entry.specs.declared.found.Told.{Told}
use Rattle.flash_entry.specs.declared.found.Told.TheVariants as told
use Rattle.flash_machine.specs.Cache.{Cache, first_cache}
use Rattle.flash_machine.specs.Moments.{last_moment}
use Rattle.flash_machine.specs.NewSteps.{IsNew}
use Rattle.flash_machine.specs.Steps.{cache_of}
use Rattle.flash_calls.specs.Calls.{clock_call}
use Rattle.flash_calls.specs.Rooms.{room_call, reap_call, juggle_call}
use Rattle.flash_calls.specs.Running.{IsRunning, LeavesARun}
use Rattle.flash_calls.specs.Store.{Desk, Call}
use Rattle.flash_answers.specs.AskCalls.{ask_call}
use Rattle.flash_answers.specs.Outcomes.{entry_outcome, outcome_from, outcome, outcomes, HasEntry, HaveEntries}
use Rattle.flash_answers.specs.Records.{entry_ask, AreOf, AreOfNoStep, Keeps}

-- a run goes on by any step, where its number is new
abbrev pub EachAskGoesOn : Type 0
EachAskGoesOn =
    (g : Geometry) (c : Cache) (h : List Entry) (desk : Desk) (id : Id) (ask : Ask) → IsRunning g h c desk
    → IsNew h id → LeavesARun g h (ask_call g c desk id ask)

-- then the journal gives the step what it was told
abbrev pub EachAskIsTold : Type 0
EachAskIsTold =
    (g : Geometry) (c : Cache) (h : List Entry) (desk : Desk) (id : Id) (ask : Ask) → IsRunning g h c desk
    → IsNew h id
    → outcome_from g [] first_cache id (h ++ (ask_call g c desk id ask).entries)
    ≡ Some (ask_call g c desk id ask).answer

-- and where it is step n + 1 of its pass, its answer stands after those of the steps 1 to n, and where each of these
-- has an entry, it has one too
abbrev pub EachAnswerIsAdded : Type 0
EachAnswerIsAdded =
    (g : Geometry) (c : Cache) (h : List Entry) (desk : Desk) (pass n : ℕ) (ask : Ask) → IsRunning g h c desk
    → IsNew h (record { pass = pass; seq = n + 1 })
    → let call = ask_call g c desk (record { pass = pass; seq = n + 1 }) ask in
    (outcomes g pass (h ++ call.entries) (n + 1) ≡ outcomes g pass h n ++ call.answer ∷ [])
    × (HaveEntries g pass h n → HaveEntries g pass (h ++ call.entries) (n + 1))

-- what a step notes records that step, with what was asked, and no other
abbrev pub EachAskRecordsItself : Type 0
EachAskRecordsItself =
    (g : Geometry) (c : Cache) (desk : Desk) (id : Id) (ask : Ask) → AreOf id ask (ask_call g c desk id ask).entries

-- what a step notes: entries of no step, which leave the moment, then its own with what was asked, which tells what the
-- step was told, and entries of no step behind it
pub record NotesItself (g : Geometry) (c : Cache) (h : List Entry) (id : Id) (ask : Ask) (call : Call Told) : Type 0 where
  pub more : List Entry
  pub own : Entry
  pub behind : List Entry
  pub whole : call.entries ≡ more ++ own ∷ behind
  pub others : AreOfNoStep more
  pub rest : AreOfNoStep behind
  pub asked : entry_ask own ≡ Some (id, ask)
  pub told : entry_outcome (h ++ more) (cache_of g (h ++ more)) id own ≡ Some call.answer
  pub moment : (cache_of g (h ++ more)).now ≡ c.now

abbrev pub EachAskNotesItself : Type 0
EachAskNotesItself =
    (g : Geometry) (c : Cache) (h : List Entry) (desk : Desk) (id : Id) (ask : Ask) → IsRunning g h c desk
    → NotesItself g c h id ask (ask_call g c desk id ask)

-- no step changes the moment
abbrev pub AskLeavesTheMoment : Type 0
AskLeavesTheMoment =
    (g : Geometry) (c : Cache) (desk : Desk) (id : Id) (ask : Ask) → (ask_call g c desk id ask).cache.now ≡ c.now

-- the outcome of the next step stands after those before it
abbrev pub OutcomesAreInOrder : Type 0
OutcomesAreInOrder = (g : Geometry) (pass : ℕ) (h : List Entry) (n : ℕ)
    → outcomes g pass h (n + 1) ≡ outcomes g pass h n ++ outcome g pass (n + 1) h ∷ []

-- a step whose number is new has no entry: had it been asked, it had no memory
abbrev pub ANewStepHasNoEntry : Type 0
ANewStepHasNoEntry =
    (g : Geometry) (h : List Entry) (id : Id) → IsNew h id → outcome g id.pass id.seq h ≡ told.NoMemory

-- entries after a journal leave the outcome of each step that has its entry; those of a later step, of another pass, or
-- of no step leave the outcomes of all the steps 1 to n, with entries or without
pub record LeaveOutcomes (g : Geometry) (pass : ℕ) (h es : List Entry) : Type 0 where
  pub one : (seq : ℕ) → HasEntry g pass seq h
      → outcome_from g [] first_cache (record { pass = pass; seq = seq }) (h ++ es)
      ≡ outcome_from g [] first_cache (record { pass = pass; seq = seq }) h
  pub all : (n : ℕ) → HaveEntries g pass h n → outcomes g pass (h ++ es) n ≡ outcomes g pass h n
  pub have : (n : ℕ) → HaveEntries g pass h n → HaveEntries g pass (h ++ es) n
  pub others : (n : ℕ) (id : Id) (ask : Ask) → AreOf id ask es → (id.pass ≡ pass → n < id.seq)
      → outcomes g pass (h ++ es) n ≡ outcomes g pass h n
  pub none : (n : ℕ) → AreOfNoStep es → outcomes g pass (h ++ es) n ≡ outcomes g pass h n

abbrev pub OutcomesStay : Type 0
OutcomesStay = (g : Geometry) (pass : ℕ) (h es : List Entry) → LeaveOutcomes g pass h es

-- after the entries of a step whose number was new, its pass's next number is new; a number of another pass stays new,
-- and each number does after entries of no step
pub record LeaveNumbersNew (h es : List Entry) : Type 0 where
  pub next : (id : Id) (ask : Ask) → AreOf id ask es → IsNew h id
      → IsNew (h ++ es) (record { pass = id.pass; seq = id.seq + 1 })
  pub others : (id other : Id) (ask : Ask) → AreOf id ask es → other.pass ≢ id.pass → IsNew h other
      → IsNew (h ++ es) other
  pub none : (id : Id) → AreOfNoStep es → IsNew h id → IsNew (h ++ es) id

abbrev pub NumbersStayNew : Type 0
NumbersStayNew = (h es : List Entry) → LeaveNumbersNew h es

-- after the entries of a pass's next step its journal keeps to one ask more; entries of another pass, and of no step,
-- leave it to the same
pub record LeaveAsks (pass : ℕ) (steps : List Ask) (h es : List Entry) : Type 0 where
  pub next : (ask : Ask) → AreOf (record { pass = pass; seq = length steps + 1 }) ask es → Keeps steps pass h
      → Keeps (steps ++ ask ∷ []) pass (h ++ es)
  pub others : (id : Id) (ask : Ask) → AreOf id ask es → id.pass ≢ pass → Keeps steps pass h
      → Keeps steps pass (h ++ es)
  pub none : AreOfNoStep es → Keeps steps pass h → Keeps steps pass (h ++ es)

abbrev pub AsksAreKept : Type 0
AsksAreKept = (pass : ℕ) (steps : List Ask) (h es : List Entry) → LeaveAsks pass steps h es

-- the calls that no session asks for note no step; a reading of the clock alone changes the moment, to the greater of
-- both
pub record AreOfNoSession (g : Geometry) (c : Cache) (desk : Desk) : Type 0 where
  pub clock : (reading : ℕ) → AreOfNoStep (clock_call c desk reading).entries
  pub room : AreOfNoStep (room_call g c desk).entries
  pub reap : AreOfNoStep (reap_call c desk).entries
  pub juggle : AreOfNoStep (juggle_call g c desk).entries
  pub moment : (reading : ℕ) → (clock_call c desk reading).cache.now ≡ max c.now (min reading last_moment)
  pub room_moment : (room_call g c desk).cache.now ≡ c.now
  pub reap_moment : (reap_call c desk).cache.now ≡ c.now
  pub juggle_moment : (juggle_call g c desk).cache.now ≡ c.now

abbrev pub CallsOfNoSession : Type 0
CallsOfNoSession = (g : Geometry) (c : Cache) (desk : Desk) → AreOfNoSession g c desk
