-- A step of a session, where its journal may not be told, and the causes of ends.
use Rattle.std.proofs.Common.{◌≡◌, ℕ, ◌+◌, ◌≤◌, true, List, [], ◌++◌, Option, None, Some, refl, sym, ◌∙◌, subst, append_assoc, arith}
use Rattle.std.specs.Option.{ForSome}
use Rattle.std.specs.Prelude.{Result, Ok, Err, OnOk, IfErr}
use Rattle.std.proofs.lemmas.List.{append-nil}
use Rattle.flash_names.specs.Clock.{Reads}
use Rattle.flash_names.specs.Faults.{Rose}
use Rattle.flash_names.specs.Shared.{Begins}
use Rattle.flash_names.specs.declared.geometry.Geometry.{Geometry}
use Rattle.flash_names.specs.declared.place.Id.{Id}
use Rattle.flash_entry.specs.declared.ask.Ask.{Ask}
use Rattle.flash_entry.specs.declared.entry.Entry.{Entry}
use Rattle.flash_entry.specs.declared.found.Told.{Told}
use Rattle.flash_machine.specs.Legal.{Legal}
use Rattle.flash_machine.specs.NewSteps.{IsNew}
use Rattle.flash_core.specs.Sound.{IsNewTold}
use Rattle.flash_answers.specs.Records.{AreOfOthers}
use Rattle.flash_session.specs.States.{Session, front_now, ask_at, told_at}
use Rattle.flash_session.specs.Todos.{StandsAs}
use Rattle.flash_actors.specs.declared.service.Service.{Service}
use Rattle.flash_actors.specs.declared.session_end.SessionEnd.{SessionEnd}
use Rattle.flash_actors.specs.declared.session_end.SessionEnd.TheVariants as ends
use Rattle.flash_actors.specs.Headline.{Outside, HasCause}
use Rattle.flash_actors.specs.Laws.{SessionLaws}
use Rattle.flash_actors.specs.Serving.{IsServed, IsUnwritten, GoesOn, EndsSo}
use Rattle.flash_actors.specs.Stepping.{BothTold, IsStep}
use Rattle.flash_actors.proofs.Ending.{cut_off}
use Rattle.flash_actors.proofs.Serving.{served_step, served_as}
use Rattle.flash_actors.proofs.Stepped.{step_new}
use Rattle.flash_actors.proofs.Streams.{none_begun}

-- a journal begins with itself, and with what one that it begins with begins with
pub begins_itself : (a : Option (List Entry)) → Begins a a
begins_itself None = tt
begins_itself (Some h) = ([], append-nil h)

pub begins_both : (a b c : Option (List Entry)) → Begins a b → Begins b c → Begins a c
begins_both None None None one other = tt
begins_both None None (Some k) one other = absurd other
begins_both None (Some j) c one other = absurd one
begins_both (Some h) None c one other = absurd one
begins_both (Some h) (Some j) None one other = absurd other
begins_both (Some h) (Some j) (Some k) one other =
    (one.0 ++ other.0, sym (append_assoc h one.0 other.0) ∙ subst (λ (l : List Entry). l ++ other.0 ≡ k) (sym one.1) other.1)

module _ (g : Geometry) (id : Id) (ask : Ask) (reading : ℕ) (answer : Told) where
  -- a step begins with what was there
  pub step_begins : (P : List Entry → Type 0) (a b : Option (List Entry)) → BothTold (IsStep P g id ask reading answer) a b → Begins a b
  step_begins P None None step = tt
  step_begins P None (Some j) step = absurd step
  step_begins P (Some h) None step = absurd step
  step_begins P (Some h) (Some j) step = (step.more ++ (step.own ++ step.evicted), sym (append_assoc h step.more (step.own ++ step.evicted)) ∙ sym step.whole)

  -- and the next number is new
  pub step_new_told : SessionLaws → (a b : Option (List Entry)) → BothTold (IsStep (AreOfOthers id.pass) g id ask reading answer) a b → IsNewTold a id → IsNewTold b (record { pass = id.pass; seq = id.seq + 1 })
  step_new_told laws None None step new = λ j told. absurd (cc told)
  step_new_told laws None (Some j) step new = absurd step
  step_new_told laws (Some h) None step new = absurd step
  step_new_told laws (Some h) (Some j) step new = λ k told.
      let same : j ≡ k = cc told in
      subst (λ (l : List Entry). IsNew l (record { pass = id.pass; seq = id.seq + 1 })) same (step_new laws g id ask reading answer h j step (new h refl))

-- a session that is served goes on by a step
module _ (laws : SessionLaws) (g : Geometry) (n k : ℕ) (start now : Outside) (service : Service) (ask : Ask) (reading seq : ℕ) (answer : Told) (given_after : Option (List ℕ)) where
  abbrev told_service : Service
  told_service = record service { session = told_at service.session (front_now service.session) answer }

  pub step_served : (a b : Option (List Entry)) → service.session.owed ≡ true → ask_at service.session.step (front_now service.session) ≡ Some ask → service.session.last ≡ seq → Reads now.given reading given_after
      → IsNewTold a (record { pass = n; seq = seq }) → BothTold (IsStep (AreOfOthers n) g (record { pass = n; seq = seq }) ask reading answer) a b → ForSome a (IsServed g n k start now service)
      → ForSome b (IsServed g n k start (record now { given = given_after }) told_service)
  step_served None None owes asks last reads new step was = λ j told. absurd (cc told)
  step_served None (Some j) owes asks last reads new step was = absurd step
  step_served (Some h) None owes asks last reads new step was = absurd step
  step_served (Some h) (Some j) owes asks last reads new step was = λ l told.
      let same : j ≡ l = cc told in
      subst (IsServed g n k start (record now { given = given_after }) told_service) same
      (served_step laws g n k start now service h (was h refl) ask reading answer given_after j owes asks reads
      (subst (λ (m : ℕ). IsNew h (record { pass = n; seq = m })) (sym last) (new h refl))
      (subst (λ (m : ℕ). IsStep (AreOfOthers n) g (record { pass = n; seq = m }) ask reading answer h j) (sym last) step))

-- a count that rose from a greater one rose
rose_from : (before mid after : ℕ) → before ≤ mid → Rose mid after → Rose before after
rose_from before mid after less rose = omega (arith, less, rose)

-- the cause of an end stays, whatever came before
pub cause_from : (end : SessionEnd) (left : Option (List ℕ)) (source source_mid source_after sink sink_mid sink_after : ℕ) → source ≤ source_mid → sink ≤ sink_mid
    → HasCause end left source_mid source_after sink_mid sink_after → HasCause end left source source_after sink sink_after
cause_from ends.End left source source_mid source_after sink sink_mid sink_after one other cause = cause
cause_from ends.SourceFault left source source_mid source_after sink sink_mid sink_after one other cause = rose_from source source_mid source_after one cause
cause_from ends.SinkFault left source source_mid source_after sink sink_mid sink_after one other cause = rose_from sink sink_mid sink_after other cause
cause_from ends.Quit left source source_mid source_after sink sink_mid sink_after one other cause = tt
cause_from ends.LineTooLong left source source_mid source_after sink sink_mid sink_after one other cause = tt
cause_from ends.UsedUp left source source_mid source_after sink sink_mid sink_after one other cause = tt
cause_from ends.NoMemory left source source_mid source_after sink sink_mid sink_after one other cause = tt

-- that of an end for want of a sink is the sink's
pub cause_of_sink : (end : SessionEnd) (left : Option (List ℕ)) (source source_after sink sink_after : ℕ) → IsUnwritten end → HasCause end None 0 0 sink sink_after → HasCause end left source source_after sink sink_after
cause_of_sink ends.SinkFault left source source_after sink sink_after is cause = cause
cause_of_sink ends.NoMemory left source source_after sink sink_after is cause = tt
cause_of_sink ends.Quit left source source_after sink sink_after is cause = absurd is
cause_of_sink ends.End left source source_after sink sink_after is cause = absurd is
cause_of_sink ends.LineTooLong left source source_after sink sink_after is cause = absurd is
cause_of_sink ends.UsedUp left source source_after sink sink_after is cause = absurd is
cause_of_sink ends.SourceFault left source source_after sink sink_after is cause = absurd is

-- a session that is the same is served alike
pub with_session : (g : Geometry) (n k : ℕ) (start now : Outside) (service : Service) (session same : Session) (h : List Entry) → session ≡ same
    → IsServed g n k start now (record service { session = same }) h → IsServed g n k start now (record service { session = session }) h
with_session g n k start now service session same h is served = subst (λ (s : Session). IsServed g n k start now (record service { session = s }) h) (sym is) served

-- what follows where a call succeeded, and where it didn't
pub on_ok : {T E : Type 0} (r : Result T E) (A B : Type 0) → (A → B) → OnOk r A → OnOk r B
on_ok (Ok value) A B follows is = follows is
on_ok (Err error) A B follows is = is

pub if_err : {T E : Type 0} (r : Result T E) (A B : E → Type 0) → ((error : E) → A error → B error) → IfErr r A → IfErr r B
if_err (Ok value) A B follows is = is
if_err (Err error) A B follows is = follows error is

pub if_err_both : {T E : Type 0} (r : Result T E) (A B C : E → Type 0) → ((error : E) → A error → B error → C error) → IfErr r A → IfErr r B → IfErr r C
if_err_both (Ok value) A B C follows one other = one
if_err_both (Err error) A B C follows one other = follows error one other

-- what a session does that has come to need something, it does from where it stood
module _ (g : Geometry) (n : ℕ) (service : Service) (mid : Session) (stands : StandsAs service.session mid) (size : mid.reads.item_max ≡ service.session.reads.item_max) where
  abbrev service_mid : Service
  service_mid = record service { session = mid }

  pub served_mid : (k : ℕ) (start now : Outside) (seen : Option (List Entry)) → SessionLaws → ForSome seen (IsServed g n k start now service) → ForSome seen (IsServed g n k start now service_mid)
  served_mid k start now seen laws was = λ h told. served_as laws g n k start now service h (was h told) mid stands size

  pub goes_from : SessionLaws → (now after : Outside) (new : Service) (seen seen_after : Option (List Entry)) → GoesOn g n now after service_mid new seen seen_after → GoesOn g n now after service new seen seen_after
  goes_from laws now after new seen seen_after goes = λ start k was. goes start k (served_mid k start now seen laws was)

  pub ends_from : SessionLaws → (end : SessionEnd) (now after : Outside) (seen seen_after : Option (List Entry)) → EndsSo g n end now after service_mid seen seen_after → EndsSo g n end now after service seen seen_after
  ends_from laws end now after seen seen_after ends = λ start k was. ends start k (served_mid k start now seen laws was)

-- want of memory before anything was done
pub ends_read : SessionLaws → (g : Geometry) (n : ℕ) (now : Outside) (service : Service) (seen : Option (List Entry)) → ForSome seen (Legal g) → EndsSo g n ends.NoMemory now now service seen seen
ends_read laws g n now service seen legal = λ start k was h told.
    cut_off laws g n k start now service h (was h told) ends.NoMemory now.held tt (legal h told) (none_begun (service.output.gathered.items ++ service.session.out) now.held) tt
