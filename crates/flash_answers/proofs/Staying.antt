-- The outcomes of a pass, read off a journal that goes on.
use Rattle.std.proofs.Common.{◌≡◌, ◌<◌, ◌≤◌, ℕ, zero, suc, ◌+◌, false, List, [], ◌∷◌, ◌++◌, Option, None, Some, refl, sym, ◌∙◌, ap, subst, inl, inr, add-one, arith}
use Rattle.std.specs.Prelude.{IsSome}
use Rattle.std.proofs.lemmas.Bool.{cases_eq}
use Rattle.flash_names.specs.declared.place.Id.{Id}
use Rattle.flash_names.specs.declared.geometry.Geometry.{Geometry}
use Rattle.flash_entry.specs.declared.ask.Ask.{Ask}
use Rattle.flash_entry.specs.declared.ask.Ask.TheVariants as asks
use Rattle.flash_entry.specs.declared.entry.Entry.{Entry}
use Rattle.flash_entry.specs.declared.entry.Entry.TheVariants as entries
use Rattle.flash_entry.specs.declared.found.Told.{Told}
use Rattle.flash_machine.specs.Cache.{first_cache}
use Rattle.flash_machine.specs.NewSteps.{step_id}
use Rattle.flash_answers.specs.AskCalls.{ask_call}
use Rattle.flash_answers.specs.Laws.{EachAskIsTold, EachAnswerIsAdded, LeaveOutcomes, OutcomesAreInOrder}
use Rattle.flash_answers.specs.Outcomes.{same_id, outcome_from, or_no_memory, outcome, outcomes, HasEntry, HaveEntries}
use Rattle.flash_answers.specs.Records.{done_ask, entry_ask, IsOf, AreOf, AreOfNoStep}
use Rattle.flash_answers.proofs.Behind.{IsOther, later_is_other, stays_with, stays_without}
use Rattle.flash_answers.proofs.Lists.{all_map}
use Rattle.flash_answers.proofs.Recorded.{records_itself}

-- an entry of another step alone
of_other : (id own : Id) (ask : Ask) → same_id own id ≡ false → (e : Entry) → IsOf own ask e → IsOther id (step_id e)
of_other id own ask other (entries.Did step done) of = subst (λ (s : Id). same_id s id ≡ false) (ap (λ (s : Id × Ask). s.0) (sym (of (step, done_ask done) refl))) other
of_other id own ask other (entries.Looked step key look residence) of = subst (λ (s : Id). same_id s id ≡ false) (ap (λ (s : Id × Ask). s.0) (sym (of (step, asks.Look key look) refl))) other
of_other id own ask other _ of = tt

-- and one of no step
of_none : (id : Id) (e : Entry) → entry_ask e ≡ None → IsOther id (step_id e)
of_none id (entries.Did step done) none = absurd (cc none)
of_none id (entries.Looked step key look residence) none = absurd (cc none)
of_none id _ none = tt

-- the outcomes of a pass are the same where each of them is
outcomes_by : (g : Geometry) (pass : ℕ) (j k : List Entry) (n : ℕ) → ((seq : ℕ) → 1 ≤ seq → seq ≤ n → outcome g pass seq j ≡ outcome g pass seq k) → outcomes g pass j n ≡ outcomes g pass k n
outcomes_by g pass j k zero each = refl
outcomes_by g pass j k (suc n) each =
    let front = outcomes_by g pass j k n (λ seq first within. each seq first (omega arith)) in
    ap (λ (told : List Told). told ++ outcome g pass (suc n) j ∷ []) front ∙ ap (λ (told : Told). outcomes g pass k n ++ told ∷ []) (each (suc n) (omega arith) (omega arith))

module _ (g : Geometry) (pass : ℕ) (h es : List Entry) where
  abbrev step : ℕ → Id
  step seq = record { pass = pass; seq = seq }

  all_stay : (n : ℕ) → HaveEntries g pass h n → outcomes g pass (h ++ es) n ≡ outcomes g pass h n
  all_stay n known = outcomes_by g pass (h ++ es) h n (λ seq first within. ap or_no_memory (stays_with g (step seq) h es (known seq first within)))

  pub have_more : (n : ℕ) → HaveEntries g pass h n → HaveEntries g pass (h ++ es) n
  have_more n known seq first within = subst (IsSome {T = Told}) (sym (stays_with g (step seq) h es (known seq first within))) (known seq first within)

  pub others_stay : (n : ℕ) (id : Id) (ask : Ask) → AreOf id ask es → (id.pass ≡ pass → n < id.seq) → outcomes g pass (h ++ es) n ≡ outcomes g pass h n
  others_stay n id ask of later = outcomes_by g pass (h ++ es) h n (λ seq first within.
      let other = later_is_other (step seq) id (λ same. let greater = later same in omega arith) in
      ap or_no_memory (stays_without g (step seq) h es (all_map (IsOf id ask) (λ e. IsOther (step seq) (step_id e)) (of_other (step seq) id ask other) es of)))

  none_stay : (n : ℕ) → AreOfNoStep es → outcomes g pass (h ++ es) n ≡ outcomes g pass h n
  none_stay n none = outcomes_by g pass (h ++ es) h n (λ seq first within.
      ap or_no_memory (stays_without g (step seq) h es (all_map (λ e. entry_ask e ≡ None) (λ e. IsOther (step seq) (step_id e)) (of_none (step seq)) es none)))

  pub outcomes_stay : LeaveOutcomes g pass h es
  outcomes_stay = record { one = λ seq known. stays_with g (step seq) h es known; all = all_stay; have = have_more; others = others_stay; none = none_stay }

pub in_order : OutcomesAreInOrder
in_order g pass h n = rw add-one refl

-- each step up to the next one has an entry
have_next : (g : Geometry) (pass n : ℕ) (j : List Entry) (told : Told) → HaveEntries g pass j n → outcome_from g [] first_cache (record { pass = pass; seq = n + 1 }) j ≡ Some told → HaveEntries g pass j (n + 1)
have_next g pass n j told known own seq first within = elim (cases_eq seq (n + 1)) [
  | inl same ↦ subst (λ (k : ℕ). HasEntry g pass k j) (sym same) (subst (IsSome {T = Told}) (sym own) refl)
  | inr other ↦ known seq first (omega (arith, other))
]

-- the answer of the next step is added to those before it
pub is_added : EachAskIsTold → EachAnswerIsAdded
is_added is_told g c h desk pass n ask is new =
    let id : Id = record { pass = pass; seq = n + 1 } in
    let call = ask_call g c desk id ask in
    let own = is_told g c h desk id ask is new in
    let before = others_stay g pass h call.entries n id ask (records_itself g c desk id ask) (λ same. omega arith) in (
      in_order g pass (h ++ call.entries) n
          ∙ ap (λ (told : List Told). told ++ outcome g pass (n + 1) (h ++ call.entries) ∷ []) before
          ∙ ap (λ (o : Option Told). outcomes g pass h n ++ or_no_memory o ∷ []) own,
      λ known. have_next g pass n (h ++ call.entries) call.answer (have_more g pass h call.entries n known) own,
    )
