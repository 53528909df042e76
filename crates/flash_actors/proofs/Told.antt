-- What a step was told, read off the journal that has its entry.
use Rattle.std.specs.Option.{option_or}
use Rattle.std.proofs.Common.{◌≡◌, ◌<◌, false, List, [], ◌∷◌, ◌++◌, Option, None, Some, refl, sym, ◌∙◌, ap, append_assoc, arith}
use Rattle.std.specs.List.{AllByRecursion}
use Rattle.std.proofs.lemmas.List.{append-nil}
use Rattle.std.proofs.lemmas.Bool.{cond-false}
use Rattle.std.proofs.lemmas.Bool.Decides.{nat_tests}
use Rattle.flash_names.specs.declared.place.Id.{Id}
use Rattle.flash_names.specs.declared.geometry.Geometry.{Geometry}
use Rattle.flash_entry.specs.declared.entry.Entry.{Entry}
use Rattle.flash_entry.specs.declared.entry.Entry.TheVariants as entries
use Rattle.flash_entry.specs.declared.found.Told.{Told}
use Rattle.flash_machine.specs.Cache.{Cache, first_cache}
use Rattle.flash_machine.specs.Live.{live_item}
use Rattle.flash_machine.specs.Steps.{next, cache_from, cache_of}
use Rattle.flash_machine.specs.NewSteps.{IsNew, IsEarlier, step_id}
use Rattle.flash_answers.specs.Outcomes.{same_id, entry_outcome, outcome_from, done_outcome, found_outcome, or_no_memory, outcome}

-- the first of three outcomes
first-assoc : (a b c : Option Told) → option_or a (option_or b c) ≡ option_or (option_or a b) c
first-assoc None b c = refl
first-assoc (Some told) b c = refl

-- an earlier step is another
earlier_other : (id step : Id) → (step.pass ≡ id.pass → step.seq < id.seq) → same_id step id ≡ false
earlier_other id step earlier = grind (arith, nat_tests, earlier)

module _ (g : Geometry) (id : Id) where
  -- the outcome from entries with more after them
  outcome_from-append : (h : List Entry) (c : Cache) (xs ys : List Entry)
      → outcome_from g h c id (xs ++ ys) ≡ option_or (outcome_from g h c id xs) (outcome_from g (h ++ xs) (cache_from g h c xs) id ys)
  outcome_from-append h c [] ys = ap (λ (j : List Entry). outcome_from g j c id ys) (sym (append-nil h))
  outcome_from-append h c (x ∷ xs) ys =
      let j = h ++ x ∷ [] in
      let d = next g h c x in
      let front = outcome_from g j d id xs in
      ap (option_or (entry_outcome h c id x))
      (outcome_from-append j d xs ys ∙ ap (λ (k : List Entry). option_or front (outcome_from g k (cache_from g j d xs) id ys)) (append_assoc h (x ∷ []) xs))
      ∙ first-assoc (entry_outcome h c id x) front (outcome_from g (h ++ x ∷ xs) (cache_from g j d xs) id ys)

  -- an entry of an earlier step gives it no outcome
  entry_none : (h : List Entry) (c : Cache) (e : Entry) → IsEarlier id (step_id e) → entry_outcome h c id e ≡ None
  entry_none h c (entries.Did step done) earlier = cond-false (same_id step id) (Some (done_outcome done)) None (earlier_other id step earlier)
  entry_none h c (entries.Looked step key look residence) earlier = cond-false (same_id step id) (Some (found_outcome c look (live_item h c key))) None (earlier_other id step earlier)
  entry_none h c _ earlier = refl

  none_from : (h : List Entry) (c : Cache) (es : List Entry) → AllByRecursion (λ e. IsEarlier id (step_id e)) es → outcome_from g h c id es ≡ None
  none_from h c [] earlier = refl
  none_from h c (e ∷ es) earlier =
      ap (λ (o : Option Told). option_or o (outcome_from g (h ++ e ∷ []) (next g h c e) id es)) (entry_none h c e earlier.0)
      ∙ none_from (h ++ e ∷ []) (next g h c e) es earlier.1

  -- a step whose number is new has the outcome that its entry gives it, whatever is behind it
  pub told_by : (h : List Entry) (e : Entry) (behind : List Entry) (told : Told) → IsNew h id → entry_outcome h (cache_of g h) id e ≡ Some told → outcome g id.pass id.seq (h ++ e ∷ behind) ≡ told
  told_by h e behind told new is =
      ap or_no_memory
      (outcome_from-append [] first_cache h (e ∷ behind)
      ∙ ap (λ (o : Option Told). option_or o (outcome_from g h (cache_of g h) id (e ∷ behind))) (none_from [] first_cache h new.seq)
      ∙ ap (λ (o : Option Told). option_or o (outcome_from g (h ++ e ∷ []) (next g h (cache_of g h) e) id behind)) is)
