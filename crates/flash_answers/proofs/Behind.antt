-- The outcome of a step, read off a journal that goes on.
use Rattle.std.specs.Option.{option_or}
use Rattle.std.proofs.Common.{◌≡◌, ◌<◌, true, false, List, [], ◌∷◌, ◌++◌, Option, None, Some, refl, sym, ◌∙◌, ap, append_assoc, arith}
use Rattle.std.specs.Prelude.{IsSome}
use Rattle.std.specs.List.{AllByRecursion}
use Rattle.std.proofs.lemmas.List.{append-nil}
use Rattle.std.proofs.lemmas.Bool.{cond-false}
use Rattle.std.proofs.lemmas.Bool.Decides.{nat_tests}
use Rattle.flash_names.specs.declared.place.Id.{Id}
use Rattle.flash_names.specs.declared.geometry.Geometry.{Geometry}
use Rattle.flash_entry.specs.declared.entry.Entry.{Entry}
use Rattle.flash_entry.specs.declared.entry.Entry.TheVariants as entries
use Rattle.flash_entry.specs.declared.found.Told.{Told}
use Rattle.flash_machine.specs.Cache.{Cache, first_cache}
use Rattle.flash_machine.specs.Live.{live_item}
use Rattle.flash_machine.specs.Steps.{next, cache_from, cache_of}
use Rattle.flash_machine.specs.NewSteps.{IsNew, IsEarlier, step_id}
use Rattle.flash_answers.specs.Outcomes.{same_id, entry_outcome, outcome_from, done_outcome, found_outcome}
use Rattle.flash_answers.proofs.Lists.{all_map}

-- the first of three outcomes
first-assoc : (a b c : Option Told) → option_or a (option_or b c) ≡ option_or (option_or a b) c
first-assoc None b c = refl
first-assoc (Some told) b c = refl

-- an outcome that is there stays
first_stays : (a b : Option Told) → IsSome a → option_or a b ≡ a
first_stays None b is = absurd (cc is)
first_stays (Some told) b is = refl

-- none is behind an outcome
or_none : (a : Option Told) → option_or a None ≡ a
or_none None = refl
or_none (Some told) = refl

-- a step has its own number
pub same_self : (id : Id) → same_id id id ≡ true
same_self id = grind (arith, nat_tests)

-- an entry of another step, or of none
abbrev pub IsOther : Id → Option Id → Type 0
IsOther id None = Unit {0}
IsOther id (Some step) = same_id step id ≡ false

-- a step of another pass, or with a greater number, is another
pub later_is_other : (id own : Id) → (own.pass ≡ id.pass → id.seq < own.seq) → same_id own id ≡ false
later_is_other id own later = grind (arith, nat_tests, later)

-- an earlier step is another
earlier_is_other : (id : Id) (step : Option Id) → IsEarlier id step → IsOther id step
earlier_is_other id None earlier = tt
earlier_is_other id (Some step) earlier = grind (arith, nat_tests, earlier)

module _ (g : Geometry) (id : Id) where
  -- the outcome from entries with more after them
  pub outcome_from-append : (h : List Entry) (c : Cache) (xs ys : List Entry)
      → outcome_from g h c id (xs ++ ys) ≡ option_or (outcome_from g h c id xs) (outcome_from g (h ++ xs) (cache_from g h c xs) id ys)
  outcome_from-append h c [] ys = ap (λ (j : List Entry). outcome_from g j c id ys) (sym (append-nil h))
  outcome_from-append h c (x ∷ xs) ys =
      let j = h ++ x ∷ [] in
      let d = next g h c x in
      let front = outcome_from g j d id xs in
      ap (option_or (entry_outcome h c id x))
      (outcome_from-append j d xs ys ∙ ap (λ (k : List Entry). option_or front (outcome_from g k (cache_from g j d xs) id ys)) (append_assoc h (x ∷ []) xs))
      ∙ first-assoc (entry_outcome h c id x) front (outcome_from g (h ++ x ∷ xs) (cache_from g j d xs) id ys)

  -- an entry of another step gives it no outcome
  entry_none : (h : List Entry) (c : Cache) (e : Entry) → IsOther id (step_id e) → entry_outcome h c id e ≡ None
  entry_none h c (entries.Did step done) other = cond-false (same_id step id) (Some (done_outcome done)) None other
  entry_none h c (entries.Looked step key look residence) other = cond-false (same_id step id) (Some (found_outcome c look (live_item h c key))) None other
  entry_none h c _ other = refl

  -- entries of other steps give it none
  no_outcome : (h : List Entry) (c : Cache) (es : List Entry) → AllByRecursion (λ e. IsOther id (step_id e)) es → outcome_from g h c id es ≡ None
  no_outcome h c [] others = refl
  no_outcome h c (e ∷ es) others = ap (λ (o : Option Told). option_or o (outcome_from g (h ++ e ∷ []) (next g h c e) id es)) (entry_none h c e others.0) ∙ no_outcome (h ++ e ∷ []) (next g h c e) es others.1

  -- nor has a step whose number is new
  pub new_has_none : (h : List Entry) → IsNew h id → outcome_from g [] first_cache id h ≡ None
  new_has_none h new = no_outcome [] first_cache h (all_map (λ e. IsEarlier id (step_id e)) (λ e. IsOther id (step_id e)) (λ e earlier. earlier_is_other id (step_id e) earlier) h new.seq)

  -- where it is new, its outcome is what further entries give it
  pub outcome_behind : (h es : List Entry) → IsNew h id → outcome_from g [] first_cache id (h ++ es) ≡ outcome_from g h (cache_of g h) id es
  outcome_behind h es new = outcome_from-append [] first_cache h es ∙ ap (λ (o : Option Told). option_or o (outcome_from g h (cache_of g h) id es)) (new_has_none h new)

  -- entries of other steps leave its outcome
  pub stays_without : (h es : List Entry) → AllByRecursion (λ e. IsOther id (step_id e)) es → outcome_from g [] first_cache id (h ++ es) ≡ outcome_from g [] first_cache id h
  stays_without h es others =
      outcome_from-append [] first_cache h es
      ∙ ap (option_or (outcome_from g [] first_cache id h)) (no_outcome h (cache_of g h) es others)
      ∙ or_none (outcome_from g [] first_cache id h)

  -- and its own outcome, once it is there, is left by any
  pub stays_with : (h es : List Entry) → IsSome (outcome_from g [] first_cache id h) → outcome_from g [] first_cache id (h ++ es) ≡ outcome_from g [] first_cache id h
  stays_with h es known =
      outcome_from-append [] first_cache h es ∙ first_stays (outcome_from g [] first_cache id h) (outcome_from g h (cache_of g h) id es) known
