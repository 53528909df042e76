-- Numbers of steps are never given twice.
use Rattle.std.proofs.Common.{◌≡◌, ◌≢◌, ℕ, ◌+◌, ◌≤◌, List, ◌++◌, Option, None, Some, refl, sym, ap, subst, arith}
use Rattle.flash_names.specs.declared.place.Id.{Id}
use Rattle.flash_entry.specs.declared.ask.Ask.{Ask}
use Rattle.flash_entry.specs.declared.ask.Ask.TheVariants as asks
use Rattle.flash_entry.specs.declared.entry.Entry.{Entry}
use Rattle.flash_entry.specs.declared.entry.Entry.TheVariants as entries
use Rattle.flash_machine.specs.NewSteps.{IsNew, IsEarlier, step_id}
use Rattle.flash_calls.proofs.Sweeping.{new_behind}
use Rattle.flash_answers.specs.Laws.{NumbersStayNew}
use Rattle.flash_answers.specs.Records.{done_ask, entry_ask, IsOf, AreOf, AreOfNoStep}
use Rattle.flash_answers.proofs.Lists.{all_map}

-- the number that an entry records is earlier
abbrev IsBefore : Id → Entry → Type 0
IsBefore id e = IsEarlier id (step_id e)

-- an entry of an earlier step alone
of_earlier : (id own : Id) (ask : Ask) → IsEarlier id (Some own) → (e : Entry) → IsOf own ask e → IsBefore id e
of_earlier id own ask earlier (entries.Did step done) of = subst (λ (s : Id). IsEarlier id (Some s)) (ap (λ (s : Id × Ask). s.0) (sym (of (step, done_ask done) refl))) earlier
of_earlier id own ask earlier (entries.Looked step key look residence) of = subst (λ (s : Id). IsEarlier id (Some s)) (ap (λ (s : Id × Ask). s.0) (sym (of (step, asks.Look key look) refl))) earlier
of_earlier id own ask earlier _ of = tt

-- and one of no step
of_none : (id : Id) (e : Entry) → entry_ask e ≡ None → IsBefore id e
of_none id (entries.Did step done) none = absurd (cc none)
of_none id (entries.Looked step key look residence) none = absurd (cc none)
of_none id _ none = tt

module _ (h es : List Entry) where
  -- a number is new after the entries of an earlier step
  new_after : (id own : Id) (ask : Ask) → AreOf own ask es → IsEarlier id (Some own) → IsNew h id → IsNew (h ++ es) id
  new_after id own ask of earlier new = new_behind h id es new (all_map (IsOf own ask) (IsBefore id) (of_earlier id own ask earlier) es of)

  -- and after entries of no step
  none_new : (id : Id) → AreOfNoStep es → IsNew h id → IsNew (h ++ es) id
  none_new id none new = new_behind h id es new (all_map (λ e. entry_ask e ≡ None) (IsBefore id) (of_none id) es none)

  -- another pass's number is new where it was
  other_new : (id other : Id) (ask : Ask) → AreOf id ask es → other.pass ≢ id.pass → IsNew h other → IsNew (h ++ es) other
  other_new id other ask of differ new = new_after other id ask of (λ same. absurd (differ (sym same))) new

-- a greater number is new where this one is
module _ (pass seq more : ℕ) (le : seq ≤ more) where
  earlier_more : (step : Option Id) → IsEarlier (record { pass = pass; seq = seq }) step → IsEarlier (record { pass = pass; seq = more }) step
  earlier_more None earlier = tt
  earlier_more (Some step) earlier = λ same. let was = earlier same in omega arith

  new_more : (h : List Entry) → IsNew h (record { pass = pass; seq = seq }) → IsNew h (record { pass = pass; seq = more })
  new_more h new = record {
    pass = new.pass;
    seq = all_map (IsBefore (record { pass = pass; seq = seq })) (IsBefore (record { pass = pass; seq = more })) (λ e earlier. earlier_more (step_id e) earlier) h new.seq;
  }

-- after the entries of a pass's step its next number is new
next_new : (h es : List Entry) (id : Id) (ask : Ask) → AreOf id ask es → IsNew h id → IsNew (h ++ es) (record { pass = id.pass; seq = id.seq + 1 })
next_new h es id ask of new =
    new_after h es (record { pass = id.pass; seq = id.seq + 1 }) id ask of (λ same. omega arith) (new_more id.pass id.seq (id.seq + 1) (omega arith) h new)

pub stay_new : NumbersStayNew
stay_new h es = record { next = next_new h es; others = other_new h es; none = none_new h es }
