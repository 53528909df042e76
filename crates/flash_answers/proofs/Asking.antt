-- The asks that a journal keeps to, as it goes on.
use Rattle.std.proofs.Common.{◌≡◌, ◌≢◌, ℕ, ◌+◌, ◌-◌, List, [], ◌∷◌, ◌++◌, length, None, sym, ◌∙◌, ap, subst, arith}
use Rattle.std.specs.Prelude.{slice_get}
use Rattle.std.specs.Option.{ForSome}
use Rattle.flash_names.specs.declared.place.Id.{Id}
use Rattle.flash_entry.specs.declared.ask.Ask.{Ask}
use Rattle.flash_entry.specs.declared.entry.Entry.{Entry}
use Rattle.flash_calls.proofs.Quiet.{all_behind}
use Rattle.flash_answers.specs.Laws.{AsksAreKept}
use Rattle.flash_answers.specs.Records.{entry_ask, IsOf, AreOf, AreOfNoStep, IsOneOf, Keeps}
use Rattle.flash_answers.proofs.Lists.{all_map, get-front, get-seam}

module _ (pass : ℕ) where
  -- a step of the pass that an entry records is one of these
  abbrev IsListed : List Ask → Entry → Type 0
  IsListed steps e = ForSome (entry_ask e) (IsOneOf pass steps)

  -- a step of fewer asks is one of more
  one_of_more : (steps more : List Ask) (step : Id × Ask) → IsOneOf pass steps step → IsOneOf pass (steps ++ more) step
  one_of_more steps more step one = λ mine. let is = one mine in (is.0, get-front steps more (step.0.seq - 1) step.1 is.1)

  -- so a journal that keeps to fewer asks keeps to more
  keeps_more : (steps more : List Ask) (h : List Entry) → Keeps steps pass h → Keeps (steps ++ more) pass h
  keeps_more steps more h keeps = all_map (IsListed steps) (IsListed (steps ++ more)) (λ e listed step is. one_of_more steps more step (listed step is)) h keeps

  -- the next step is the last of one more
  own_keeps : (steps : List Ask) (ask : Ask) (es : List Entry) → AreOf (record { pass = pass; seq = length steps + 1 }) ask es → Keeps (steps ++ ask ∷ []) pass es
  own_keeps steps ask es of =
      let own : Id = record { pass = pass; seq = length steps + 1 } in
      let one : IsOneOf pass (steps ++ ask ∷ []) (own, ask) = λ mine.
      (omega arith, ap (slice_get (steps ++ ask ∷ [])) (omega arith) ∙ get-seam steps ask) in
      all_map (IsOf own ask) (IsListed (steps ++ ask ∷ [])) (λ e is step recorded. subst (IsOneOf pass (steps ++ ask ∷ [])) (sym (is step recorded)) one) es of

  -- a step of another pass is none of it
  other_keeps : (steps : List Ask) (id : Id) (ask : Ask) (es : List Entry) → id.pass ≢ pass → AreOf id ask es → Keeps steps pass es
  other_keeps steps id ask es other of =
      all_map (IsOf id ask) (IsListed steps) (λ e is step recorded mine. absurd (other (ap (λ (t : Id × Ask). t.0.pass) (sym (is step recorded)) ∙ mine))) es of

  -- and no step is
  none_keeps : (steps : List Ask) (es : List Entry) → AreOfNoStep es → Keeps steps pass es
  none_keeps steps es none = all_map (λ e. entry_ask e ≡ None) (IsListed steps) (λ e unasked step recorded. absurd (cc (unasked, recorded))) es none

pub asks_are_kept : AsksAreKept
asks_are_kept pass steps h es = record {
  next = λ ask of keeps. all_behind (IsListed pass (steps ++ ask ∷ [])) h es (keeps_more pass steps (ask ∷ []) h keeps) (own_keeps pass steps ask es of);
  others = λ id ask of other keeps. all_behind (IsListed pass steps) h es keeps (other_keeps pass steps id ask es other of);
  none = λ none keeps. all_behind (IsListed pass steps) h es keeps (none_keeps pass steps es none);
}
