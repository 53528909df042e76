-- Entries of other passes, and of no step, leave what a session knows of its own.
use Rattle.std.proofs.Common.{◌≡◌, ℕ, List, [], ◌∷◌, ◌++◌, Option, None, Some, refl, sym, ◌∙◌, ap, subst, append_assoc}
use Rattle.std.proofs.lemmas.List.{append-nil}
use Rattle.std.specs.List.{AllByRecursion}
use Rattle.std.specs.Option.{ForSome}
use Rattle.flash_names.specs.declared.place.Id.{Id}
use Rattle.flash_names.specs.declared.geometry.Geometry.{Geometry}
use Rattle.flash_entry.specs.declared.ask.Ask.{Ask}
use Rattle.flash_entry.specs.declared.entry.Entry.{Entry}
use Rattle.flash_machine.specs.NewSteps.{IsNew}
use Rattle.flash_calls.proofs.Quiet.{all_behind}
use Rattle.flash_answers.specs.Laws.{OutcomesStay, NumbersStayNew}
use Rattle.flash_answers.specs.Outcomes.{outcomes}
use Rattle.flash_answers.specs.Records.{entry_ask, IsOf, AreOf, IsOneOf, IsOfOther, AreOfOthers, AreOfNoStep, Keeps}

-- what is true of each element is true of each, if it follows
pub all_map : {A : Type 0} (P Q : A → Type 0) → ((x : A) → P x → Q x) → (xs : List A) → AllByRecursion P xs → AllByRecursion Q xs
all_map P Q follows [] all = tt
all_map P Q follows (x ∷ xs) all = (follows x all.0, all_map P Q follows xs all.1)

-- entries of no step are of others
pub none_are_others : (pass : ℕ) (es : List Entry) → AreOfNoStep es → AreOfOthers pass es
none_are_others pass es none = all_map (λ e. entry_ask e ≡ None) (IsOfOther pass) (λ e is step asked. absurd (cc (is, asked))) es none

-- and record no step but this one
pub none_are_of : (id : Id) (ask : Ask) (es : List Entry) → AreOfNoStep es → AreOf id ask es
none_are_of id ask es none = all_map (λ e. entry_ask e ≡ None) (IsOf id ask) (λ e is step asked. absurd (cc (is, asked))) es none

-- one entry is of its own step alone
pub of_one : (e : Entry) (step : Id × Ask) → entry_ask e ≡ Some step → IsOf step.0 step.1 e
of_one e step is other asked = let same : step ≡ other = cc (is, asked) in sym same

-- entries, one after the other, leave the outcomes
module _ (law : OutcomesStay) (g : Geometry) (pass n : ℕ) where
  one_outcomes : (h : List Entry) (e : Entry) (step : Option (Id × Ask)) → entry_ask e ≡ step → IsOfOther pass e → outcomes g pass (h ++ e ∷ []) n ≡ outcomes g pass h n
  one_outcomes h e None is other = (law g pass h (e ∷ [])).none n (is, tt)
  one_outcomes h e (Some step) is other = (law g pass h (e ∷ [])).others n step.0 step.1 (of_one e step is, tt) (λ same. absurd (other step is same))

  pub others_leave_outcomes : (h es : List Entry) → AreOfOthers pass es → outcomes g pass (h ++ es) n ≡ outcomes g pass h n
  others_leave_outcomes h [] others = ap (λ (j : List Entry). outcomes g pass j n) (append-nil h)
  others_leave_outcomes h (e ∷ es) others =
      ap (λ (j : List Entry). outcomes g pass j n) (sym (append_assoc h (e ∷ []) es))
      ∙ others_leave_outcomes (h ++ e ∷ []) es others.1 ∙ one_outcomes h e (entry_ask e) refl others.0

-- and a number of the pass that is new
module _ (law : NumbersStayNew) (id : Id) where
  one_number : (h : List Entry) (e : Entry) (step : Option (Id × Ask)) → entry_ask e ≡ step → IsOfOther id.pass e → IsNew h id → IsNew (h ++ e ∷ []) id
  one_number h e None is other new = (law h (e ∷ [])).none id (is, tt) new
  one_number h e (Some step) is other new = (law h (e ∷ [])).others step.0 id step.1 (of_one e step is, tt) (λ same. other step is (sym same)) new

  pub others_leave_numbers : (h es : List Entry) → AreOfOthers id.pass es → IsNew h id → IsNew (h ++ es) id
  others_leave_numbers h [] others new = subst (λ (j : List Entry). IsNew j id) (sym (append-nil h)) new
  others_leave_numbers h (e ∷ es) others new =
      subst (λ (j : List Entry). IsNew j id) (append_assoc h (e ∷ []) es)
      (others_leave_numbers (h ++ e ∷ []) es others.1 (one_number h e (entry_ask e) refl others.0 new))

-- and the asks of the pass
pub others_leave_asks : (steps : List Ask) (pass : ℕ) (h es : List Entry) → AreOfOthers pass es → Keeps steps pass h → Keeps steps pass (h ++ es)
others_leave_asks steps pass h es others keeps =
    all_behind (λ e. ForSome (entry_ask e) (IsOneOf pass steps)) h es keeps
    (all_map (IsOfOther pass) (λ e. ForSome (entry_ask e) (IsOneOf pass steps)) (λ e other step asked same. absurd (other step asked same)) es others)
