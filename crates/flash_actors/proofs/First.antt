-- A session before its first bytes.
use Rattle.std.proofs.Common.{◌≡◌, ℕ, ◌<◌, ◌==◌, cond, Bool, true, false, List, [], ◌∷◌, ◌++◌, map, filter, length, Option, None, Some, refl, sym, ◌∙◌, ap, subst, eq-eqb, arith}
use Rattle.std.specs.List.{cons_option}
use Rattle.std.specs.Option.{ForSome}
use Rattle.std.proofs.lemmas.Option.{same_Some}
use Rattle.flash_names.specs.Shared.{own_of, told_length}
use Rattle.flash_names.specs.declared.geometry.Geometry.{Geometry}
use Rattle.flash_names.specs.declared.place.Id.{Id}
use Rattle.flash_entry.specs.declared.ask.Ask.{Ask}
use Rattle.flash_entry.specs.declared.ask.Ask.TheVariants as asks
use Rattle.flash_entry.specs.declared.entry.Entry.{Entry}
use Rattle.flash_entry.specs.declared.entry.Entry.TheVariants as entries
use Rattle.flash_machine.specs.Cache.{first_cache}
use Rattle.flash_machine.specs.Legal.{Legal}
use Rattle.flash_machine.specs.NewSteps.{IsEarlier, step_id}
use Rattle.flash_core.specs.SharedStore.{step_pair, step_pairs, told_pairs}
use Rattle.flash_core.specs.Sound.{IsNewTold}
use Rattle.flash_answers.specs.Records.{done_ask, entry_ask, IsOneOf, IsOfOther, AreOfOthers, Keeps}
use Rattle.flash_session.specs.Stands.{Stands}
use Rattle.flash_session.specs.States.{Session, first_session}
use Rattle.flash_actors.specs.declared.service.Service.{Service}
use Rattle.flash_actors.specs.declared.session_end.SessionEnd.TheVariants as ends
use Rattle.flash_actors.specs.Headline.{Outside, talk_over, IsHeadline}
use Rattle.flash_actors.specs.Laws.{SessionLaws}
use Rattle.flash_actors.specs.Serving.{rest_of, IsServed}
use Rattle.flash_actors.specs.Timing.{AreRead}
use Rattle.flash_actors.proofs.OnTime.{others_on_time}
use Rattle.flash_actors.proofs.Others.{all_map}
use Rattle.flash_actors.proofs.Streams.{none_taken, none_begun, none_written}

-- an entry that is asked for is its step's
asked_pair : (e : Entry) (id : Id) (ask : Ask) → entry_ask e ≡ Some (id, ask) → step_pair e ≡ Some (id.pass, e)
asked_pair (entries.Did other done) id ask is = ap (λ (p : Id × Ask). Some (p.0.pass, entries.Did other done)) (same_Some (other, done_ask done) (id, ask) is)
asked_pair (entries.Looked other key look residence) id ask is =
    ap (λ (p : Id × Ask). Some (p.0.pass, entries.Looked other key look residence)) (same_Some (other, asks.Look key look) (id, ask) is)
asked_pair _ id ask is = absurd (cc is)

-- the first of pairs of which none is the pass's is another's
first_other : (n m : ℕ) (e : Entry) (rest : List (ℕ × Entry)) (test : Bool) → (m == n) ≡ test
    → map (λ (p : ℕ × Entry). p.1) (cond test ((m, e) ∷ rest) rest) ≡ [] → (m ≡ n → ⊥) × (map (λ (p : ℕ × Entry). p.1) rest ≡ [])
first_other n m e rest true is none = absurd (cc none)
first_other n m e rest false is none = ((λ same. absurd (cc (eq-eqb m n same, is))), none)

one_other : (n : ℕ) (e : Entry) (es : List Entry) (pair : Option (ℕ × Entry)) → step_pair e ≡ pair → own_of n (cons_option pair (step_pairs es)) ≡ []
    → IsOfOther n e × (own_of n (step_pairs es) ≡ [])
one_other n e es None is none = ((λ step asked. absurd (cc (asked_pair e step.0 step.1 asked, is))), none)
one_other n e es (Some pair) is none =
    let parts = first_other n pair.0 pair.1 (filter (λ (p : ℕ × Entry). p.0 == n) (step_pairs es)) (pair.0 == n) refl none in
    ((λ step asked same. parts.0 (ap (λ (p : ℕ × Entry). p.0) (same_Some pair (step.0.pass, e) (sym is ∙ asked_pair e step.0 step.1 asked)) ∙ same)), parts.1)

-- entries of which none is the pass's
all_other : (n : ℕ) (es : List Entry) → own_of n (step_pairs es) ≡ [] → AreOfOthers n es
all_other n [] none = tt
all_other n (e ∷ es) none =
    let parts = one_other n e es (step_pair e) refl none in
    (parts.0, all_other n es parts.1)

pub told_other : (n : ℕ) (seen : Option (List Entry)) → [] ≡ own_of n (told_pairs seen) → ForSome seen (AreOfOthers n)
told_other n None none = λ h told. absurd (cc told)
told_other n (Some h) none = λ j told. let same : h ≡ j = cc told in subst (AreOfOthers n) same (all_other n h (sym none))

-- the pass's numbers are new
other_earlier : (id : Id) (e : Entry) → IsOfOther id.pass e → IsEarlier id (step_id e)
other_earlier id (entries.Did step done) other = λ same. absurd (other (step, done_ask done) refl same)
other_earlier id (entries.Looked step key look residence) other = λ same. absurd (other (step, asks.Look key look) refl same)
other_earlier id _ other = tt

pub first_new : (n : ℕ) (seen : Option (List Entry)) → 0 < n → ForSome seen (AreOfOthers n) → (seq : ℕ) → IsNewTold seen (record { pass = n; seq = seq })
first_new n seen some others seq = λ h told. record {
  pass = some;
  seq = all_map (IsOfOther n) (λ e. IsEarlier (record { pass = n; seq = seq }) (step_id e)) (λ e other. other_earlier (record { pass = n; seq = seq }) e other) h (others h told);
}

module _ (g : Geometry) (n : ℕ) (start : Outside) where
  first_keeps : (steps : List Ask) (h : List Entry) → AreOfOthers n h → Keeps steps n h
  first_keeps steps h others = all_map (IsOfOther n) (λ e. ForSome (entry_ask e) (IsOneOf n steps)) (λ e other step asked same. absurd (other step asked same)) h others

  first_read : (given : Option (List ℕ)) (h : List Entry) → AreOfOthers n h → ForSome given (AreRead g n 0 (told_length given) h)
  first_read None h others = λ all told. absurd (cc told)
  first_read (Some readings) h others = λ all told.
      let same : readings ≡ all = cc told in
      record {
        count = ap (λ (l : List ℕ). length l) (sym same) ∙ omega arith;
        timed = others_on_time g n (length readings) all [] first_cache h others;
      }

  -- it is served from then on
  pub first_served : SessionLaws → (service : Service) (pass item_max : ℕ) (seen : Option (List Entry)) → service.session ≡ first_session pass item_max → item_max ≡ g.item_max → rest_of service.input ≡ []
      → service.output.gathered.items ≡ [] → ForSome seen (AreOfOthers n) → ForSome seen (IsServed g n (told_length start.given) start start service)
  first_served laws service pass item_max seen session size nothing none others = λ h told. record {
    fed = [];
    told = [];
    sent = [];
    taken = none_taken (rest_of service.input) start.left nothing;
    written = none_written start.held;
    stands =
        subst (λ (s : Session). Stands [] [] ([] ++ service.output.gathered.items) s) (sym session)
        (subst (λ (l : List ℕ). Stands [] [] l (first_session pass item_max)) (sym none) (laws.first pass item_max));
    size = ap (λ (s : Session). s.reads.item_max) session ∙ size;
    outcomes = refl;
    keeps = first_keeps (talk_over g [] []).asks h (others h told);
    read = first_read start.given h (others h told);
  }

  -- or ends for want of memory
  pub first_refused : (seen : Option (List Entry)) → ForSome seen (Legal g) → ForSome seen (AreOfOthers n) → ForSome seen (IsHeadline g n (told_length start.given) ends.NoMemory start start)
  first_refused seen legal others = λ h told. record {
    bytes = [];
    told = [];
    taken = none_taken [] start.left refl;
    legal = legal h told;
    outcomes = refl;
    keeps = first_keeps (talk_over g [] []).asks h (others h told);
    timed = λ all given. (first_read start.given h (others h told) all given).timed;
    answered = none_begun (talk_over g [] []).replies start.held;
    place = tt;
    used = tt;
  }
