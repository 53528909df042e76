-- What a turn of the lock leaves of what its pass had seen.
use Rattle.std.proofs.Common.{◌≡◌, ◌≢◌, ℕ, ◌==◌, not, cond, Bool, true, false, List, [], ◌∷◌, ◌++◌, map, filter, Option, None, Some, refl, sym, ◌∙◌, ap, subst, eq-eqb, append_assoc}
use Rattle.std.specs.List.{AllByRecursion, cons_option}
use Rattle.std.specs.Option.{ForSome}
use Rattle.std.proofs.lemmas.List.{append-nil, map-append}
use Rattle.std.proofs.lemmas.List.Elements.{filter-append, filter_map-append}
use Rattle.std.proofs.lemmas.Option.{same_Some}
use Rattle.flash_names.specs.Shared.{Begins, own_of, without}
use Rattle.flash_names.specs.declared.place.Id.{Id}
use Rattle.flash_names.specs.declared.geometry.Geometry.{Geometry}
use Rattle.flash_entry.specs.declared.ask.Ask.{Ask}
use Rattle.flash_entry.specs.declared.ask.Ask.TheVariants as asks
use Rattle.flash_entry.specs.declared.entry.Entry.{Entry}
use Rattle.flash_entry.specs.declared.entry.Entry.TheVariants as entries
use Rattle.flash_entry.specs.declared.found.Told.{Told}
use Rattle.flash_machine.specs.Cache.{Cache}
use Rattle.flash_machine.specs.Legal.{Legal}
use Rattle.flash_machine.specs.NewSteps.{IsNew, IsEarlier, step_id}
use Rattle.flash_core.specs.SharedStore.{step_pair, step_pairs, told_pairs}
use Rattle.flash_core.specs.Sound.{IsNewTold, IsToldRun}
use Rattle.flash_calls.proofs.Quiet.{all_behind}
use Rattle.flash_calls.proofs.Sweeping.{new_behind}
use Rattle.flash_answers.specs.Records.{done_ask, entry_ask, AreOfNoStep, IsOfOther, AreOfOthers}
use Rattle.flash_actors.specs.Stepping.{BothTold, IsNoted, IsStep}
use Rattle.flash_actors.proofs.OwnReads.{reads_unasked}
use Rattle.flash_actors.proofs.Evicting.{evictions_unasked}
use Rattle.flash_actors.proofs.Locked.{step_behind}

module _ {O : Type 0} where
  own_of-append : (n : ℕ) (xs ys : List (ℕ × O)) → own_of n (xs ++ ys) ≡ own_of n xs ++ own_of n ys
  own_of-append n xs ys =
      let mine = λ (p : ℕ × O). p.0 == n in
      ap (map (λ (p : ℕ × O). p.1)) (filter-append mine xs ys) ∙ map-append (λ (p : ℕ × O). p.1) (filter mine xs) (filter mine ys)

  without-append : (n : ℕ) (xs ys : List (ℕ × O)) → without n (xs ++ ys) ≡ without n xs ++ without n ys
  without-append n xs ys = filter-append (λ (p : ℕ × O). not (p.0 == n)) xs ys

-- what stands behind a list that doesn't change it is nothing
nothing_behind : {A : Type 0} (xs ys : List A) → xs ++ ys ≡ xs → ys ≡ []
nothing_behind [] ys is = is
nothing_behind (x ∷ xs) ys is = nothing_behind xs ys (cc is)

-- an entry that is asked for is its step's
asked_pair : (e : Entry) (id : Id) (ask : Ask) → entry_ask e ≡ Some (id, ask) → step_pair e ≡ Some (id.pass, e)
asked_pair (entries.Did other done) id ask is = ap (λ (p : Id × Ask). Some (p.0.pass, entries.Did other done)) (same_Some (other, done_ask done) (id, ask) is)
asked_pair (entries.Looked other key look residence) id ask is =
    ap (λ (p : Id × Ask). Some (p.0.pass, entries.Looked other key look residence)) (same_Some (other, asks.Look key look) (id, ask) is)
asked_pair _ id ask is = absurd (cc is)

-- and one that is not is none's
unasked_pair : (e : Entry) → entry_ask e ≡ None → step_pair e ≡ None
unasked_pair (entries.Did id done) none = absurd (cc none)
unasked_pair (entries.Looked id key look residence) none = absurd (cc none)
unasked_pair _ none = refl

-- the first of pairs of which none is the pass's is another's
first_other : (n m : ℕ) (e : Entry) (rest : List (ℕ × Entry)) (test : Bool) → (m == n) ≡ test
    → map (λ (p : ℕ × Entry). p.1) (cond test ((m, e) ∷ rest) rest) ≡ [] → (m ≢ n) × (map (λ (p : ℕ × Entry). p.1) rest ≡ [])
first_other n m e rest true is none = absurd (cc none)
first_other n m e rest false is none = ((λ same. absurd (cc (eq-eqb m n same, is))), none)

-- an entry, and entries after it, of which none is the pass's
one_other : (n : ℕ) (e : Entry) (es : List Entry) (pair : Option (ℕ × Entry)) → step_pair e ≡ pair → own_of n (cons_option pair (step_pairs es)) ≡ []
    → IsOfOther n e × (own_of n (step_pairs es) ≡ [])
one_other n e es None is none = ((λ step asked. absurd (cc (asked_pair e step.0 step.1 asked, is))), none)
one_other n e es (Some pair) is none =
    let parts = first_other n pair.0 pair.1 (filter (λ (p : ℕ × Entry). p.0 == n) (step_pairs es)) (pair.0 == n) refl none in
    ((λ step asked same. parts.0 (ap (λ (p : ℕ × Entry). p.0) (same_Some pair (step.0.pass, e) (sym is ∙ asked_pair e step.0 step.1 asked)) ∙ same)), parts.1)

all_other : (n : ℕ) (es : List Entry) → own_of n (step_pairs es) ≡ [] → AreOfOthers n es
all_other n [] none = tt
all_other n (e ∷ es) none =
    let parts = one_other n e es (step_pair e) refl none in
    (parts.0, all_other n es parts.1)

-- entries that change none of the pass's
none_behind : (n : ℕ) (xs ys : List Entry) → own_of n (step_pairs (xs ++ ys)) ≡ own_of n (step_pairs xs) → AreOfOthers n ys
none_behind n xs ys same =
    all_other n ys (nothing_behind (own_of n (step_pairs xs)) (own_of n (step_pairs ys))
    (sym (ap (own_of n) (filter_map-append step_pair xs ys) ∙ own_of-append n (step_pairs xs) (step_pairs ys)) ∙ same))

-- entries of no step are of others
none_other : (n : ℕ) (es : List Entry) → AreOfNoStep es → AreOfOthers n es
none_other n [] none = tt
none_other n (e ∷ es) none = ((λ step asked. absurd (cc (none.0, asked))), none_other n es none.1)

no_pairs : (es : List Entry) → AreOfNoStep es → step_pairs es ≡ []
no_pairs [] none = refl
no_pairs (e ∷ es) none = ap (λ (pair : Option (ℕ × Entry)). cons_option pair (step_pairs es)) (unasked_pair e none.0) ∙ no_pairs es none.1

-- a number that is new stays so after entries of others
other_earlier : (id : Id) (e : Entry) → IsOfOther id.pass e → IsEarlier id (step_id e)
other_earlier id (entries.Did step done) other = λ same. absurd (other (step, done_ask done) refl same)
other_earlier id (entries.Looked step key look residence) other = λ same. absurd (other (step, asks.Look key look) refl same)
other_earlier id _ other = tt

others_earlier : (id : Id) (es : List Entry) → AreOfOthers id.pass es → AllByRecursion (λ e. IsEarlier id (step_id e)) es
others_earlier id [] others = tt
others_earlier id (e ∷ es) others = (other_earlier id e others.0, others_earlier id es others.1)

pub taken_new : (a b : Option (List Entry)) (id : Id) → Begins a b → own_of id.pass (told_pairs b) ≡ own_of id.pass (told_pairs a) → IsNewTold a id → IsNewTold b id
taken_new None None id begins same new = λ h told. absurd (cc told)
taken_new None (Some j) id begins same new = absurd begins
taken_new (Some h) None id begins same new = absurd begins
taken_new (Some h) (Some j) id begins same new =
    let none = none_behind id.pass h begins.0 (ap (λ (l : List Entry). own_of id.pass (step_pairs l)) begins.1 ∙ same) in
    let there : IsNew j id = subst (λ (l : List Entry). IsNew l id) begins.1 (new_behind h id begins.0 (new h refl) (others_earlier id begins.0 none)) in
    λ k told. let one : j ≡ k = cc told in subst (λ (l : List Entry). IsNew l id) one there

module _ (g : Geometry) (id : Id) (ask : Ask) (reading : ℕ) (answer : Told) where
  without_own : (front own : List Entry) → IsNoted g id ask reading answer front own → without id.pass (step_pairs own) ≡ []
  without_own front [] noted = refl
  without_own front (e ∷ behind) noted =
      ap (λ (o : Option (ℕ × Entry)). without id.pass (cons_option o (step_pairs behind))) (asked_pair e id ask noted.0.asked)
      ∙ ap (λ (l : List (ℕ × Entry)). without id.pass ((id.pass, e) ∷ l)) (no_pairs behind (reads_unasked id behind noted.1))
      ∙ ap (λ b. cond (not b) ((id.pass, e) ∷ []) []) (eq-eqb id.pass id.pass refl)

  -- a step changes nothing of other passes
  step_without : (h j : List Entry) → IsStep AreOfNoStep g id ask reading answer h j → without id.pass (step_pairs j) ≡ without id.pass (step_pairs h)
  step_without h j step =
      ap (λ (l : List Entry). without id.pass (step_pairs l)) step.whole
      ∙ ap (without id.pass) (filter_map-append step_pair (h ++ step.more) (step.own ++ step.evicted))
      ∙ without-append id.pass (step_pairs (h ++ step.more)) (step_pairs (step.own ++ step.evicted))
      ∙ ap (λ (l : List (ℕ × Entry)). without id.pass (step_pairs (h ++ step.more)) ++ without id.pass l)
      (filter_map-append step_pair step.own step.evicted ∙ ap (λ (l : List (ℕ × Entry)). step_pairs step.own ++ l) (no_pairs step.evicted (evictions_unasked step.evicted step.room.each))
      ∙ append-nil (step_pairs step.own))
      ∙ ap (λ (l : List (ℕ × Entry)). without id.pass (step_pairs (h ++ step.more)) ++ l) (without_own (h ++ step.more) step.own step.noted)
      ∙ append-nil (without id.pass (step_pairs (h ++ step.more)))
      ∙ ap (without id.pass) (filter_map-append step_pair h step.more ∙ ap (λ (l : List (ℕ × Entry)). step_pairs h ++ l) (no_pairs step.more step.others) ∙ append-nil (step_pairs h))

  pub told_without : (a b : Option (List Entry)) → BothTold (IsStep AreOfNoStep g id ask reading answer) a b → without id.pass (told_pairs b) ≡ without id.pass (told_pairs a)
  told_without None None step = refl
  told_without None (Some j) step = absurd step
  told_without (Some h) None step = absurd step
  told_without (Some h) (Some j) step = step_without h j step

  -- a step under the lock is one of what the pass had seen
  seen_step : (a b c : Option (List Entry)) → Begins a b → own_of id.pass (told_pairs b) ≡ own_of id.pass (told_pairs a)
      → BothTold (IsStep AreOfNoStep g id ask reading answer) b c → BothTold (IsStep (AreOfOthers id.pass) g id ask reading answer) a c
  seen_step None None None begins same step = tt
  seen_step None None (Some k) begins same step = absurd step
  seen_step None (Some j) c begins same step = absurd begins
  seen_step (Some h) None c begins same step = absurd begins
  seen_step (Some h) (Some j) None begins same step = absurd step
  seen_step (Some h) (Some j) (Some k) begins same step =
      let es = begins.0 in
      let others = none_behind id.pass h es (ap (λ (l : List Entry). own_of id.pass (step_pairs l)) begins.1 ∙ same) in
      step_behind g id ask reading answer AreOfNoStep (AreOfOthers id.pass) h es k
      (λ more none. all_behind (IsOfOther id.pass) es more others (none_other id.pass more none))
      (subst (λ (l : List Entry). IsStep AreOfNoStep g id ask reading answer l k) (sym begins.1) step)

  -- what it leaves is a run
  pub step_legal : (P : List Entry → Type 0) (a b : Option (List Entry)) → BothTold (IsStep P g id ask reading answer) a b → ForSome b (Legal g)
  step_legal P a None step = λ h told. absurd (cc told)
  step_legal P None (Some j) step = absurd step
  step_legal P (Some h) (Some j) step = λ k told. let one : j ≡ k = cc told in subst (Legal g) one step.legal

  -- it begins with what was there
  pub step_begins : (P : List Entry → Type 0) (a b : Option (List Entry)) → BothTold (IsStep P g id ask reading answer) a b → Begins a b
  step_begins P None None step = tt
  step_begins P None (Some j) step = absurd step
  step_begins P (Some h) None step = absurd step
  step_begins P (Some h) (Some j) step = (step.more ++ (step.own ++ step.evicted), sym (append_assoc h step.more (step.own ++ step.evicted)) ∙ sym step.whole)

-- what a lock turn's step is to its pass, by what it was to the value that the turn took
pub turned : (g : Geometry) (n m seq : ℕ) (ask : Ask) (reading : ℕ) (answer : Told) (a b c : Option (List Entry)) → m ≡ n → Begins a b
    → own_of n (told_pairs b) ≡ own_of n (told_pairs a)
    → BothTold (IsStep AreOfNoStep g (record { pass = m; seq = seq }) ask reading answer) b c
    → BothTold (IsStep (AreOfOthers n) g (record { pass = n; seq = seq }) ask reading answer) a c
turned g n m seq ask reading answer a b c same begins own step =
    seen_step g (record { pass = n; seq = seq }) ask reading answer a b c begins own
    (subst (λ (k : ℕ). BothTold (IsStep AreOfNoStep g (record { pass = k; seq = seq }) ask reading answer) b c) same step)

-- a told run is legal
pub run_legal : (g : Geometry) (c : Cache) (told : Option (List Entry)) → IsToldRun g c told → ForSome told (Legal g)
run_legal g c told run = λ h is. (run h is).legal
