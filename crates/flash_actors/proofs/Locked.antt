-- What a step does to a journal while the lock is held.
use Rattle.std.proofs.Common.{◌≡◌, ℕ, ◌≤◌, List, [], ◌∷◌, ◌++◌, Option, None, Some, refl, sym, ◌∙◌, ap, subst, append_assoc, arith}
use Rattle.std.specs.Prelude.{min}
use Rattle.std.proofs.lemmas.List.{append-nil}
use Rattle.flash_names.specs.Told.{with_more}
use Rattle.flash_names.specs.declared.place.Id.{Id}
use Rattle.flash_names.specs.declared.geometry.Geometry.{Geometry}
use Rattle.flash_entry.specs.declared.ask.Ask.{Ask}
use Rattle.flash_entry.specs.declared.entry.Entry.{Entry}
use Rattle.flash_entry.specs.declared.found.Told.{Told}
use Rattle.flash_entry.specs.declared.found.Told.TheVariants as told
use Rattle.flash_machine.specs.Cache.{Cache}
use Rattle.flash_machine.specs.Legal.{Legal}
use Rattle.flash_machine.specs.Moments.{last_moment}
use Rattle.flash_machine.specs.NewSteps.{IsNew}
use Rattle.flash_calls.specs.Calls.{clock_call}
use Rattle.flash_calls.specs.Running.{IsRunning}
use Rattle.flash_calls.specs.Store.{Desk, Store, Becomes, Stays}
use Rattle.flash_calls.proofs.Quiet.{all_behind}
use Rattle.flash_core.specs.Sound.{HasRun, IsToldRun, IsNewTold}
use Rattle.flash_answers.specs.AskCalls.{ask_call}
use Rattle.flash_answers.specs.Laws.{CallsOfNoSession, EachAskNotesItself, NumbersStayNew}
use Rattle.flash_answers.specs.Records.{entry_ask, AreOfNoStep}
use Rattle.flash_actors.specs.Stepping.{BothTold, IsNoted, AreEvictions, HasEvicted, IsStep}
use Rattle.flash_actors.proofs.Evicting.{more_both}
use Rattle.flash_actors.proofs.OwnReads.{behind_reads}

-- entries of no step behind others
pub no_steps : (xs ys : List Entry) → AreOfNoStep xs → AreOfNoStep ys → AreOfNoStep (xs ++ ys)
no_steps xs ys first second = all_behind (λ e. entry_ask e ≡ None) xs ys first second

module _ (g : Geometry) (id : Id) (ask : Ask) (reading : ℕ) (answer : Told) where
  -- a step of a journal that goes on is one of the journal before
  pub step_behind : (P Q : List Entry → Type 0) (h es j : List Entry) → ((more : List Entry) → P more → Q (es ++ more))
      → IsStep P g id ask reading answer (h ++ es) j → IsStep Q g id ask reading answer h j
  step_behind P Q h es j joins step = record {
    more = es ++ step.more;
    own = step.own;
    evicted = step.evicted;
    whole = step.whole ∙ ap (λ (l : List Entry). l ++ (step.own ++ step.evicted)) (append_assoc h es step.more);
    others = joins step.more step.others;
    noted = subst (λ (l : List Entry). IsNoted g id ask reading answer l step.own) (append_assoc h es step.more) step.noted;
    room = step.room;
    legal = step.legal;
  }

  -- the same where the journal may tell nothing
  pub told_behind : (P Q : List Entry → Type 0) (a b c : Option (List Entry)) (es : List Entry) → ((more : List Entry) → P more → Q (es ++ more))
      → b ≡ with_more es a → BothTold (IsStep P g id ask reading answer) b c → BothTold (IsStep Q g id ask reading answer) a c
  told_behind P Q None b None es joins is step = tt
  told_behind P Q None b (Some j) es joins is step = subst (λ (t : Option (List Entry)). BothTold (IsStep P g id ask reading answer) t (Some j)) is step
  told_behind P Q (Some h) b None es joins is step = subst (λ (t : Option (List Entry)). BothTold (IsStep P g id ask reading answer) t None) is step
  told_behind P Q (Some h) b (Some j) es joins is step =
      step_behind P Q h es j joins (subst (λ (t : Option (List Entry)). BothTold (IsStep P g id ask reading answer) t (Some j)) is step)

  -- what holds of each told journal holds where it may tell nothing
  pub told_step : (P : List Entry → Type 0) (a b : Option (List Entry)) (es : List Entry) (c : Cache) → b ≡ with_more es a → IsToldRun g c b
      → ((h : List Entry) → a ≡ Some h → Legal g (h ++ es) → IsStep P g id ask reading answer h (h ++ es))
      → BothTold (IsStep P g id ask reading answer) a b
  told_step P None b es c is run step = subst (BothTold (IsStep P g id ask reading answer) None) (sym is) tt
  told_step P (Some h) b es c is run step = subst (BothTold (IsStep P g id ask reading answer) (Some h)) (sym is) (step h refl (run (h ++ es) is).legal)

-- a step without memory over a run
none_step : (g : Geometry) (id : Id) (ask : Ask) (reading : ℕ) (h : List Entry) → Legal g h → IsStep AreOfNoStep g id ask reading told.NoMemory h h
none_step g id ask reading h legal = record {
  more = [];
  own = [];
  evicted = [];
  whole = sym (append-nil (h ++ []) ∙ append-nil h);
  others = tt;
  noted = refl;
  room = record { each = tt; few = omega arith };
  legal = legal;
}

none_told : (g : Geometry) (id : Id) (ask : Ask) (reading : ℕ) (answer : Told) (a b : Option (List Entry)) (c : Cache) → answer ≡ told.NoMemory → b ≡ a
    → IsToldRun g c b → BothTold (IsStep AreOfNoStep g id ask reading answer) a b
none_told g id ask reading answer None b c none is run = subst (BothTold (IsStep AreOfNoStep g id ask reading answer) None) (sym is) tt
none_told g id ask reading answer (Some h) b c none is run =
    subst (BothTold (IsStep AreOfNoStep g id ask reading answer) (Some h)) (sym is)
    (subst (λ (t : Told). IsStep AreOfNoStep g id ask reading t h h) (sym none) (none_step g id ask reading h (run h is).legal))

-- a number that is new stays so after a reading of the clock
pub clock_new_told : CallsOfNoSession → NumbersStayNew → (g : Geometry) (a b : Option (List Entry)) (id : Id) (c : Cache) (desk : Desk) (reading : ℕ)
    → IsNewTold a id → b ≡ with_more (clock_call c desk reading).entries a → IsNewTold b id
clock_new_told calls stay g None b id c desk reading new is = λ h told. absurd (cc (is, told))
clock_new_told calls stay g (Some h) b id c desk reading new is = λ j told.
    let es = (clock_call c desk reading).entries in
    let same : h ++ es ≡ j = cc (is, told) in
    subst (λ (k : List Entry). IsNew k id) same ((stay h es).none id ((calls g c desk).clock reading) (new h refl))

module _ (calls : CallsOfNoSession) (id : Id) (ask : Ask) (reading : ℕ) (answer : Told) where
  -- after a reading of the clock the moment is at least the reading's
  clock_at : (g : Geometry) (c d : Cache) (desk : Desk) → d ≡ (clock_call c desk reading).cache → min reading last_moment ≤ d.now
  clock_at g c d desk is = omega (arith, ap (λ (x : Cache). x.now) is, (calls g c desk).moment reading)

  -- a step that was done, and after it evictions
  done_step : EachAskNotesItself → (g : Geometry) (h : List Entry) (c : Cache) (desk : Desk) → IsRunning g h c desk → min reading last_moment ≤ c.now
      → let call = ask_call g c desk id ask in
      answer ≡ call.answer → (evicted : List Entry) → AreEvictions evicted → Legal g (h ++ (call.entries ++ evicted))
      → IsStep AreOfNoStep g id ask reading answer h (h ++ (call.entries ++ evicted))
  done_step notes g h c desk run at same evicted room legal =
      let call = ask_call g c desk id ask in
      let n = notes g c h desk id ask run in
      record {
        more = n.more;
        own = n.own ∷ n.behind;
        evicted = evicted;
        whole = ap (λ (es : List Entry). h ++ (es ++ evicted)) n.whole
            ∙ ap (λ (es : List Entry). h ++ es) (append_assoc n.more (n.own ∷ n.behind) evicted)
            ∙ sym (append_assoc h n.more ((n.own ∷ n.behind) ++ evicted));
        others = n.others;
        noted = (record { asked = n.asked; outcome = n.told ∙ ap Some (sym same); moment = omega (arith, at, n.moment) }, behind_reads g c h desk id ask n);
        room = room;
        legal = legal;
      }

  -- a step behind a reading of the clock, and evictions after it, in one lock turn
  pub clocked_step : EachAskNotesItself → (old mid done new : Store) → Becomes old (clock_call old.cache old.desk reading) mid
      → let call = ask_call mid.geometry mid.cache mid.desk id ask in
      Becomes mid call done → answer ≡ call.answer → HasEvicted done new → HasRun mid.geometry mid.cache mid.desk mid.told
      → IsToldRun new.geometry new.cache new.told → BothTold (IsStep AreOfNoStep old.geometry id ask reading answer) old.told new.told
  clocked_step notes old mid done new clocked did same room has after =
      let call = ask_call mid.geometry mid.cache mid.desk id ask in
      let runs : (h : List Entry) → mid.told ≡ Some h → IsRunning mid.geometry h mid.cache mid.desk =
      λ h is. subst (λ (j : List Entry). IsRunning mid.geometry j mid.cache mid.desk) (sym (has.is_told h is)) has.runs in
      let clock = clock_call old.cache old.desk reading in
      let at = clock_at old.geometry old.cache mid.cache old.desk (ap (λ (s : Store). s.cache) clocked) in
      let told : new.told ≡ with_more (call.entries ++ room.evicted) mid.told =
      room.told ∙ ap (with_more room.evicted) (ap (λ (s : Store). s.told) did) ∙ more_both call.entries room.evicted mid.told in
      let geometry : new.geometry ≡ mid.geometry = room.geometry ∙ ap (λ (s : Store). s.geometry) did in
      subst (λ (g : Geometry). BothTold (IsStep AreOfNoStep g id ask reading answer) old.told new.told) (ap (λ (s : Store). s.geometry) clocked)
      (told_behind mid.geometry id ask reading answer AreOfNoStep AreOfNoStep old.told mid.told new.told clock.entries
      (λ more none. no_steps clock.entries more ((calls old.geometry old.cache old.desk).clock reading) none) (ap (λ (s : Store). s.told) clocked)
      (told_step mid.geometry id ask reading answer AreOfNoStep mid.told new.told (call.entries ++ room.evicted) new.cache told
      (subst (λ (g : Geometry). IsToldRun g new.cache new.told) geometry after)
      (λ h is legal. done_step notes mid.geometry h mid.cache mid.desk (runs h is) at same room.evicted (record { each = room.each; few = room.few }) legal)))

  -- the same where the step had no memory
  pub clocked_none : (old mid new : Store) → Becomes old (clock_call old.cache old.desk reading) mid → Stays mid new → answer ≡ told.NoMemory
      → IsToldRun new.geometry new.cache new.told → BothTold (IsStep AreOfNoStep old.geometry id ask reading answer) old.told new.told
  clocked_none old mid new clocked stays none after =
      let clock = clock_call old.cache old.desk reading in
      subst (λ (g : Geometry). BothTold (IsStep AreOfNoStep g id ask reading answer) old.told new.told) (ap (λ (s : Store). s.geometry) clocked)
      (told_behind mid.geometry id ask reading answer AreOfNoStep AreOfNoStep old.told mid.told new.told clock.entries
      (λ more empty. no_steps clock.entries more ((calls old.geometry old.cache old.desk).clock reading) empty) (ap (λ (s : Store). s.told) clocked)
      (none_told mid.geometry id ask reading answer mid.told new.told new.cache none (ap (λ (s : Store). s.told) stays)
      (subst (λ (g : Geometry). IsToldRun g new.cache new.told) (ap (λ (s : Store). s.geometry) stays) after)))

-- where the clock had none
pub unclocked : (id : Id) (ask : Ask) (reading : ℕ) (answer : Told) (old new : Store) → Stays old new → answer ≡ told.NoMemory
    → IsToldRun new.geometry new.cache new.told → BothTold (IsStep AreOfNoStep old.geometry id ask reading answer) old.told new.told
unclocked id ask reading answer old new stays none after =
    none_told old.geometry id ask reading answer old.told new.told new.cache none (ap (λ (s : Store). s.told) stays)
    (subst (λ (g : Geometry). IsToldRun g new.cache new.told) (ap (λ (s : Store). s.geometry) stays) after)
