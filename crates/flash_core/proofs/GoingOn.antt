-- A store's run goes on by a call.
use Rattle.std.proofs.Common.{◌≡◌, List, ◌++◌, Option, None, Some, refl, sym, ◌∙◌, ap, subst}
use Rattle.flash_names.specs.Told.{with_more}
use Rattle.flash_names.specs.declared.place.Id.{Id}
use Rattle.flash_names.specs.declared.geometry.Geometry.{Geometry}
use Rattle.flash_entry.specs.declared.entry.Entry.{Entry}
use Rattle.flash_heads.specs.KnownRun.{IsKnownRun}
use Rattle.flash_machine.specs.Cache.{Cache}
use Rattle.flash_machine.specs.NewSteps.{IsNew}
use Rattle.flash_calls.specs.Running.{IsRunning, LeavesARun}
use Rattle.flash_calls.specs.Store.{Desk, Call}
use Rattle.flash_core.specs.Sound.{IsToldRun, IsNewTold, HasRun}
use Rattle.flash_core.proofs.FreshIds.{fresh}

-- what a journal tells is a run
pub told_run : (g : Geometry) (c : Cache) (desk : Desk) (told : Option (List Entry)) → HasRun g c desk told → IsToldRun g c told
told_run g c desk told has = λ h tells. subst (λ (j : List Entry). IsKnownRun g c j) (sym (has.is_told h tells)) has.runs.run

-- what is told is the run, with more behind both
told_more : (told : Option (List Entry)) (run es : List Entry) → ((h : List Entry) → told ≡ Some h → h ≡ run) → (h : List Entry) → with_more es told ≡ Some h → h ≡ run ++ es
told_more None run es is h tells = absurd (cc tells)
told_more (Some front) run es is h tells =
    let one : front ++ es ≡ h = cc tells in sym one ∙ ap (λ (l : List Entry). l ++ es) (is front refl)

module _ {A : Type 0} (g : Geometry) (c : Cache) (desk : Desk) where
  -- by a call that notes no step
  pub goes_on : (call : Call A) → ((h : List Entry) → IsRunning g h c desk → LeavesARun g h call) → (told : Option (List Entry)) → HasRun g c desk told
      → HasRun g call.cache call.desk (with_more call.entries told)
  goes_on call law told has = record {
    run = has.run ++ call.entries;
    runs = law has.run has.runs;
    is_told = told_more told has.run call.entries has.is_told;
  }

  -- by a call that notes a step, whose number changes nothing else
  module _ (call : Id → Call A) (id : Id) (caches : (i : Id) → (call i).cache ≡ (call id).cache) (desks : (i : Id) → (call i).desk ≡ (call id).desk)
      (law : (h : List Entry) (i : Id) → IsRunning g h c desk → IsNew h i → LeavesARun g h (call i)) where
    leaves_with : (h : List Entry) (i : Id) → IsRunning g h c desk → IsNew h i → IsRunning g (h ++ (call i).entries) (call id).cache (call id).desk
    leaves_with h i runs new =
        subst (λ (d : Desk). IsRunning g (h ++ (call i).entries) (call id).cache d) (desks i)
        (subst (λ (k : Cache). IsRunning g (h ++ (call i).entries) k (call i).desk) (caches i) (law h i runs new))

    pub goes_on_by : (told : Option (List Entry)) → IsNewTold told id → HasRun g c desk told → HasRun g (call id).cache (call id).desk (with_more (call id).entries told)
    goes_on_by None new has =
        let one = fresh has.run in record {
          run = has.run ++ (call one.0).entries;
          runs = leaves_with has.run one.0 has.runs one.1;
          is_told = λ h tells. absurd (cc tells);
        }
    goes_on_by (Some front) new has =
        let new_there : IsNew has.run id = subst (λ (j : List Entry). IsNew j id) (has.is_told front refl) (new front refl) in record {
          run = has.run ++ (call id).entries;
          runs = leaves_with has.run id has.runs new_there;
          is_told = told_more (Some front) has.run (call id).entries has.is_told;
        }
