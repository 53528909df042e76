-- What a store keeps goes on by a reading of the clock, a flush, and telling its numbers.
use Rattle.std.proofs.Common.{◌≡◌, ℕ, ℤ, ◌^◌, ◌<◌, ◌≤◌, Bool, true, false, List, [], ◌∷◌, if◌then◌else◌, refl, sym, ◌∙◌, ap, subst, arith}
use Rattle.std.specs.Prelude.{nat_lt}
use Rattle.std.proofs.lemmas.Bool.{and_from}
use Rattle.std.proofs.lemmas.Bool.Decides.{nat_tests}
use Rattle.flash_names.specs.declared.place.Id.{Id}
use Rattle.flash_names.specs.declared.geometry.Geometry.{Geometry}
use Rattle.flash_entry.specs.declared.answer.Tally.{Tally}
use Rattle.flash_entry.specs.declared.entry.Done.TheVariants as deeds
use Rattle.flash_entry.specs.declared.entry.Entry.{Entry}
use Rattle.flash_entry.specs.declared.entry.Entry.TheVariants as entries
use Rattle.flash_machine.specs.Cache.{Cache, Items}
use Rattle.flash_machine.specs.Load.{tally_of}
use Rattle.flash_machine.specs.Touching.{flush_next}
use Rattle.flash_machine.specs.Same.{same_tally}
use Rattle.flash_machine.specs.Steps.{clock_next}
use Rattle.flash_machine.specs.Legal.{Meets}
use Rattle.flash_machine.specs.NewSteps.{IsNew}
use Rattle.flash_machine.proofs.Meeting.{new_passes, clock_meets}
use Rattle.flash_machine.proofs.Same.{number_itself}
use Rattle.flash_calls.specs.Below.{Below}
use Rattle.flash_calls.specs.Calls.{flush_call, tally_now, tally_call, clock_to}
use Rattle.flash_calls.specs.Running.{IsRunning, LeavesARun}
use Rattle.flash_calls.specs.Store.{Desk, idle_call}
use Rattle.flash_calls.proofs.Counting.{free_counted}
use Rattle.flash_calls.proofs.Goes.{goes_one}
use Rattle.flash_calls.proofs.Holding.{flush_same, clock_same}
use Rattle.flash_calls.proofs.Running.{leaves_itself, IsQuietCall, leaves_a_run, stands_of}
use Rattle.flash_calls.proofs.Standing.{Stands}

tally_itself : (tally : Tally) → same_tally tally tally ≡ true
tally_itself tally =
    and_from _ _
    (and_from _ _ (and_from _ _ (and_from _ _ (number_itself tally.items) (number_itself tally.load)) (number_itself tally.last_cas)) (number_itself tally.now))
    (number_itself tally.free_pages)

module _ (below : Below) (g : Geometry) (h : List Entry) (c : Cache) (desk : Desk) (was : IsRunning g h c desk) where
  -- a call that notes one entry and leaves the items and the desk
  same_stands : (items : Items) → items ≡ c.items → Stands items desk
  same_stands items same = subst (λ (m : Items). Stands m desk) (sym same) (stands_of g h c desk was)

  pub idle_quiet : {A : Type 0} (answer : A) → IsQuietCall g h c desk (idle_call c desk answer)
  idle_quiet answer = record {
    goes = record { legal = tt; makes = refl };
    quiet = tt;
    stands = stands_of g h c desk was;
    leaves = leaves_itself desk;
  }

  -- a flush
  pub flush_runs : (id : Id) (delay : ℤ) → IsNew h id → LeavesARun g h (flush_call c desk id delay)
  flush_runs id delay new = leaves_a_run below.heads.known below.heads.head g h c desk (flush_call c desk id delay) was (record {
    goes = goes_one g h c (flush_next c delay) (entries.Did id (deeds.Flush delay)) (new_passes h id new, (refl, tt)) refl;
    quiet = (tt, tt);
    stands = same_stands (flush_next c delay).items (flush_same c delay);
    leaves = leaves_itself desk;
  })

  -- the numbers
  same_numbers : tally_now c desk ≡ tally_of g h c
  same_numbers = ap (λ (n : ℕ). record (tally_of g h c) { free_pages = n }) (free_counted g h desk.blocks.pages was.paged)

  tally_meets : (id : Id) → IsNew h id → Meets g h c (entries.Did id (deeds.Stats (tally_now c desk)))
  tally_meets id new = (new_passes h id new, (ap (same_tally (tally_now c desk)) (sym same_numbers) ∙ tally_itself (tally_now c desk), tt))

  pub tally_runs : (id : Id) → IsNew h id → LeavesARun g h (tally_call c desk id)
  tally_runs id new = leaves_a_run below.heads.known below.heads.head g h c desk (tally_call c desk id) was (record {
    goes = goes_one g h c c (entries.Did id (deeds.Stats (tally_now c desk))) (tally_meets id new) refl;
    quiet = (tt, tt);
    stands = stands_of g h c desk was;
    leaves = leaves_itself desk;
  })

  -- a reading of the clock
  above_by : (now moment : ℕ) → nat_lt now moment ≡ true → now < moment
  above_by now moment is = grind (arith, nat_tests)

  clock_by : (moment : ℕ) → moment ≤ 2 ^ 62 → (rises : Bool) → nat_lt c.now moment ≡ rises
      → IsQuietCall g h c desk (if rises then (record { entries = entries.Clock moment ∷ []; cache = clock_next c moment; desk = desk; answer = true }) else idle_call c desk false)
  clock_by moment within true is = record {
    goes = goes_one g h c (clock_next c moment) (entries.Clock moment) (clock_meets g h c moment (above_by c.now moment is) within) refl;
    quiet = (tt, tt);
    stands = same_stands (clock_next c moment).items (clock_same c moment);
    leaves = leaves_itself desk;
  }
  clock_by moment within false is = idle_quiet false

  pub clock_runs : (moment : ℕ) → moment ≤ 2 ^ 62 → LeavesARun g h (clock_to c desk moment)
  clock_runs moment within = leaves_a_run below.heads.known below.heads.head g h c desk (clock_to c desk moment) was (clock_by moment within (nat_lt c.now moment) refl)
