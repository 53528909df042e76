-- What the keeper does in a turn of the lock.
use Rattle.std.specs.Prelude.{◌≡◌, ◌⊎◌, ◌||◌, ℕ, Bool, true, false, List, ◌++◌, Option, Some, is_some}
use Rattle.flash_names.specs.Told.{with_more}
use Rattle.flash_names.specs.declared.geometry.Geometry.{Geometry}
use Rattle.flash_entry.specs.declared.entry.Entry.{Entry}
use Rattle.flash_machine.specs.Cache.{Cache}
use Rattle.flash_calls.specs.Rooms.{room_call, reap_call, juggle_call}
use Rattle.flash_calls.specs.Store.{Desk, Call, Store}
use Rattle.flash_core.specs.SharedStore.{Face, told_of, face_of}
use Rattle.flash_turn.specs.declared.pass.Pass.{Pass}
use Rattle.flash_turn.specs.declared.turn.Turn.{Turn}
use Rattle.flash_turn.specs.Passes.{took_story, took_face, left_face}
use Rattle.flash_actors.specs.declared.keeper.KeeperStep.{KeeperStep}
use Rattle.flash_actors.specs.declared.keeper.KeeperStep.TheVariants as steps
use Rattle.flash_actors.specs.Passing.{journal_seen, geometry_known}

-- juggling after reaping: the entries, what they leave, and whether either did something
abbrev pub tidy_after : Geometry → Call (Option (List ℕ)) → Call Bool
tidy_after g reaped =
    let juggled = juggle_call g reaped.cache reaped.desk in record {
      entries = reaped.entries ++ juggled.entries;
      cache = juggled.cache;
      desk = juggled.desk;
      answer = is_some reaped.answer || juggled.answer;
    }

abbrev pub tidy_call : Geometry → Cache → Desk → Call Bool
tidy_call g c desk = tidy_after g (reap_call c desk)

-- making room after both
abbrev pub keep_after : Geometry → Call Bool → Call Bool
keep_after g tidied =
    let roomed = room_call g tidied.cache tidied.desk in record {
      entries = tidied.entries ++ roomed.entries;
      cache = roomed.cache;
      desk = roomed.desk;
      answer = tidied.answer || is_some roomed.answer;
    }

-- the keeper's calls in their order: reaping, juggling, and making room
abbrev pub keeper_call : Geometry → Cache → Desk → Call Bool
keeper_call g c desk = keep_after g (tidy_call g c desk)

-- the keeper's answer where memory didn't run out, by whether something was done
abbrev pub step_of : Bool → KeeperStep
step_of true = steps.Stepped
step_of false = steps.Idle

-- what is told and the face after a call
abbrev pub Leaves : {A : Type 0} → Call A → Option (List Entry) → Option (List Entry) → Face → Type 0
Leaves call told told_after after =
    (told_after ≡ with_more call.entries told) × (after ≡ record { cache = call.cache; desk = call.desk })

-- what the keeper's turn leaves, by its answer: all three calls, of which one did something, and so another cache or
-- another desk; nothing done by any; or what the calls before the one that found no memory left
abbrev pub HasKept : KeeperStep → Geometry → Option (List Entry) → Face → Option (List Entry) → Face → Type 0
HasKept steps.Stepped g told face told_after after =
    ((keeper_call g face.cache face.desk).answer ≡ true)
    × Leaves (keeper_call g face.cache face.desk) told told_after after
    × (after ≡ face → ⊥)
HasKept steps.Idle g told face told_after after =
    ((keeper_call g face.cache face.desk).answer ≡ false) × (told_after ≡ told) × (after ≡ face)
HasKept steps.NoMemory g told face told_after after =
    ((told_after ≡ told) × (after ≡ face)) ⊎ Leaves (tidy_call g face.cache face.desk) told told_after after

-- the same of the story and the face that the pass took and left in its last turn of the lock
pub record HasKeptIn (turn : Turn Store) (step : KeeperStep) (pass : Pass Store) : Type 0 where
  pub taken : Face
  pub left : Face
  pub took : took_face face_of pass ≡ Some taken
  pub leaves : left_face face_of pass ≡ Some left
  pub kept : HasKept step (geometry_known turn) (took_story told_of pass) taken (journal_seen pass) left
