-- What a reading of the clock leaves.
use Rattle.std.proofs.Common.{◌≡◌, ℕ, ◌^◌, ◌<◌, ◌≤◌, Bool, true, false, [], ◌∷◌, refl, arith}
use Rattle.std.specs.Prelude.{nat_lt}
use Rattle.std.proofs.lemmas.Bool.Decides.{nat_tests}
use Rattle.flash_entry.specs.declared.entry.Entry.TheVariants as entries
use Rattle.flash_machine.specs.Cache.{Cache}
use Rattle.flash_machine.specs.Moments.{is_reached}
use Rattle.flash_machine.specs.Steps.{clock_next}
use Rattle.flash_calls.specs.Calls.{clock_to}
use Rattle.flash_calls.specs.Store.{Desk, Call}
use Rattle.flash_core.proofs.Kept.{Keeps}

-- what a reading above the moment does
abbrev pub risen : Cache → Desk → ℕ → Call Bool
risen c desk moment = record { entries = entries.Clock moment ∷ []; cache = clock_next c moment; desk = desk; answer = true }

pub clock_rises : (c : Cache) (desk : Desk) (moment : ℕ) → c.now < moment → clock_to c desk moment ≡ risen c desk moment
clock_rises c desk moment above = let is : nat_lt c.now moment ≡ true = grind (arith, nat_tests, above) in rw is refl

keeps_by : (item_max : ℕ) (c : Cache) (moment : ℕ) (pending : Bool) → is_reached c.pending_flush moment ≡ pending → moment ≤ 2 ^ 62 → Keeps item_max c → Keeps item_max (clock_next c moment)
keeps_by item_max c moment true is within keeps = rw is (record { kept = keeps.kept; within = within })
keeps_by item_max c moment false is within keeps = rw is (record { kept = keeps.kept; within = within })

pub clock_keeps : (item_max : ℕ) (c : Cache) (moment : ℕ) → moment ≤ 2 ^ 62 → Keeps item_max c → Keeps item_max (clock_next c moment)
clock_keeps item_max c moment within keeps = keeps_by item_max c moment (is_reached c.pending_flush moment) refl within keeps
