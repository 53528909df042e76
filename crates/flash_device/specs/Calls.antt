-- The calls of a device.
use Rattle.std.specs.Prelude.{◌≡◌, ℕ, ◌+◌, ◌-◌, ◌^◌, Bool, true, false, List, nat_eq, nat_lt, if◌then◌else◌, Option, Some, None, Result, Ok, Err, ⊤}
use Rattle.std.specs.List.{list_any}
use Rattle.flash_names.specs.FaultPlan.{Plan}
use Rattle.flash_device.specs.declared.errors.PrepareError.{PrepareError}
use Rattle.flash_device.specs.declared.errors.PrepareError.TheVariants.{NoMemory, Fault}

-- how many were made, and the numbers of those that fail, counted from 1
pub record Calls : Type 0 where
  pub made : ℕ
  pub fails : List ℕ

-- whether the last call that was made is one that fails
abbrev pub is_listed : Calls → Bool
is_listed calls = list_any (λ n. nat_eq n calls.made) calls.fails

-- Where the device tells its calls after a call, it told them before, this is one call more, and it was a
-- fault exactly where its number is listed.
abbrev pub Called : Bool → Option Calls → Option Calls → Type 0
Called fault before None = Unit {0}
Called fault None (Some now) = ⊥
Called fault (Some before) (Some now) = (now ≡ record before { made = before.made + 1 }) × (fault ≡ is_listed now)

-- whether preparing ended in a fault, which out of memory isn't
abbrev pub is_fault : Result ⊤ PrepareError → Bool
is_fault (Ok done) = false
is_fault (Err NoMemory) = false
is_fault (Err Fault) = true

-- what a device with this plan tells: its calls, while they are fewer than 2^64 - 1
abbrev pub calls_told : Plan → Option Calls
calls_told plan =
    if nat_lt plan.calls (2 ^ 64 - 1) then Some (record { made = plan.calls; fails = plan.fails }) else None
