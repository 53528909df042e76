-- A step's number that is new in a journal.
use Rattle.std.proofs.Common.{ℕ, ◌+◌, ◌≤◌, List, [], ◌∷◌, Option, None, Some, arith}
use Rattle.std.specs.Prelude.{max}
use Rattle.std.specs.List.{AllByRecursion}
use Rattle.flash_names.specs.declared.place.Id.{Id}
use Rattle.flash_entry.specs.declared.entry.Entry.{Entry}
use Rattle.flash_machine.specs.NewSteps.{IsNew, IsEarlier, step_id}

-- a number above that of a step
abbrev above : Option Id → ℕ
above None = 0
above (Some id) = id.seq + 1

-- a number above that of each step
abbrev above_all : List Entry → ℕ
above_all [] = 0
above_all (e ∷ es) = max (above (step_id e)) (above_all es)

abbrev numbered_id : ℕ → Id
numbered_id seq = record { pass = 1; seq = seq }

earlier_by : (top : ℕ) (step : Option Id) → above step ≤ top → IsEarlier (numbered_id top) step
earlier_by top None le = tt
earlier_by top (Some id) le = λ same. omega (arith, le)

earlier_all : (top : ℕ) (h : List Entry) → above_all h ≤ top → AllByRecursion (λ e. IsEarlier (numbered_id top) (step_id e)) h
earlier_all top [] le = tt
earlier_all top (e ∷ es) le = (earlier_by top (step_id e) (omega (arith, le)), earlier_all top es (omega (arith, le)))

pub fresh : (h : List Entry) → (id : Id) × IsNew h id
fresh h = (numbered_id (above_all h), record { pass = omega arith; seq = earlier_all (above_all h) h (omega arith) })
