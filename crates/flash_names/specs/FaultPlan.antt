-- The calls of an object in memory that are to fail, and what it has counted.
use Rattle.std.specs.Prelude.{ℕ, Bool, List, nat_eq, if◌then◌else◌}
use Rattle.std.specs.List.{list_any}
use Rattle.flash_names.specs.Faults.{next_count}

-- the numbers of the calls that are to fail, counted from 1, the number of calls made, and that of faults
pub record Plan : Type 0 where
  pub fails : List ℕ
  pub calls : ℕ
  pub faults : ℕ

-- whether the next call is to fail
abbrev pub fails_next : Plan → Bool
fails_next plan = list_any (λ n. nat_eq n (next_count plan.calls)) plan.fails

-- after one fault more
abbrev pub with_fault : Plan → Plan
with_fault plan = record plan { faults = next_count plan.faults }

-- after the next call
abbrev pub after_call : Plan → Plan
after_call plan =
    let counted = record plan { calls = next_count plan.calls } in if fails_next plan then with_fault counted else counted
