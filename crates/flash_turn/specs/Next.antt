-- A number that is drawn.
use Rattle.std.specs.Prelude.{◌≡◌, ℕ, List, Option, Box, slice_index}
use mathlib.Core.Option.{some}
use lib.ListN.{get_elem?}
use Rattle.atomic_table.specs.Table.{State}
use Rattle.flash_turn.specs.declared.view.View.{View}
use Rattle.flash_turn.specs.Counts.{total, claims}
use Rattle.flash_turn.specs.Rule.{LockRule}

-- n is the next number of the lock at a moment at which the pass knows v, and no pass has it or had it
pub record IsNext {T E O F : Type 0} (story : T → Option (List E)) (own : T → List (ℕ × O)) (fixed : T
    → F) (A : Type 0) (v : View T) (n : ℕ) : Type 0 where
  pub moment : State (Option (Box T A)) (View T)
  pub kept : LockRule story own fixed moment
  pub seat : ℕ
  pub there : get_elem? moment.views seat ≡ some v
  pub next : slice_index moment.words 2 ≡ n
  pub unused : total (claims n) moment.views ≡ 0
