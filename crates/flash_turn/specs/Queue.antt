-- The tickets. They are counted without an end; the words have the remainders by 2^64.
use Rattle.std.specs.Prelude.{◌≡◌, ℕ, ◌+◌, ◌<◌, ◌≤◌, List, Some}
use mathlib.Core.Option.{some}
use lib.ListN.{get_elem?}
use Rattle.flash_turn.specs.declared.view.View.{View}
use Rattle.flash_turn.specs.Counts.{total, waits, waits_at}

-- those drawn and not served are the tickets of the passes that hold one, each its own, and they lie from the served
-- one on
pub record Queue {T : Type 0} (drawn served : ℕ) (views : List (View T)) : Type 0 where
  pub count : drawn ≡ served + total waits views
  pub distinct : (k : ℕ) → total (waits_at k) views ≤ 1
  pub between : (j : ℕ) (v : View T) → get_elem? views j ≡ some v → (k : ℕ) → v.ticket ≡ Some k
      → (served ≤ k) × (k < drawn)
