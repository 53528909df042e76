-- The numbers of passes, each given once, from 1 up to below 2^32 - 1.
use Rattle.std.specs.Prelude.{◌≡◌, ℕ, ◌+◌, ◌<◌, ◌≤◌, List, length}
use Rattle.std.specs.List.{AllByRecursion}
use mathlib.Core.Option.{some}
use lib.ListN.{get_elem?}
use Rattle.flash_turn.specs.declared.view.View.{View}
use Rattle.flash_turn.specs.Counts.{total, claims, pendings, overs}

-- no pass has this number or a greater one
abbrev pub limit : ℕ
limit = 4294967295

-- a number that was drawn is below the next one, and one at the limit or above it is drawn only where the next one is
-- there
pub record IsPast (next n : ℕ) : Type 0 where
  pub below : n < limit → n < next
  pub reached : limit ≤ n → limit ≤ next

-- `next` is the number that is drawn next. It goes past the limit only for the passes that drew too far and have
-- still to put their number back
pub record Numbered {T : Type 0} (next : ℕ) (views : List (View T)) : Type 0 where
  pub distinct : (x : ℕ) → total (claims x) views ≤ 1
  pub drawn : (x : ℕ) → 0 < total (claims x) views → (0 < x) × (x < next) × (x < limit)
  pub fewer : length views + total pendings views < next
  pub few : length views + total pendings views < limit
  pub most : next ≤ limit + total overs views
  pub exact : 0 < total overs views → next ≡ limit + total overs views
  pub past : (j : ℕ) (v : View T) → get_elem? views j ≡ some v → AllByRecursion (IsPast next) v.draws
