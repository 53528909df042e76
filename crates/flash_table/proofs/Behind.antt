-- Writes to the entries of a group and of those that lie behind it.
use Rattle.std.proofs.Common.{◌≡◌, ℕ, ◌-◌, ◌<◌, ◌≤◌, List, ◌++◌, length, set, sym, arith}
use Rattle.std.proofs.lemmas.List.{set-append_left, set-append_right}
use Rattle.flash_table.specs.declared.entry.Entry.{Entry}

module _ (first behind : List Entry) (whole : length first ≡ 16) where
  pub first_set : (i : ℕ) (e : Entry) → i < 16 → set first i e ++ behind ≡ set (first ++ behind) i e
  first_set i e low = sym (set-append_left first behind i e (omega (arith, whole, low)))

  pub behind_set : (i : ℕ) (e : Entry) → 16 ≤ i → first ++ set behind (i - 16) e ≡ set (first ++ behind) i e
  behind_set i e high = sym (set-append_right first behind 16 i e whole high)
