-- When the steps of a session are done, by the readings of its clock.
use Rattle.std.specs.Prelude.{◌≡◌, ℕ, ◌+◌, ◌-◌, ◌≤◌, List, [], ◌∷◌, ◌++◌, min, length, slice_get, Some}
use Rattle.std.specs.Option.{ForSome}
use Rattle.flash_names.specs.declared.geometry.Geometry.{Geometry}
use Rattle.flash_entry.specs.declared.entry.Entry.{Entry}
use Rattle.flash_machine.specs.Cache.{Cache, first_cache}
use Rattle.flash_machine.specs.Moments.{last_moment}
use Rattle.flash_machine.specs.Steps.{next}
use Rattle.flash_answers.specs.Records.{entry_ask}

-- where the entry is that of step q of pass n, the moment is at least the q-th of the readings after the first k, up to
-- 2^62
abbrev pub IsOnTime : ℕ → ℕ → List ℕ → Cache → Entry → Type 0
IsOnTime n k readings c e =
    ForSome (entry_ask e) (λ step. step.0.pass ≡ n → (reading : ℕ)
    × (slice_get readings (k + (step.0.seq - 1)) ≡ Some reading) × (min reading last_moment ≤ c.now))

-- each of these entries, noted after the journal, is
abbrev pub AreOnTime : Geometry → ℕ → ℕ → List ℕ → List Entry → Cache → List Entry → Type 0
AreOnTime g n k readings journal c [] = Unit {0}
AreOnTime g n k readings journal c (e ∷ es) =
    IsOnTime n k readings c e × AreOnTime g n k readings (journal ++ e ∷ []) (next g journal c e) es

-- each entry of the journal is
abbrev pub IsTimed : Geometry → ℕ → ℕ → List Entry → List ℕ → Type 0
IsTimed g n k journal readings = AreOnTime g n k readings [] first_cache journal

-- after its first k readings the clock gave one for each step, and each step was done at its own
pub record AreRead (g : Geometry) (n last k : ℕ) (journal : List Entry) (readings : List ℕ) : Type 0 where
  pub count : length readings ≡ k + last
  pub timed : IsTimed g n k journal readings
