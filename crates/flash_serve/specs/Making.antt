-- The counts of a maker.
use Rattle.std.specs.Prelude.{◌≡◌, ◌≤◌, ℕ, Result, Ok, Err}
use Rattle.flash_names.specs.Faults.{Rose, next_count}
use Rattle.flash_serve.specs.declared.maker.MakeError.{MakeError}
use Rattle.flash_serve.specs.declared.maker.MakeError.TheVariants as errors

-- the count of faults doesn't fall, and a fault comes only where it rose
pub record Tried {T : Type 0} (before after : ℕ) (result : Result T MakeError) : Type 0 where
  pub kept : before ≤ after
  pub cause : result ≡ Err errors.Fault → Rose before after

-- the count of connections after an accept: one more where a connection came
abbrev pub Accepted : {T : Type 0} → ℕ → ℕ → Result T MakeError → Type 0
Accepted before after (Ok made) = after ≡ next_count before
Accepted before after (Err error) = after ≡ before
