-- Tests that are joined.
use Rattle.std.proofs.Common.{◌≡◌, Bool, true, false, ◌||◌, cond, refl}

pub either : (old b : Bool) → cond b true old ≡ (old || b)
either true true = refl
either true false = refl
either false true = refl
either false false = refl
