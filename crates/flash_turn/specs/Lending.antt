-- What lending the value does to its holder.
use Rattle.std.specs.Prelude.{Box}
use Rattle.std.specs.Box.{with_value}
use Rattle.flash_turn.specs.declared.held.HeldIn.{HeldIn}

-- the held value with w in place of what it was
abbrev pub held_with : {T A : Type 0} → HeldIn T (Box T A) → T → HeldIn T (Box T A)
held_with held w = record held { value = with_value held.value w }
