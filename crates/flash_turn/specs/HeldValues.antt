-- What contracts say of a value that is out of its lock.
use Rattle.std.specs.Prelude.{◌≡◌, ℕ, true, false, List, [], ◌∷◌, Some, None, Box}
use Rattle.flash_turn.specs.declared.view.View.{View}
use Rattle.flash_turn.specs.declared.pass.Pass.{Pass}
use Rattle.flash_turn.specs.declared.turn.Turn.{Turn}
use Rattle.flash_turn.specs.declared.held.HeldIn.{HeldIn}
use Rattle.flash_turn.specs.Passes.{view_of}

-- the value now
abbrev pub value_of : {T A : Type 0} → HeldIn T (Box T A) → T
value_of held = held.value.value

-- the value as it was taken
abbrev pub taken_of : {T B : Type 0} → HeldIn T B → T
taken_of held = held.taken.value

-- the lock, and the pass that has the value out
abbrev pub turn_of : {T B : Type 0} → HeldIn T B → Turn T
turn_of held = held.turn.now

abbrev pub pass_of : {T B : Type 0} → HeldIn T B → Pass T
pass_of held = held.pass.now

-- the pass has a number and no other work than this value
pub record IsHolding {T : Type 0} (number : ℕ) (v : View T) : Type 0 where
  pub joined : List ℕ
  pub ticketed : ℕ
  pub numbers : v.numbers ≡ number ∷ joined
  pub pending : v.pending ≡ None
  pub over : v.over ≡ false
  pub ticket : v.ticket ≡ Some ticketed
  pub has : v.has ≡ true
  pub met : v.met ≡ None

-- the value was taken by this pass from this lock, and wasn't given back
pub record IsHeld {T B F : Type 0} (fixed : T → F) (held : HeldIn T B) : Type 0 where
  pub table : held.pass.now.seat.table_id ≡ held.turn.now.table.shared.table_id
  pub slot : held.pass.now.seat.me.1 ≡ (0, None) ∷ []
  pub holding : IsHolding held.pass.now.number (view_of held.pass.now)
  pub took : (view_of held.pass.now).took ≡ Some held.taken.value
  pub knows : fixed held.taken.value ≡ fixed held.turn.now.table.shared.key.value
