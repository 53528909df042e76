-- How much the views of all passes count together.
use Rattle.std.specs.Prelude.{ℕ, ◌==◌, cond, List, [], ◌∷◌, Option, Some, None, ◌+◌}
use Rattle.flash_turn.specs.declared.view.View.{View}

abbrev pub total : {A : Type 0} → (A → ℕ) → List A → ℕ
total f [] = 0
total f (x ∷ xs) = f x + total f xs

-- how often the number x is in a list
abbrev pub times : ℕ → List ℕ → ℕ
times x ys = total (λ y. cond (y == x) 1 0) ys

-- 1 where there is something
abbrev pub one_if_some : {A : Type 0} → Option A → ℕ
one_if_some None = 0
one_if_some (Some y) = 1

-- 1 where the number x is there
abbrev pub one_if_at : ℕ → Option ℕ → ℕ
one_if_at x None = 0
one_if_at x (Some y) = cond (y == x) 1 0

module _ {T : Type 0} where
  -- 1 where the pass holds a ticket
  abbrev pub waits : View T → ℕ
  waits v = one_if_some v.ticket

  -- 1 where the pass holds the ticket k
  abbrev pub waits_at : ℕ → View T → ℕ
  waits_at k v = one_if_at k v.ticket

  -- 1 where the pass has the value
  abbrev pub holds_value : View T → ℕ
  holds_value v = cond v.has 1 0

  -- how often the pass has the number x for its own, with the numbers of those that it joined
  abbrev pub given : ℕ → View T → ℕ
  given x v = times x v.numbers

  -- the same with a number that was drawn and that no pass has yet
  abbrev pub claims : ℕ → View T → ℕ
  claims x v = times x v.numbers + one_if_at x v.pending

  abbrev pub pendings : View T → ℕ
  pendings v = one_if_some v.pending

  abbrev pub overs : View T → ℕ
  overs v = cond v.over 1 0
