-- What a store keeps of its items stays so when one is taken out or put in.
use Rattle.std.proofs.Common.{◌≡◌, ℕ, ◌≤◌, List, Some, inl, inr, sym, subst, arith}
use Rattle.std.specs.FinMap as finite
use Rattle.flash_machine.specs.Item.{Item}
use Rattle.flash_machine.specs.Cache.{Items}
use Rattle.flash_core.specs.Items.{IsKept, AreKept}
use Rattle.flash_core.proofs.Maps.{was_there, IsNewOrOld, is_new_or_old}

module _ (item_max last : ℕ) (items : Items) where
  pub kept-removed : (k : List ℕ) → AreKept item_max last items → AreKept item_max last (finite.remove items k)
  kept-removed k kept q item there = kept q item (was_there items k q item there)

  -- a greater last number
  kept_one : (more : ℕ) (q : List ℕ) (item : Item) → last ≤ more → IsKept item_max last q item → IsKept item_max more q item
  kept_one more q item le one = record {
    named = one.named;
    some = one.some;
    number = omega (arith, one.number, le);
    deadline = one.deadline;
    size = one.size;
  }

  kept_by : (k : List ℕ) (v : Item) (more : ℕ) (q : List ℕ) (item : Item) → last ≤ more → IsKept item_max more k v → AreKept item_max last items → IsNewOrOld items k v q item → IsKept item_max more q item
  kept_by k v more q item le new kept (inl is) = subst (λ (l : List ℕ). IsKept item_max more l item) (sym is.0) (subst (IsKept item_max more k) (sym is.1) new)
  kept_by k v more q item le new kept (inr there) = kept_one more q item le (kept q item there)

  pub kept-inserted : (k : List ℕ) (v : Item) (more : ℕ) → last ≤ more → IsKept item_max more k v → AreKept item_max last items → AreKept item_max more (finite.insert items k v)
  kept-inserted k v more le new kept q item there = kept_by k v more q item le new kept (is_new_or_old items k v q item there)
