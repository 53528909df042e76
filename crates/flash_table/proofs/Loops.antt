-- A loop over the groups of a chain, which the chain sees as one list.
use Rattle.std.proofs.Common.{◌≡◌, ℕ, ◌+◌, ◌-◌, ◌*◌, ◌<◌, ◌≤◌, List, [], length, get_or, inl, inr, sym, ap, subst, ◌∙◌, arith}
use Rattle.flash_table.specs.declared.entry.Entry.{Entry}
use Rattle.flash_table.specs.Entries.{entry_at}
use Rattle.flash_table.specs.Flat.{flat, AreWhole}
use Rattle.flash_table.proofs.Flat.{either, whole_length, any_default}
use Rattle.flash_table.proofs.Groups.{slot_at}

module _ (kept gs : List (List Entry)) (es : List Entry) (value : gs ≡ kept) (view : flat kept ≡ es) (whole : AreWhole kept) where
  gs_whole : AreWhole gs
  gs_whole = subst AreWhole (sym value) whole

  seen : flat gs ≡ es
  seen = ap flat value ∙ view

  pub nothing_left : (P : Entry → Type 0) (number : ℕ) → length gs ≤ number → ((i : ℕ) → i < number * 16 → P (entry_at (flat gs) i) → ⊥) → (i : ℕ) → i < length es → P (entry_at es i) → ⊥
  nothing_left P number over none i inside is =
      none i (omega (arith, whole_length gs gs_whole, ap length seen, over, inside)) (subst P (ap (λ (xs : List Entry). entry_at xs i) (sym seen)) is)

  module _ (number : ℕ) (group : List Entry) (is : group ≡ get_or gs number group) (inside : number < length gs) where
    group_is : get_or gs number [] ≡ group
    group_is = any_default gs number [] group inside ∙ sym is

    in_flat : (s : ℕ) → s < 16 → entry_at (flat gs) (number * 16 + s) ≡ entry_at group s
    in_flat s small = slot_at gs number s gs_whole inside small ∙ ap (λ (g : List Entry). entry_at g s) group_is

    pub slot_is : (s : ℕ) → s < 16 → entry_at es (number * 16 + s) ≡ entry_at group s
    slot_is s small = ap (λ (xs : List Entry). entry_at xs (number * 16 + s)) (sym seen) ∙ in_flat s small

    pub slot_inside : (s : ℕ) → s < 16 → number * 16 + s < length es
    slot_inside s small = omega (arith, whole_length gs gs_whole, ap length seen, inside)

    pub none_so_far : (P : Entry → Type 0) (r : ℕ) → r ≤ 16 → ((i : ℕ) → i < number * 16 → P (entry_at (flat gs) i) → ⊥) → ((s : ℕ) → s < r → P (entry_at group s) → ⊥)
        → (i : ℕ) → i < number * 16 + r → P (entry_at (flat gs) i) → ⊥
    none_so_far P r small before here i below at =
        elim (either i (number * 16)) [
          | inl low ↦ before i low at
          | inr high ↦
              let less : i - number * 16 < r = omega (arith, below, high) in
              let e : number * 16 + (i - number * 16) ≡ i = omega (arith, high) in
              here (i - number * 16) less (subst P (ap (entry_at (flat gs)) (sym e) ∙ in_flat (i - number * 16) (omega (arith, less, small))) at)
        ]

    pub none_seen : (P : Entry → Type 0) (r : ℕ) → r ≤ 16 → ((i : ℕ) → i < number * 16 → P (entry_at (flat gs) i) → ⊥) → ((s : ℕ) → s < r → P (entry_at group s) → ⊥)
        → (i : ℕ) → i < number * 16 + r → P (entry_at es i) → ⊥
    none_seen P r small before here i below at = none_so_far P r small before here i below (subst P (ap (λ (xs : List Entry). entry_at xs i) (sym seen)) at)

    pub none_next : (P : Entry → Type 0) → ((i : ℕ) → i < number * 16 → P (entry_at (flat gs) i) → ⊥) → ((s : ℕ) → s < 16 → P (entry_at group s) → ⊥)
        → (i : ℕ) → i < (number + 1) * 16 → P (entry_at (flat gs) i) → ⊥
    none_next P before here i below at = none_so_far P 16 (omega arith) before here i (omega (arith, below)) at
