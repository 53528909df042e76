-- Counts of labels, with one item more or fewer.
use Rattle.std.proofs.Common.{◌≡◌, ℕ, ◌+◌, Bool, true, false, Option, None, Some, cond, if◌then◌else◌, refl, sym, ◌∙◌, ap, arith}
use Rattle.std.specs.Prelude.{List}
use Rattle.flash_names.specs.declared.place.Label.{Label}
use Rattle.flash_machine.specs.Item.{Item}
use Rattle.flash_machine.specs.PageLabels.{is_label}
use Rattle.flash_machine.specs.Followed.{counted, one_if_labelled, label_of_found, or_none}

-- a count that is one higher at one key
pub raised_by : (b : Bool) (at_own at_other : Option ℕ) (count : ℕ) → (b ≡ true → at_other ≡ at_own) → count ≡ or_none at_own + 1
    → or_none (cond b (Some count) at_other) ≡ or_none at_other + (if b then 1 else 0)
raised_by true at_own at_other count same is = is ∙ ap (λ found. or_none found + 1) (sym (same refl))
raised_by false at_own at_other count same is = omega arith

-- a count that is one lower at one key
pub lowered_by : (b : Bool) (at_own at_other : Option ℕ) (count : ℕ) → (b ≡ true → at_other ≡ at_own) → count + 1 ≡ or_none at_own
    → or_none (cond b (Some count) at_other) + (if b then 1 else 0) ≡ or_none at_other
lowered_by true at_own at_other count same is = is ∙ ap or_none (sym (same refl))
lowered_by false at_own at_other count same is = omega arith

-- what a found item counts for a label
pub counted_label : (label : Label) (key : List ℕ) (found : Option Item)
    → counted (one_if_labelled label) key found ≡ (if is_label label (label_of_found found) then 1 else 0)
counted_label label key None = refl
counted_label label key (Some item) = refl
