-- What a delete makes of its key.
use Rattle.std.proofs.Common.{◌≡◌, ℕ, Bool, true, false, List, None, Some, if◌then◌else◌, refl, ap, arith}
use Rattle.std.specs.Prelude.{nat_eq, not}
use Rattle.std.proofs.lemmas.Bool.Decides.{nat_tests}
use Rattle.flash_entry.specs.declared.answer.Gone.{Gone}
use Rattle.flash_entry.specs.declared.answer.Gone.TheVariants as gone
use Rattle.flash_machine.specs.Cache.{Cache}
use Rattle.flash_machine.specs.Deleting.{compare_fails, without_item}
use Rattle.flash_index.proofs.Lookups.{cut_here}
use Rattle.flash_steps.specs.Deleted.{IsGone, ADeletedKeyHasNoItem, AKeyIsDeletedByItsNumber}
use Rattle.flash_steps.proofs.Others.{others_removed}

-- a live item's step, by whether the number that was given isn't its own
abbrev outcome : Cache → List ℕ → Bool → Gone × Cache
outcome c key fails = if fails then (gone.Exists, c) else (gone.Deleted, without_item c key)

by_fails : (c : Cache) (key : List ℕ) (fails : Bool) → (outcome c key fails).0 ≡ gone.Deleted → IsGone key c (outcome c key fails).1
by_fails c key true is = absurd (cc is)
by_fails c key false is = record { none = cut_here c.items key; others = others_removed key c.items }

pub deleted : ADeletedKeyHasNoItem
deleted c key compare None is = absurd (cc is)
deleted c key compare (Some item) is = by_fails c key (compare_fails compare item.cas) is

by_number : (c : Cache) (key : List ℕ) (cas compare : ℕ) (same : Bool) → nat_eq cas compare ≡ same → (outcome c key (not same)).0 ≡ gone.Deleted → cas ≡ compare
by_number c key cas compare true is deleted = grind (arith, nat_tests)
by_number c key cas compare false is deleted = absurd (cc deleted)

pub deleted_by_number : AKeyIsDeletedByItsNumber
deleted_by_number c key item = (
  refl,
  (λ compare same. let is : nat_eq item.cas compare ≡ true = grind (arith, nat_tests, same) in ap (λ (b : Bool). (outcome c key (not b)).0) is),
  λ compare deleted. by_number c key item.cas compare (nat_eq item.cas compare) refl deleted,
)
