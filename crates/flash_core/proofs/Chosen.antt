-- What arithmetic chooses to store.
use Rattle.std.proofs.Common.{◌≡◌, ℕ, ◌+◌, Bool, true, false, List, Option, Some, Ok, refl, sym, ◌∙◌, ap, subst}
use Rattle.std.specs.Prelude.{nat_le}
use Rattle.std.specs.FinMap as finite
use Rattle.flash_entry.specs.declared.answer.Summed.{Summed}
use Rattle.flash_entry.specs.declared.answer.Sum.{Sum}
use Rattle.flash_items.specs.declared.item.Item as code
use Rattle.flash_machine.specs.Item.{Item}
use Rattle.flash_machine.specs.Cache.{Cache}
use Rattle.flash_machine.specs.Storing.{last_number, with_stored}
use Rattle.flash_machine.specs.Summing.{number_item, summed_of}
use Rattle.flash_index.specs.Known.{known_item}
use Rattle.flash_index.proofs.Lookups.{put_here}
use Rattle.flash_calls.specs.Calls.{change_of_sum}
use Rattle.flash_calls.specs.Changes.{Change, stores, desk_after, with_item}
use Rattle.flash_core.specs.declared.arith.NewNumber.{NewNumber}
use Rattle.flash_core.specs.Counting.{answer_with, sum_with, IsChosen}

module _ (c : Cache) (key : List ℕ) (new : NewNumber) (item : code.Item) (answer : Sum) where
  abbrev made : Item
  made = number_item c new.flags new.deadline new.number

  -- an answer with a number stores it
  number_stores : (is_new : Bool) (summed : Summed) → change_of_sum (answer_with is_new summed) ≡ stores
  number_stores true summed = refl
  number_stores false summed = refl

  pub chosen : nat_le last_number c.last_cas ≡ false → known_item item ≡ made → answer ≡ answer_with new.is_new (summed_of c made new.number)
      → IsChosen c key (sum_with c key (Ok new)) (record { answer = answer; item = Some item; last_cas = c.last_cas + 1 })
  chosen room same answered =
      let step : ◌≡◌ {A = Sum × Cache} (sum_with c key (Ok new)) (answer_with new.is_new (summed_of c made new.number), with_stored c key made) = rw room refl in
      subst (λ (s : Sum × Cache). IsChosen c key s (record { answer = answer; item = Some item; last_cas = c.last_cas + 1 })) (sym step)
      (record {
        answer_is = answered;
        cache_is = λ j. record c { items = finite.insert c.items key (same j); last_cas = c.last_cas + 1 };
        desk_is = λ desk.
            ap (λ (i : Item). with_item key i desk) same
            ∙ ap (λ (found : Option Item). desk_after stores key found desk) (sym (put_here c.items key made))
            ∙ ap (λ (kind : Change). desk_after kind key (finite.get (finite.insert c.items key made) key) desk)
            (sym (number_stores new.is_new (summed_of c made new.number)) ∙ ap change_of_sum (sym answered));
      })
