use Rattle.std.proofs.Common.{◌≡◌, ℕ, ◌+◌, List, Option, Some, None, refl, sym, ◌∙◌, ap}
use Rattle.std.specs.Option.{option_copied}
use Rattle.flash_entry.specs.declared.answer.Stored.{Stored}
use Rattle.flash_entry.specs.declared.answer.Stored.TheVariants as answers
use Rattle.flash_machine.specs.Item.{Item}
use Rattle.flash_machine.specs.Storing.{stored_item}
use Rattle.flash_core.specs.Choice.{choice_from, parts_of_choice}
use Rattle.flash_core.specs.Items.{known_live}
use Rattle.flash_core.specs.Numbers.{cache_of_items}
use Rattle.flash_core.proofs.choice.choose.Goals as goal

pub returns-in-Some-clause-chosen : goal.returns-in-Some-clause-chosen
returns-in-Some-clause-chosen c = λ items.
    let put = c.args.put.now in
    let live = known_live put.key (option_copied c.args.live) in
    let numbers = c.args.numbers.now in
    let pair : List ℕ × Item = (put.key, stored_item (cache_of_items items numbers) put put.mode live) in
    ap (λ (r : Option Stored). choice_from r numbers.last_cas pair) (sym c.in-Some.is ∙ c.refusal_of.ensures.exact items numbers refl)

pub returns-in_ok-item-in-None-clause-chosen : goal.returns-in_ok-item-in-None-clause-chosen
returns-in_ok-item-in-None-clause-chosen c = λ items.
    let put = c.args.put.now in
    let live = known_live put.key (option_copied c.args.live) in
    let numbers = c.args.numbers.now in
    let last = numbers.last_cas in
    let made = c.in_ok-item-in-None.ensures in
    let pair : List ℕ × Item = (put.key, stored_item (cache_of_items items numbers) put put.mode live) in
    let stored : parts_of_choice record { answer = answers.Stored (last + 1); item = Some c.in_ok-item-in-None.item; last_cas = last + 1 } ≡ choice_from None last pair =
    λ i. (answers.Stored (last + 1), (Some (made.key i, made.item items numbers refl refl i), last + 1)) in
    stored ∙ ap (λ (r : Option Stored). choice_from r last pair) (sym c.in-None.is ∙ c.refusal_of.ensures.exact items numbers refl)
