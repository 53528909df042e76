use Rattle.std.proofs.Common.{◌≡◌, ◌^◌, ◌<◌, ◌+◌, false, Some, Ok, refl, sym, ◌∙◌, ap, subst, arith}
use Rattle.std.specs.Prelude.{nat_le}
use Rattle.std.specs.Option.{option_copied}
use Rattle.std.proofs.lemmas.Bool.Decides.{nat_tests}
use Rattle.flash_entry.specs.declared.answer.Sum.{Sum}
use Rattle.flash_machine.specs.Cache.{Cache}
use Rattle.flash_machine.specs.Storing.{last_number}
use Rattle.flash_machine.specs.Summing.{sum_step}
use Rattle.flash_core.specs.declared.arith.SumChoice.{SumChoice}
use Rattle.flash_core.specs.Counting.{IsChosen, sum_with}
use Rattle.flash_core.specs.Items.{known_live}
use Rattle.flash_core.specs.Numbers.{cache_of_items}
use Rattle.flash_core.proofs.Chosen.{chosen}
use Rattle.flash_core.proofs.arith.sum_of.Goals as goal

pub returns-in_ok-item-in-Ok-clause-chosen : goal.returns-in_ok-item-in-Ok-clause-chosen
returns-in_ok-item-in-Ok-clause-chosen c = λ items.
    let numbers = c.args.numbers.now in
    let ask = c.args.ask.now in
    let before = cache_of_items items numbers in
    let last : numbers.last_cas < 2 ^ 63 = omega (arith, c.if-numbers-ge-LAST_NUMBER.false) in
    let room : nat_le last_number numbers.last_cas ≡ false = grind (arith, nat_tests, last) in
    let step : ◌≡◌ {A = Sum × Cache} (sum_with before ask.key (Ok c.in-Ok.new)) (sum_step before ask (known_live ask.key (option_copied c.args.live))) =
    (ap (sum_with before ask.key) (sym c.in-Ok.is) ∙ c.new_number.ensures.exact items numbers refl) in
    let choice : SumChoice = record { answer = c.answer_with.result; item = Some c.in_ok-item-in-Ok.item; last_cas = numbers.last_cas + 1 } in
    subst (λ (s : Sum × Cache). IsChosen before ask.key s choice) step
    (chosen before ask.key c.in-Ok.new c.in_ok-item-in-Ok.item c.answer_with.result room (c.in_ok-item-in-Ok.ensures.item items numbers refl refl) c.answer_with.ensures)
