use Rattle.std.proofs.Common.{◌≡◌, true, false, length, None, Some, refl, sym, ◌∙◌, ap, subst, rules}
use Rattle.std.specs.Option.{option_copied}
use Rattle.flash_calls.specs.declared.found.Found.{Found}
use Rattle.flash_calls.specs.declared.found.Found.TheVariants as found
use Rattle.flash_items.specs.declared.item.Parts.{Parts}
use Rattle.flash_core.specs.Numbers.{cache_of_items}
use Rattle.flash_core.specs.Reading.{found_in, found_with}
use Rattle.flash_core.proofs.Shown.{found_unwanted, found_wanted}
use Rattle.flash_core.proofs.reading.found_at.Goals as goal

pub returns-then-not-look-clause-found : goal.returns-then-not-look-clause-found
returns-then-not-look-clause-found c = λ items numbers now.
    let cache = cache_of_items items numbers in
    let head = c.head_of-head.result in
    let unwanted : c.args.look.value ≡ false = search rules in
    subst (λ live. ◌≡◌ {A = Found} (found.Head head) (found_in cache c.args.blocks.now.buffers c.args.key.now c.args.look live)) (sym (ap option_copied c.in-Some.is))
    (found_unwanted cache c.args.blocks.now.buffers c.args.key.now c.args.look c.in-Some.parts.now head (c.head_of-head.ensures items numbers c.args.look now refl) unwanted)

pub returns-in-None-clause-found : goal.returns-in-None-clause-found
returns-in-None-clause-found c = λ items numbers now.
    let cache = cache_of_items items numbers in
    let head = c.head_of-head.result in
    let wanted : c.args.look.value ≡ true = search rules in
    subst (λ live. ◌≡◌ {A = Found} (found.Away head) (found_in cache c.args.blocks.now.buffers c.args.key.now c.args.look live)) (sym (ap option_copied c.in-Some.is))
    (found_wanted cache c.args.blocks.now.buffers c.args.key.now c.args.look c.in-Some.parts.now head (c.head_of-head.ensures items numbers c.args.look now refl) wanted None
    (sym c.value_at.ensures ∙ ap option_copied c.in-None.is))

pub returns-in_ok-value-in-Some-value_at-clause-found : goal.returns-in_ok-value-in-Some-value_at-clause-found
returns-in_ok-value-in-Some-value_at-clause-found c = λ items numbers now.
    let cache = cache_of_items items numbers in
    let head = c.head_of-head.result in
    let value = c.in_ok-value-in-Some-value_at.value in
    let wanted : c.args.look.value ≡ true = search rules in
    subst (λ live. ◌≡◌ {A = Found} (found_with head (Some value)) (found_in cache c.args.blocks.now.buffers c.args.key.now c.args.look live)) (sym (ap option_copied c.in-Some.is))
    (found_wanted cache c.args.blocks.now.buffers c.args.key.now c.args.look c.in-Some.parts.now head (c.head_of-head.ensures items numbers c.args.look now refl) wanted (Some value)
    (sym c.value_at.ensures ∙ ap option_copied c.in-Some-value_at.is ∙ ap Some (sym c.in_ok-value-in-Some-value_at.ensures)))
