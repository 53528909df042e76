use Rattle.std.proofs.Common.{ℕ, ◌+◌, ◌^◌, List, drop, get_or, sym, ◌∙◌, ap}
use Rattle.std.proofs.lemmas.List.{drop_more, drop_all}
use Rattle.flash_names.specs.Numbers.{value_from, if_below}
use Rattle.flash_names.proofs.Digits.{one_too_many, at_end}
use Rattle.flash_names.proofs.words.value_of_digits.Goals as goal

pub returns-in-None : goal.returns-in-None
returns-in-None c =
    let word = c.args.word.now in
    let at = c.digits.digit-index in
    let number = c.digits.number in
    let rest = drop_more word at 0 c.digits-test.true in
    sym (sym c.digits.invariant.left ∙ ap (λ (l : List ℕ). if_below (2 ^ 64) (value_from number l)) rest
    ∙ one_too_many (2 ^ 64) number (get_or word at 0) (drop (at + 1) word) (sym c.in-None.is ∙ c.with_digit.ensures))

pub returns : goal.returns
returns c =
    let number = c.digits.number in
    sym (sym c.digits.invariant.left ∙ ap (λ (l : List ℕ). if_below (2 ^ 64) (value_from number l)) (drop_all c.digits.digit-index c.args.word.now c.digits-test.false)
    ∙ at_end (2 ^ 64) number c.digits.invariant.below)
