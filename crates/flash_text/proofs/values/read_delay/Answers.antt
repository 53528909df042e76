use Rattle.std.proofs.Common.{◌≡◌, Bool, true, ◌<◌, ◌^◌, nat_le, length, pos, Ok, ◌∙◌, ap, sym, arith, rules, if◌then◌else◌, None}
use Rattle.std.specs.Option.{option_map}
use Rattle.std.specs.Result.{result_ok}
use Rattle.std.proofs.lemmas.Result.{Ok-from_Ok_iff}
use Rattle.std.proofs.lemmas.Bool.Decides.{nat_tests}
use Rattle.flash_names.specs.Numbers.{number_of}
use Rattle.flash_text.proofs.Seconds.{number_below}
use Rattle.flash_text.proofs.values.read_delay.Goals as goal

pub returns : goal.returns
returns c =
    let digits = c.args.digits.now in
    let n = c.in_ok-read_number.field-0 in
    let small : n < 10 ^ 18 = number_below digits n c.if-digits-gt-MAX_DIGITS.false (sym c.in_ok-read_number.ensures) in
    let fits : c.try_from.result ≡ Ok (pos n) = Ok-from_Ok_iff _ _ _ c.try_from.ensures (search rules) in
    let short : nat_le (length digits) 18 ≡ true = grind (arith, nat_tests) in
    c.ok.ensures.value ∙ ap result_ok fits ∙ ap (option_map pos) (c.in_ok-read_number.ensures ∙ ap (λ (test : Bool). if test then number_of digits else None) (sym short))
