use Rattle.std.proofs.Common.{◌≡◌, ◌≢◌, Bool, suc, ◌+◌, ◌*◌, cond, eq-eqb, ap, sym, ◌∙◌, arith}
use Rattle.std.proofs.lemmas.Bool.{ne_eqb}
use Rattle.flash_table.specs.Home.{power}
use Rattle.flash_table.proofs.Homes.{power_fits, power_more}
use Rattle.flash_table.proofs.home.power_after.Goals as goal

pub overflow_mul-power : goal.overflow_mul-power
overflow_mul-power c = let fits = power_fits c.args.homes c.requires.some in record { fits = omega (arith, fits.0) }

pub returns-then-homes-power : goal.returns-then-homes-power
returns-then-homes-power c =
    let n = c.args.homes in
    let test : suc n ≡ 2 * power n = omega (arith, c.if-homes-power.true, c.requires.power) in
    let next : n + 1 ≡ suc n = omega arith in
    next ∙ sym (power_more n ∙ ap (λ (b : Bool). cond b (suc n) (power n)) (eq-eqb (suc n) (2 * power n) test))

pub returns-else-homes-power : goal.returns-else-homes-power
returns-else-homes-power c =
    let n = c.args.homes in
    let test : suc n ≢ 2 * power n = λ is. c.if-homes-power.false (omega (arith, is, c.requires.power)) in
    c.requires.power ∙ sym (power_more n ∙ ap (λ (b : Bool). cond b (suc n) (power n)) (ne_eqb (suc n) (2 * power n) test))
