use Rattle.std.proofs.Common.{◌≡◌, ◌<◌, ◌-◌, ◌/◌, ◌%◌, ℕ, sym, subst, arith}
use Rattle.std.specs.Int.Bits.{bit_and}
use Rattle.std.proofs.Math.Nat.{mod-lt}
use Rattle.flash_table.proofs.Homes.{power_fits, by_power, wide_home, other_home}
use Rattle.flash_table.proofs.home.home_of.Goals as goal

pub overflow_mul-wide : goal.overflow_mul-wide
overflow_mul-wide c = let fits = power_fits c.args.homes c.requires.some in record { fits = omega (arith, fits.0) }

pub overflow_sub-wide : goal.overflow_sub-wide
overflow_sub-wide c = let fits = power_fits c.args.homes c.requires.some in omega (arith, fits.1)

pub overflow_sub-result : goal.overflow_sub-result
overflow_sub-result c = let fits = power_fits c.args.homes c.requires.some in omega (arith, fits.1)

pub returns-then-wide-homes-clause-same : goal.returns-then-wide-homes-clause-same
returns-then-wide-homes-clause-same c = wide_home c.args.homes (c.args.hash / 256) c.args.power c.requires.power c.if-wide-homes.true

pub returns-else-wide-homes-clause-same : goal.returns-else-wide-homes-clause-same
returns-else-wide-homes-clause-same c = other_home c.args.homes (c.args.hash / 256) c.args.power c.requires.power c.if-wide-homes.false

pub returns-else-wide-homes-clause-inside : goal.returns-else-wide-homes-clause-inside
returns-else-wide-homes-clause-inside c =
    let fits = power_fits c.args.homes c.requires.some in
    let bits : bit_and (c.args.hash / 256) (c.args.power - 1) ≡ (c.args.hash / 256) % c.args.power = subst (λ (p : ℕ). bit_and (c.args.hash / 256) (p - 1) ≡ (c.args.hash / 256) % p) (sym c.requires.power) (by_power c.args.homes (c.args.hash / 256)) in
    let some : 0 < c.args.power = omega (arith, fits.1, c.requires.power) in
    omega (arith, bits, fits.0, c.requires.power, mod-lt (c.args.hash / 256) {m = c.args.power} some)
