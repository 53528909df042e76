use Rattle.std.proofs.Common.{nat_eq, ℕ, ap, sym, ◌∙◌}
use Rattle.flash_table.specs.Growth.{pair_goes, goes}
use Rattle.flash_table.specs.Home.{home}
use Rattle.flash_table.proofs.Held.{empty_pair, unnamed_pair, named_pair}
use Rattle.flash_table.proofs.growth.goes_to.Goals as goal

pub returns-then-entry-eq0 : goal.returns-then-entry-eq0
unfolding goes
returns-then-entry-eq0 c = sym (ap (pair_goes c.args.homes c.args.home) (empty_pair c.args.keys.now c.args.entry.now c.if-entry-eq0.true).0)

pub returns-in-Some : goal.returns-in-Some
unfolding goes
returns-in-Some c =
    ap (λ (n : ℕ). nat_eq n c.args.home) (c.home_of.ensures.same ∙ ap (home c.args.homes) c.hash_of.ensures)
    ∙ sym (ap (pair_goes c.args.homes c.args.home) (named_pair c.args.keys.now c.args.entry.now c.in-Some.key.now c.if-entry-eq0.false (sym c.in-Some.ensures)))

pub returns-in-None : goal.returns-in-None
unfolding goes
returns-in-None c = sym (ap (pair_goes c.args.homes c.args.home) (unnamed_pair c.args.keys.now c.args.entry.now (sym c.in-None.ensures)))
