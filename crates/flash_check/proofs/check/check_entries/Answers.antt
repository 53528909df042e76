use Rattle.std.proofs.Common.{◌<◌, length, arith}
use Rattle.std.proofs.lemmas.Bool.Decides.{nat_tests}
use Rattle.std.proofs.lemmas.Grind.{common_steps}
use Rattle.flash_check.proofs.Deciding.{at_short_line, at_illegal_line, at_bad_line, at_good_line}
use Rattle.flash_check.proofs.check.check_entries.Goals as goal

pub returns-in_default : goal.returns-in_default
returns-in_default c =
    let some : 0 < length c.lines.left.now = grind (arith, nat_tests, common_steps) in
    at_short_line c.lines.invariant.going some c.in_default.ensures.parts

pub returns-in-Some-Illegal : goal.returns-in-Some-Illegal
returns-in-Some-Illegal c =
    at_illegal_line c.in-Some.line.now c.in-Some.rest.now c.in-Some-Illegal.rule c.lines.invariant.going c.in-Some.ensures.parts
    (λ h stands. let is = c.in_ok-check_line.ensures.verdict c.args.geometry h stands in cc is)

pub returns-in-None : goal.returns-in-None
returns-in-None c =
    at_bad_line c.in-Some.line.now c.in-Some.rest.now c.lines.invariant.going c.in-Some.ensures.parts
    (λ h stands. let is = c.in_ok-check_line.ensures.verdict c.args.geometry h stands in cc is)

pub lines-preserved : goal.lines-preserved
lines-preserved c = record {
  going = at_good_line c.in-Some.line.now c.in-Some.rest.now c.lines.invariant.going c.in-Some.ensures.parts
      (λ h stands. let is = c.in_ok-check_line.ensures.verdict c.args.geometry h stands in cc is)
      (λ h stands. c.in_ok-check_line.ensures.legal c.args.geometry h stands);
  few = omega (arith, c.lines.invariant.few, c.in-Some.ensures.lengths);
  small = c.lines.invariant.small;
}
