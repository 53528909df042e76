use Rattle.std.proofs.Common.{◌≡◌, None, Some, refl}
use Rattle.flash_names.specs.Geometry.{first_broken, rules_of}
use Rattle.flash_names.proofs.Rules.{all_kept, kept_all}
use Rattle.flash_names.proofs.geometry.Geometry.check.Goals as goal

pub returns-in-None-clause-passes : goal.returns-in-None-clause-passes
returns-in-None-clause-passes c =
    let none : first_broken 1 (rules_of c.args.self.now) ≡ None = cc in
    (λ _. all_kept c.args.self.now none, λ _. refl)

pub returns-in-Some-clause-passes : goal.returns-in-Some-clause-passes
returns-in-Some-clause-passes c =
    let some : first_broken 1 (rules_of c.args.self.now) ≡ Some c.in-Some.rule = cc in
    (λ ok. absurd (cc ok), λ passes. absurd (cc (some, kept_all c.args.self.now passes)))
