use Rattle.std.proofs.Common.{◌≡◌, ◌+◌, drop}
use Rattle.flash_names.specs.Geometry.{first_broken}
use Rattle.flash_names.proofs.geometry.first_broken_of.Given as goal

-- the first broken rule is among those that are left
abbrev pub invariant-rules : goal.invariant-rules
invariant-rules l = record {
  counted : l.number ≡ l.kept-index + 1;
  left : first_broken 1 l.rules ≡ first_broken l.number (drop l.kept-index l.rules);
}
