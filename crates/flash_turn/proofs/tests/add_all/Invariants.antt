use Rattle.flash_turn.specs.Passes.{IsPassOf}
use Rattle.flash_turn.proofs.tests.add_all.Given as goal

abbrev pub invariant-loop-counter : goal.invariant-loop-counter
invariant-loop-counter g l = IsPassOf {F = Unit {0}} (λ _. tt) l.turn l.pass
