use Rattle.flash_turn.specs.Passes.{IsPassOf}
use Rattle.flash_bench.proofs.turns.turns_of_one.Given as goal

abbrev pub invariant-loop : goal.invariant-loop
invariant-loop g l = IsPassOf {F = Unit {0}} (λ _. tt) l.turn l.pass
