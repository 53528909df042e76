use Rattle.std.proofs.Common.{◌+◌, ◌*◌}
use Rattle.flash_bench.proofs.turns.+fn-turns_of_many-join+arg2+fn-turns_of_many-join+arg3+turns_of_many.Given as goal

abbrev pub decreases-join+arg2 : goal.decreases-join+arg2
decreases-join+arg2 g l = 2 * l.doublings_left + 1

abbrev pub decreases-join+arg3 : goal.decreases-join+arg3
decreases-join+arg3 g l = 2 * l.doublings_left + 1

abbrev pub decreases-turns_of_many : goal.decreases-turns_of_many
decreases-turns_of_many g l = 2 * l.doublings
