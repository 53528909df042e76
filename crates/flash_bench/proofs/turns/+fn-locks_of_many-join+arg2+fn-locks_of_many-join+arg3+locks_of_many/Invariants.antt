use Rattle.std.proofs.Common.{◌+◌, ◌*◌}
use Rattle.flash_bench.proofs.turns.+fn-locks_of_many-join+arg2+fn-locks_of_many-join+arg3+locks_of_many.Given as goal

abbrev pub decreases-join+arg2 : goal.decreases-join+arg2
decreases-join+arg2 g l = 2 * l.doublings_left + 1

abbrev pub decreases-join+arg3 : goal.decreases-join+arg3
decreases-join+arg3 g l = 2 * l.doublings_left + 1

abbrev pub decreases-locks_of_many : goal.decreases-locks_of_many
decreases-locks_of_many g l = 2 * l.doublings
