use Rattle.flash_actors.specs.Stepping.{HasEvictedUpTo}
use Rattle.flash_actors.proofs.room.make_room_after.Given as goal

-- so many rounds were made
abbrev pub invariant-rounds : goal.invariant-rounds
invariant-rounds g l = HasEvictedUpTo l.counter l.fn.core l.core
