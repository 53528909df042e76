use Rattle.std.proofs.Common.{◌+◌, arith}
use Rattle.flash_actors.proofs.Evicting.{evicts_none, evicts_fewer, evicts_more, evicts_same}
use Rattle.flash_actors.proofs.room.make_room_after.Goals as goal

pub returns-then-not-may_store : goal.returns-then-not-may_store
returns-then-not-may_store g c = evicts_none 8 c.args.core.now

pub rounds-init : goal.rounds-init
rounds-init g c = evicts_none 0 c.args.core.now

pub rounds-preserved : goal.rounds-preserved
rounds-preserved g c = evicts_more c.rounds.counter c.args.core.now c.rounds.core c.make_room.new.self c.rounds.invariant c.in-Ok-Some.ensures.ok

pub returns-in-Ok-None : goal.returns-in-Ok-None
returns-in-Ok-None g c =
    evicts_fewer (c.rounds.counter + 1) 8 c.args.core.now c.make_room.new.self (omega (arith, c.rounds-test.true))
    (evicts_more c.rounds.counter c.args.core.now c.rounds.core c.make_room.new.self c.rounds.invariant c.in-Ok-None.ensures.ok)

pub returns-in-Err : goal.returns-in-Err
returns-in-Err g c =
    evicts_fewer c.rounds.counter 8 c.args.core.now c.make_room.new.self (omega (arith, c.rounds-test.true))
    (evicts_same c.rounds.counter c.args.core.now c.rounds.core c.make_room.new.self c.rounds.invariant c.in-Err.ensures.err)

pub returns : goal.returns
returns g c = evicts_fewer c.rounds.counter 8 c.args.core.now c.rounds.core (omega (arith, c.rounds.auto.counter-end)) c.rounds.invariant
