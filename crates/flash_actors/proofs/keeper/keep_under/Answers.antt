use Rattle.std.proofs.Common.{rules}
use Rattle.flash_actors.proofs.Keeping.{kept_all, kept_tidy}
use Rattle.flash_actors.proofs.keeper.keep_under.Goals as goal

pub returns-in-Err-make_room-clause-kept : goal.returns-in-Err-make_room-clause-kept
returns-in-Err-make_room-clause-kept g c =
    kept_tidy c.args.core.now c.make_room.new.self c.reap_one.new.self c.juggle_one-juggled.new.self c.out_of_memory-in-Err-make_room.result
    c.in-Ok.ensures.ok c.juggle_one-juggled.ensures.done c.in-Err-make_room.ensures.err c.out_of_memory-in-Err-make_room.ensures.answer

pub returns-clause-kept : goal.returns-clause-kept
returns-clause-kept g c =
    kept_all c.args.core.now c.make_room.new.self c.is_listed.ensures c.reap_one.new.self c.juggle_one-juggled.new.self c.step_of.result c.in-Ok.reaped c.in-Ok-make_room.roomed
    c.juggle_one-juggled.result c.in-Ok.ensures.ok c.juggle_one-juggled.ensures.done c.in-Ok-make_room.ensures.ok
    (search rules) c.in-Ok.ensures.answer c.juggle_one-juggled.ensures.answer c.in-Ok-make_room.ensures.answer
