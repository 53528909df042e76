use Rattle.std.proofs.Common.{ap}
use Rattle.flash_calls.specs.Store.{Store}
use Rattle.flash_actors.proofs.Locked.{clock_new_told, clocked_step, clocked_none, unclocked}
use Rattle.flash_actors.proofs.under.step_under.Goals as goal

pub returns-in-Err-clause-step : goal.returns-in-Err-clause-step
returns-in-Err-clause-step g c =
    unclocked c.args.id c.args.ask.now c.args.reading c.refused.result c.args.core.now c.clock.new.self c.in-Err.ensures.err c.refused.ensures.told c.refused.ensures.run

pub do_ask-requires : goal.do_ask-requires
do_ask-requires g c =
    let old = c.args.core.now in
    clock_new_told c.calls_of_no_session_record_no_step.ensures c.numbers_stay_new.ensures old.geometry old.told c.clock.new.self.told c.args.id old.cache old.desk
    c.args.reading c.requires (ap (λ (s : Store). s.told) c.in-Ok.ensures.ok)

pub returns-in-Ok-do_ask-clause-step : goal.returns-in-Ok-do_ask-clause-step
returns-in-Ok-do_ask-clause-step g c =
    clocked_step c.calls_of_no_session_record_no_step.ensures c.args.id c.args.ask.now c.args.reading _ c.each_ask_notes_itself.ensures
    c.args.core.now c.clock.new.self c.do_ask.new.core c.make_room_after.new.core c.in-Ok.ensures.ok c.in-Ok-do_ask.ensures.ok
    c.in-Ok-do_ask.ensures.answer c.make_room_after.ensures c.journal.ensures.runs c.journal-in-Ok-do_ask.ensures.run

pub returns-in-Err-do_ask-clause-step : goal.returns-in-Err-do_ask-clause-step
returns-in-Err-do_ask-clause-step g c =
    clocked_none c.calls_of_no_session_record_no_step.ensures c.args.id c.args.ask.now c.args.reading c.refused-in-Err-do_ask.result
    c.args.core.now c.clock.new.self c.do_ask.new.core c.in-Ok.ensures.ok c.in-Err-do_ask.ensures.err c.refused-in-Err-do_ask.ensures.told
    c.refused-in-Err-do_ask.ensures.run
