use Rattle.flash_play.proofs.Numbering.{step_numbered}
use Rattle.flash_play.proofs.laws.steps_leave_numbers_new.Goals as goal

pub returns : goal.returns
returns c = λ g p line step sixteen seated numbered.
    step_numbered
    (record { records = c.each_ask_records_itself.ensures; numbers = c.numbers_stay_new.ensures; others = c.calls_of_no_session_record_no_step.ensures })
    g p line step sixteen seated numbered
