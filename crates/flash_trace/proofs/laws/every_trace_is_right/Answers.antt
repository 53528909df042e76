use Rattle.flash_trace.proofs.Checked.{line_passes}
use Rattle.flash_trace.proofs.laws.every_trace_is_right.Goals as goal

pub returns : goal.returns
returns c = λ bytes script reading.
    let parts = c.each_line_is_read.ensures.parts bytes script reading in
    c.every_play_is_right.ensures script.geometry script.steps (line_passes parts.first_line script.geometry parts.geometry)
    (c.each_session_has_a_seat.ensures bytes script reading)
