use Rattle.flash_script.proofs.Scripts.Seats.{has_seats}
use Rattle.flash_script.proofs.laws.each_session_has_a_seat.Goals as goal

pub returns : goal.returns
returns c = has_seats
