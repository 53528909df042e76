use Rattle.flash_io.proofs.SlotsLemmas.{get-rows_of}
use Rattle.flash_io.proofs.queue.is_of.Goals as goal

pub returns-in-None : goal.returns-in-None
returns-in-None c = rw (get-rows_of, ← c.in-None.ensures)

pub returns-in-Some : goal.returns-in-Some
returns-in-Some c = rw (get-rows_of, ← c.in-Some.ensures) c.has_id.ensures
