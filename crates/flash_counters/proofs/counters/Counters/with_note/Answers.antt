use Rattle.flash_counters.proofs.counters.Counters.with_note.Goals as goal

pub returns-in-Looked : goal.returns-in-Looked
returns-in-Looked c = rw c.in-Looked.is (c.with_look.ensures c.in-Looked.field-0 c.in-Looked.field-1.now)
