use Rattle.std.proofs.Common.{sym, ◌∙◌, ap}
use Rattle.flash_entry.specs.declared.entry.Entry.{Entry}
use Rattle.flash_machine.specs.Steps.{cache_of}
use Rattle.flash_machine.specs.Rules.{rules, broken}
use Rattle.flash_machine.proofs.machine.Machine.broken.Goals as goal

pub returns-in-Looked : goal.returns-in-Looked
returns-in-Looked c = λ g h stands. c.broken_by_look.ensures c.in-Looked.field-2 g h stands ∙ ap (λ (e : Entry). broken (rules g h (cache_of g h) e)) (sym c.in-Looked.is)

pub returns-in-FromBuffer : goal.returns-in-FromBuffer
returns-in-FromBuffer c = λ g h stands. c.broken_by_buffer.ensures g h stands ∙ ap (λ (e : Entry). broken (rules g h (cache_of g h) e)) (sym c.in-FromBuffer.is)

pub returns-in-ReadBegan : goal.returns-in-ReadBegan
returns-in-ReadBegan c = λ g h stands. c.broken_by_read_begin.ensures c.in-ReadBegan.field-2 g h stands ∙ ap (λ (e : Entry). broken (rules g h (cache_of g h) e)) (sym c.in-ReadBegan.is)

pub returns-in-Moved : goal.returns-in-Moved
returns-in-Moved c = λ g h stands. c.broken_by_move.ensures g h stands ∙ ap (λ (e : Entry). broken (rules g h (cache_of g h) e)) (sym c.in-Moved.is)
