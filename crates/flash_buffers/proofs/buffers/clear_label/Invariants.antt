use Rattle.std.proofs.Common.{◌≡◌, ◌++◌, take, drop, map}
use Rattle.flash_buffers.specs.BufferTable.{slot_without}
use Rattle.flash_buffers.proofs.buffers.clear_label.Given as goal

-- those before are without the label, and the others as they were
abbrev pub invariant-rows : goal.invariant-rows
invariant-rows l = l.rows ≡ map (slot_without l.label) (take l.row-index l.initial.rows) ++ drop l.row-index l.initial.rows
