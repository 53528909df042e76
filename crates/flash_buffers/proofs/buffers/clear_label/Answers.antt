use Rattle.std.proofs.Common.{arith, ap, sym, ◌∙◌}
use Rattle.flash_buffers.specs.BufferTable.{slot_without}
use Rattle.flash_buffers.proofs.DropLemmas.{map_step}
use Rattle.flash_buffers.proofs.buffers.clear_label.Goals as goal

pub rows-preserved : goal.rows-preserved
rows-preserved c =
    map_step (slot_without c.args.label) c.args.rows.now c.rows.rows c.rows.row-index c.row-item.result c.drop_label.new.self (omega arith) c.rows.invariant c.row-item.is (c.drop_label.ensures ∙ ap (slot_without c.args.label) (sym c.row-item.is))
