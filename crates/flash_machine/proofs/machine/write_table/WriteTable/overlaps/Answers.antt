use Rattle.std.proofs.Common.{◌*◌, ◌&&◌, sym, ◌∙◌, ap}
use Rattle.flash_machine.specs.Writes.{has_good_write}
use Rattle.flash_machine.proofs.machine.write_table.WriteTable.overlaps.Goals as goal

pub returns-then-reaches : goal.returns-then-reaches
returns-then-reaches c = λ g h was.
    c.is_block_written.ensures g h was
    ∙ ap (λ b. b && has_good_write c.args.place.label (c.args.index * g.buffer_size) h) (sym c.if-reaches.true ∙ c.reaches.ensures g h was)
