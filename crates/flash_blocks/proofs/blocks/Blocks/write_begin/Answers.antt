use Rattle.flash_blocks.specs.BlockTable.{BlockTable}
use Rattle.flash_blocks.proofs.KeptLemmas.{flight_kept}
use Rattle.flash_blocks.proofs.blocks.Blocks.write_begin.Goals as goal

pub invariant_of-self : goal.invariant_of-self
invariant_of-self c =
    let t : BlockTable = record { pages = c.self.inside.pages; buffers = c.self.inside.buffers; default = c.self.inside.opened.default; compact = c.self.inside.opened.compact } in
    flight_kept t _ _ c.write_begin.new.self _ c.write_begin.ensures.after c.self.invariant
