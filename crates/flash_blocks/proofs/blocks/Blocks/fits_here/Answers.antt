use Rattle.std.proofs.Common.{refl, sym, subst}
use Rattle.flash_buffers.specs.BufferTable.{IsOpen}
use Rattle.flash_blocks.specs.BlockTable.{BlockTable}
use Rattle.flash_blocks.proofs.blocks.Blocks.fits_here.Goals as goal

pub fits-requires : goal.fits-requires
fits-requires c = subst (λ (s : BlockTable). IsOpen s.buffers c.in-Some.id.number) (sym c.self.view_is) (c.in-Some.ensures.open c.in-Some.id refl)
