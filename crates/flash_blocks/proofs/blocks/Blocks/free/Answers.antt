use Rattle.std.proofs.Common.{sym, subst}
use Rattle.flash_pages.specs.Calls.{CanFree}
use Rattle.flash_blocks.specs.BlockTable.{BlockTable}
use Rattle.flash_blocks.proofs.PageLemmas.{KeepsOpen, none, freed_keeps}
use Rattle.flash_blocks.proofs.SoundLemmas.{kept_pages}
use Rattle.flash_blocks.proofs.blocks.Blocks.free.Goals as goal

pub invariant_of-self : goal.invariant_of-self
invariant_of-self c =
    let t : BlockTable = record { pages = c.self.inside.pages; buffers = c.self.inside.buffers; default = c.self.inside.opened.default; compact = c.self.inside.opened.compact } in
    let may : CanFree t.pages c.args.label = subst (λ (s : BlockTable). CanFree s.pages c.args.label) (sym c.self.view_is) c.requires in
    kept_pages t _ _ c.free.new.self (subst (KeepsOpen none t.pages) (sym c.free.ensures) (freed_keeps t.pages c.args.label may)) c.self.invariant
