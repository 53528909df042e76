use Rattle.std.proofs.Common.{sym, subst}
use Rattle.flash_blocks.specs.BlockTable.{BlockTable}
use Rattle.flash_blocks.proofs.PageLemmas.{KeepsOpen, none, pinned_keeps}
use Rattle.flash_blocks.proofs.SoundLemmas.{kept_pages}
use Rattle.flash_blocks.proofs.blocks.Blocks.pin.Goals as goal

pub invariant_of-self : goal.invariant_of-self
invariant_of-self c =
    let t : BlockTable = record { pages = c.self.inside.pages; buffers = c.self.inside.buffers; default = c.self.inside.opened.default; compact = c.self.inside.opened.compact } in
    kept_pages t _ _ c.pin.new.self (subst (KeepsOpen none t.pages) (sym c.pin.ensures.after) (pinned_keeps t.pages c.args.label)) c.self.invariant
