use Rattle.std.proofs.Common.{sym, subst}
use Rattle.flash_pages.specs.States.{is_full}
use Rattle.flash_pages.specs.PageTable.{IsAt}
use Rattle.flash_blocks.specs.BlockTable.{BlockTable}
use Rattle.flash_blocks.proofs.PageLemmas.{KeepsOpen, none, ended_keeps}
use Rattle.flash_blocks.proofs.SoundLemmas.{kept_pages}
use Rattle.flash_blocks.proofs.blocks.Blocks.end.Goals as goal

pub invariant_of-self : goal.invariant_of-self
invariant_of-self c =
    let t : BlockTable = record { pages = c.self.inside.pages; buffers = c.self.inside.buffers; default = c.self.inside.opened.default; compact = c.self.inside.opened.compact } in
    let may : IsAt is_full t.pages c.args.label = subst (λ (s : BlockTable). IsAt is_full s.pages c.args.label) (sym c.self.view_is) c.requires in
    kept_pages t _ _ c.end.new.self (subst (KeepsOpen none t.pages) (sym c.end.ensures) (ended_keeps t.pages c.args.label may)) c.self.invariant
