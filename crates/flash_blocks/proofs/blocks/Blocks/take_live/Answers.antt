use Rattle.std.proofs.Common.{sym, subst}
use Rattle.flash_pages.specs.Calls.{HasLive}
use Rattle.flash_blocks.specs.BlockTable.{BlockTable}
use Rattle.flash_blocks.proofs.PageLemmas.{KeepsOpen, none, taken_keeps}
use Rattle.flash_blocks.proofs.SoundLemmas.{kept_pages}
use Rattle.flash_blocks.proofs.blocks.Blocks.take_live.Goals as goal

pub invariant_of-self : goal.invariant_of-self
invariant_of-self c =
    let t : BlockTable = record { pages = c.self.inside.pages; buffers = c.self.inside.buffers; default = c.self.inside.opened.default; compact = c.self.inside.opened.compact } in
    let label = c.args.place.label in
    let bytes = c.args.place.length in
    let has : HasLive t.pages label bytes = subst (λ (s : BlockTable). HasLive s.pages label bytes) (sym c.self.view_is) c.requires in
    kept_pages t _ _ c.take_live.new.self (subst (KeepsOpen none t.pages) (sym c.take_live.ensures) (taken_keeps t.pages label bytes has)) c.self.invariant
