use Rattle.std.proofs.Common.{◌≡◌, Some, sym, ap, ◌∙◌, subst}
use Rattle.flash_pages.specs.declared.pages.Opened.TheVariants.{Page}
use Rattle.flash_pages.specs.Opening.{next_opening}
use Rattle.flash_blocks.specs.declared.open_page.OpenPage.{OpenPage}
use Rattle.flash_blocks.specs.BlockTable.{BlockTable, with_open_page}
use Rattle.flash_blocks.proofs.SoundLemmas.{IsKept}
use Rattle.flash_blocks.proofs.KeptLemmas.{opened_kept, opened_next}
use Rattle.flash_blocks.proofs.blocks.Blocks.open_first.Goals as goal

pub invariant_of-self : goal.invariant_of-self
invariant_of-self c =
    let t : BlockTable = record { pages = c.self.inside.pages; buffers = c.self.inside.buffers; default = c.self.inside.opened.default; compact = c.self.inside.opened.compact } in
    let pages = c.open_page.new.self in
    let opens : next_opening t.pages c.args.bucket ≡ Page c.args.label = subst (λ (s : BlockTable). next_opening s.pages c.args.bucket ≡ Page c.args.label) (sym c.self.view_is) c.requires in
    opened_kept t _ _ c.args.bucket c.args.label pages _ c.self.invariant opens c.open_page.ensures.after (c.set.ensures (record t { pages = pages }) ∙ ap (λ (p : OpenPage). with_open_page (record t { pages = pages }) c.args.bucket (Some p)) c.new.ensures)

pub returns-clause-ready : goal.returns-clause-ready
returns-clause-ready c =
    let t : BlockTable = record { pages = c.self.inside.pages; buffers = c.self.inside.buffers; default = c.self.inside.opened.default; compact = c.self.inside.opened.compact } in
    let pages = c.open_page.new.self in
    let new : BlockTable = record { pages = pages; buffers = c.self.inside.buffers; default = c.set.new.self.default; compact = c.set.new.self.compact } in
    let opens : next_opening t.pages c.args.bucket ≡ Page c.args.label = subst (λ (s : BlockTable). next_opening s.pages c.args.bucket ≡ Page c.args.label) (sym c.self.view_is) c.requires in
    let set_is = c.set.ensures (record t { pages = pages }) ∙ ap (λ (p : OpenPage). with_open_page (record t { pages = pages }) c.args.bucket (Some p)) c.new.ensures in
    let kept : IsKept c.self.inside.page_size c.self.inside.block_size new = opened_kept t _ _ c.args.bucket c.args.label pages new c.self.invariant opens c.open_page.ensures.after set_is in
    opened_next t _ _ c.args.bucket c.args.label pages new kept set_is
