use Rattle.std.proofs.Common.{Option, unwrap_or, sym, ap, ◌∙◌, subst}
use Rattle.flash_buffers.specs.BufferTable.{IsOpen}
use Rattle.flash_blocks.specs.declared.open_page.OpenPage.{OpenPage}
use Rattle.flash_blocks.specs.BlockTable.{BlockTable, page_of, no_page}
use Rattle.flash_blocks.proofs.SoundLemmas.{page_sound}
use Rattle.flash_blocks.proofs.blocks.Blocks.open_buffer.Goals as goal

pub returns-in-None-clause-exact : goal.returns-in-None-clause-exact
returns-in-None-clause-exact c =
    let t : BlockTable = record { pages = c.self.inside.pages; buffers = c.self.inside.buffers; default = c.self.inside.opened.default; compact = c.self.inside.opened.compact } in
    ap (λ (o : Option OpenPage). (unwrap_or o no_page).buffer) (c.in-None.ensures t) ∙ ap (λ (s : BlockTable). (page_of s c.args.bucket).buffer) c.self.view_is

pub returns-in-Some-clause-exact : goal.returns-in-Some-clause-exact
returns-in-Some-clause-exact c =
    let t : BlockTable = record { pages = c.self.inside.pages; buffers = c.self.inside.buffers; default = c.self.inside.opened.default; compact = c.self.inside.opened.compact } in
    ap (λ (o : Option OpenPage). (unwrap_or o no_page).buffer) (c.in-Some.ensures t) ∙ ap (λ (s : BlockTable). (page_of s c.args.bucket).buffer) c.self.view_is

pub returns-in-Some-clause-open : goal.returns-in-Some-clause-open
returns-in-Some-clause-open c =
    let t : BlockTable = record { pages = c.self.inside.pages; buffers = c.self.inside.buffers; default = c.self.inside.opened.default; compact = c.self.inside.opened.compact } in
    λ id at. subst (λ (s : BlockTable). IsOpen s.buffers id.number) c.self.view_is ((page_sound t c.args.bucket c.self.invariant.2 c.in-Some.page (sym (c.in-Some.ensures t))).block id at).unsealed
