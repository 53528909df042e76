use Rattle.std.proofs.Common.{sym}
use Rattle.flash_blocks.specs.BlockTable.{BlockTable}
use Rattle.flash_blocks.specs.Rooms.{closed}
use Rattle.flash_blocks.proofs.SoundLemmas.{page_sound}
use Rattle.flash_blocks.proofs.KeptLemmas.{count_low, sealed_kept}
use Rattle.flash_blocks.proofs.blocks.Blocks.seal_block.Goals as goal

pub seal_buffer-requires : goal.seal_buffer-requires
seal_buffer-requires c =
    let t : BlockTable = record { pages = c.self.inside.pages; buffers = c.self.inside.buffers; default = c.self.inside.opened.default; compact = c.self.inside.opened.compact } in
    λ id at. ((page_sound t c.args.bucket c.self.invariant.2 c.in-Some.page (sym (c.in-Some.ensures t))).block id at).unsealed

pub closed-requires : goal.closed-requires
closed-requires c =
    let t : BlockTable = record { pages = c.self.inside.pages; buffers = c.self.inside.buffers; default = c.self.inside.opened.default; compact = c.self.inside.opened.compact } in
    let own = page_sound t c.args.bucket c.self.invariant.2 c.in-Some.page (sym (c.in-Some.ensures t)) in
    count_low (closed c.in-Some.page).used t.buffers.size t.pages.page_size c.self.invariant.2.sizes own.within

pub invariant_of-self : goal.invariant_of-self
invariant_of-self c =
    let t : BlockTable = record { pages = c.self.inside.pages; buffers = c.self.inside.buffers; default = c.self.inside.opened.default; compact = c.self.inside.opened.compact } in
    let buffers = c.seal_buffer.new.buffers in
    sealed_kept t _ _ c.args.bucket c.in-Some.page c.closed.result buffers _ c.self.invariant (sym (c.in-Some.ensures t)) c.closed.ensures c.seal_buffer.ensures (c.set.ensures (record t { buffers = buffers }))
