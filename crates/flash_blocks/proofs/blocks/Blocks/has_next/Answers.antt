use Rattle.std.proofs.Common.{◌*◌, ◌<◌, ◌≤◌, sym, arith}
use Rattle.flash_blocks.specs.BlockTable.{BlockTable}
use Rattle.flash_blocks.specs.Rooms.{closed}
use Rattle.flash_blocks.proofs.SoundLemmas.{page_sound}
use Rattle.flash_blocks.proofs.KeptLemmas.{count_low, next_is}
use Rattle.flash_blocks.proofs.blocks.Blocks.has_next.Goals as goal

pub closed-requires : goal.closed-requires
closed-requires c =
    let t : BlockTable = record { pages = c.self.inside.pages; buffers = c.self.inside.buffers; default = c.self.inside.opened.default; compact = c.self.inside.opened.compact } in
    let own = page_sound t c.args.bucket c.self.invariant.2 c.in-Some.page (sym (c.in-Some.ensures t)) in
    count_low (closed c.in-Some.page).used t.buffers.size t.pages.page_size c.self.invariant.2.sizes own.within

pub offset-next-requires : goal.offset-next-requires
offset-next-requires c =
    let t : BlockTable = record { pages = c.self.inside.pages; buffers = c.self.inside.buffers; default = c.self.inside.opened.default; compact = c.self.inside.opened.compact } in
    let own = page_sound t c.args.bucket c.self.invariant.2 c.in-Some.page (sym (c.in-Some.ensures t)) in
    let low : (closed c.in-Some.page).used * t.buffers.size < 4294967296 = omega (arith, own.within, c.self.invariant.2.sizes.short) in
    rw (c.closed.ensures, c.self.invariant.1) low

pub overflow_sub-result : goal.overflow_sub-result
overflow_sub-result c =
    let t : BlockTable = record { pages = c.self.inside.pages; buffers = c.self.inside.buffers; default = c.self.inside.opened.default; compact = c.self.inside.opened.compact } in
    let own = page_sound t c.args.bucket c.self.invariant.2 c.in-Some.page (sym (c.in-Some.ensures t)) in
    let within : (closed c.in-Some.page).used * t.buffers.size ≤ t.pages.page_size = own.within in
    rw (c.offset-next.ensures, c.closed.ensures, c.self.invariant.1, c.self.invariant.0) within

pub returns-in-Some : goal.returns-in-Some
returns-in-Some c =
    let t : BlockTable = record { pages = c.self.inside.pages; buffers = c.self.inside.buffers; default = c.self.inside.opened.default; compact = c.self.inside.opened.compact } in
    next_is t c.args.self.now c.args.bucket c.in-Some.page c.closed.result _ _ c.offset-next.result c.self.invariant c.self.view_is (sym (c.in-Some.ensures t)) c.closed.ensures c.offset-next.ensures
