use Rattle.std.proofs.Common.{◌≡◌, ℕ, ◌*◌, ◌<◌, ◌≤◌, Option, IsSome, sym, ap, ◌∙◌, subst, arith}
use Rattle.flash_buffers.specs.BufferTable.{first_free}
use Rattle.std.specs.Option.{ForSome}
use Rattle.flash_buffers.specs.Calls.{CanTake}
use Rattle.flash_blocks.specs.BlockTable.{BlockTable, open_page, block_offset}
use Rattle.flash_blocks.specs.Sound.{HasNextBlock}
use Rattle.flash_blocks.proofs.KeptLemmas.{can_take, taken_kept, taken_fits}
use Rattle.flash_blocks.proofs.blocks.Blocks.take_block.Goals as goal

pub offset-requires : goal.offset-requires
offset-requires c =
    let t : BlockTable = record { pages = c.self.inside.pages; buffers = c.self.inside.buffers; default = c.self.inside.opened.default; compact = c.self.inside.opened.compact } in
    let next : HasNextBlock t c.in-Some.page = subst (λ (s : BlockTable). ForSome (open_page s c.args.bucket) (HasNextBlock s)) (sym c.self.view_is) c.requires c.in-Some.page (sym (c.in-Some.ensures t)) in
    let low : c.in-Some.page.used * t.buffers.size < 4294967296 = omega (arith, next.within, c.self.invariant.2.sizes.short) in
    rw c.self.invariant.1 low

pub take-buffer-requires : goal.take-buffer-requires
take-buffer-requires c =
    let t : BlockTable = record { pages = c.self.inside.pages; buffers = c.self.inside.buffers; default = c.self.inside.opened.default; compact = c.self.inside.opened.compact } in
    let next : HasNextBlock t c.in-Some.page = subst (λ (s : BlockTable). ForSome (open_page s c.args.bucket) (HasNextBlock s)) (sym c.self.view_is) c.requires c.in-Some.page (sym (c.in-Some.ensures t)) in
    let offset : c.offset.result ≡ block_offset t.buffers.size c.in-Some.page = c.offset.ensures ∙ ap (λ (n : ℕ). block_offset n c.in-Some.page) c.self.invariant.1 in
    subst (CanTake t.buffers c.in-Some.page.label) (sym offset) (can_take t c.args.bucket c.in-Some.page c.self.invariant.2 (sym (c.in-Some.ensures t)) next)

pub invariant_of-self : goal.invariant_of-self
invariant_of-self c =
    let t : BlockTable = record { pages = c.self.inside.pages; buffers = c.self.inside.buffers; default = c.self.inside.opened.default; compact = c.self.inside.opened.compact } in
    let next : HasNextBlock t c.in-Some.page = subst (λ (s : BlockTable). ForSome (open_page s c.args.bucket) (HasNextBlock s)) (sym c.self.view_is) c.requires c.in-Some.page (sym (c.in-Some.ensures t)) in
    let offset : c.offset.result ≡ block_offset t.buffers.size c.in-Some.page = c.offset.ensures ∙ ap (λ (n : ℕ). block_offset n c.in-Some.page) c.self.invariant.1 in
    let buffers = c.take-buffer.new.self in
    taken_kept t _ _ c.args.bucket c.in-Some.page c.take-buffer.result c.offset.result buffers _ c.self.invariant (sym (c.in-Some.ensures t)) next offset c.take-buffer.ensures.exact c.take-buffer.ensures.unsealed c.take-buffer.ensures.after (c.set.ensures (record t { buffers = buffers }))

pub returns-clause-room : goal.returns-clause-room
returns-clause-room c =
    let t : BlockTable = record { pages = c.self.inside.pages; buffers = c.self.inside.buffers; default = c.self.inside.opened.default; compact = c.self.inside.opened.compact } in
    let offset : c.offset.result ≡ block_offset t.buffers.size c.in-Some.page = c.offset.ensures ∙ ap (λ (n : ℕ). block_offset n c.in-Some.page) c.self.invariant.1 in
    let buffers = c.take-buffer.new.self in
    let free = ap (λ (s : BlockTable). first_free s.buffers) c.self.view_is in
    let size = ap (λ (s : BlockTable). s.buffers.size) c.self.view_is in
    λ _ some n short. taken_fits t c.args.bucket c.in-Some.page c.take-buffer.result c.offset.result buffers _ n c.take-buffer.ensures.exact c.take-buffer.ensures.unsealed c.take-buffer.ensures.after (c.set.ensures (record t { buffers = buffers })) (subst (λ (o : Option ℕ). IsSome o) (sym free) some) (subst (λ (k : ℕ). n ≤ k) (sym size) short)
