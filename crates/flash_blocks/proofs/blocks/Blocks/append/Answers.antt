use Rattle.std.proofs.Common.{◌≡◌, true, sym, ap, ◌∙◌, subst}
use Rattle.flash_blocks.specs.BlockTable.{BlockTable, page_of}
use Rattle.flash_blocks.specs.Rooms.{fits_here}
use Rattle.flash_blocks.specs.Calls.{length_of}
use Rattle.flash_blocks.proofs.AddedLemmas.{HasRoom, has_room, added_kept}
use Rattle.flash_blocks.proofs.blocks.Blocks.append.Goals as goal

pub invariant_of-self : goal.invariant_of-self
invariant_of-self c =
    let t : BlockTable = record { pages = c.self.inside.pages; buffers = c.self.inside.buffers; default = c.self.inside.opened.default; compact = c.self.inside.opened.compact } in
    let n = length_of c.args.key.now c.args.value.now in
    let id = c.in-Some.id in
    let room : HasRoom t c.args.bucket id n =
    has_room t c.args.bucket id n (c.in-Some.ensures.exact ∙ ap (λ (s : BlockTable). (page_of s c.args.bucket).buffer) (sym c.self.view_is)) (subst (λ (s : BlockTable). fits_here s c.args.bucket n ≡ true) (sym c.self.view_is) c.requires) in
    added_kept t _ _ c.args.bucket id c.args.key.now c.args.flags c.args.cas c.args.value.now c.in-Some-append.place c.add_live.new.self c.append.new.self c.self.invariant room c.in-Some-append.ensures.place c.append.ensures.after c.add_live.ensures
