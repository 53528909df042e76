use Rattle.std.proofs.Common.{◌≡◌, List, ℕ, ◌+◌, ◌-◌, take, Some, sym, ◌∙◌, ap, subst}
use Rattle.flash_commands.specs.declared.place.Place.{Place}
use Rattle.flash_commands.specs.Meanings.{meaning_of}
use Rattle.flash_reader.specs.Remembered.{IsWanted, announced}
use Rattle.flash_reader.proofs.Awaited.{block_wanted}
use Rattle.flash_reader.proofs.wanted.wanted_after.Goals as goal

pub returns-in-Some-clause-wanted : goal.returns-in-Some-clause-wanted
returns-in-Some-clause-wanted c =
    let bytes = c.args.bytes.now in
    let size = c.in-Some.size in
    let block : announced (meaning_of c.args.item_max (take (c.args.n - 1) bytes)) ≡ Some size =
    ap (λ (line : List ℕ). announced (meaning_of c.args.item_max line)) (sym c.split_at.ensures.front) ∙ sym c.block_size.ensures.size ∙ c.in-Some.is in
    subst (λ (place : Place). IsWanted c.args.item_max place (c.args.n + size + 2) bytes) (sym c.in-InLine.is)
    (block_wanted c.a_block_is_awaited.ensures c.args.item_max c.args.n size bytes c.requires.within.2 c.requires.cut block)
