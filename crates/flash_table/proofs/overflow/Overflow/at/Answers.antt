use Rattle.std.proofs.Common.{◌<◌, ◌/◌, ◌%◌, [], ap, sym, ◌∙◌, length, arith}
use Rattle.flash_table.specs.Entries.{entry_at}
use Rattle.flash_table.specs.Flat.{flat}
use Rattle.flash_table.proofs.Flat.{whole_length, any_default}
use Rattle.flash_table.proofs.Groups.{chain_at}
use Rattle.flash_table.proofs.overflow.Overflow.at.Goals as goal

pub index-group-requires : goal.index-group-requires
index-group-requires c = omega (arith, whole_length c.self.inside.groups.items c.self.invariant, ap length c.self.view_is, c.requires)

pub returns : goal.returns
returns c =
    let gs = c.self.inside.groups.items in
    let slot = c.args.slot in
    let whole = c.self.invariant in
    let inside : slot < length (flat gs) = omega (arith, ap length c.self.view_is, c.requires) in
    let group : slot / 16 < length gs = omega (arith, whole_length gs whole, inside) in
    c.at.ensures.same
    ∙ ap (λ g. entry_at g (slot % 16)) (c.index-group.ensures ∙ any_default gs (slot / 16) c.index-group.result.now [] group)
    ∙ sym (chain_at gs slot whole inside)
    ∙ ap (λ es. entry_at es slot) c.self.view_is
