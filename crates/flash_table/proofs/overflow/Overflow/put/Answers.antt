use Rattle.std.proofs.Common.{◌<◌, ◌/◌, ◌%◌, [], ap, ◌∙◌, length, set, length-set, arith}
use Rattle.flash_table.specs.Flat.{flat}
use Rattle.flash_table.proofs.Flat.{whole_length, whole_set, any_default}
use Rattle.flash_table.proofs.Groups.{chain_set}
use Rattle.flash_table.proofs.overflow.Overflow.put.Goals as goal

pub index_mut-group-requires : goal.index_mut-group-requires
index_mut-group-requires c = omega (arith, whole_length c.self.inside.groups.items c.self.invariant, ap length c.self.view_is, c.requires)

pub invariant_of-self : goal.invariant_of-self
invariant_of-self c =
    let old = c.index_mut-group.result.now in
    whole_set c.self.inside.groups.items (c.args.slot / 16) c.put.new.self c.self.invariant
    (ap length c.put.ensures.written ∙ length-set old (c.args.slot % 16) c.args.entry ∙ c.put.ensures.whole)

pub returns : goal.returns
returns c =
    let gs = c.self.inside.groups.items in
    let slot = c.args.slot in
    let whole = c.self.invariant in
    let old = c.index_mut-group.result.now in
    let inside : slot < length (flat gs) = omega (arith, ap length c.self.view_is, c.requires) in
    let group : slot / 16 < length gs = omega (arith, whole_length gs whole, inside) in
    ap (λ g. flat (set gs (slot / 16) g)) (c.put.ensures.written ∙ ap (λ g. set g (slot % 16) c.args.entry) (c.index_mut-group.ensures.value ∙ any_default gs (slot / 16) old [] group))
    ∙ chain_set gs slot whole inside c.args.entry
    ∙ ap (λ es. set es slot c.args.entry) c.self.view_is
