use Rattle.std.proofs.Common.{◌∙◌, ap, sym}
use Rattle.flash_lru.specs.declared.node.Node.{Node}
use Rattle.flash_lru.specs.Ring.{is_listed}
use Rattle.flash_lru.proofs.Calls.{room_node, there_card}
use Rattle.flash_lru.proofs.segments.Segments.has_card.Goals as goal

pub node_of-requires : goal.node_of-requires
node_of-requires c = room_node _ _ _ _ c.self.inside.memory c.args.item _ c.self.invariant c.self.view_is c.requires

pub returns : goal.returns
returns c =
    let same = c.is_listed.ensures ∙ ap (λ (v : Node). is_listed v.home) c.node_of.ensures in
    let both = there_card _ _ _ _ c.self.inside.memory c.args.item _ c.self.invariant c.self.view_is in
    (λ yes. both.0 (sym same ∙ yes), λ some. same ∙ both.1 some)
