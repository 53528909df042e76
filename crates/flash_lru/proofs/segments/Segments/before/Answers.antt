use Rattle.std.proofs.Common.{◌∙◌, ap, sym}
use Rattle.flash_lru.specs.declared.node.Node.{Node}
use Rattle.flash_lru.specs.Ring.{item_of}
use Rattle.flash_lru.proofs.Calls.{has_node, before_read}
use Rattle.flash_lru.proofs.segments.Segments.before.Goals as goal

pub node_of-requires : goal.node_of-requires
node_of-requires c = has_node _ _ _ _ c.self.inside.memory c.args.item _ c.self.invariant c.self.view_is c.requires

pub returns : goal.returns
returns c = c.item_of.ensures ∙ ap (λ (v : Node). item_of v.prev) c.node_of.ensures ∙ sym (before_read _ _ _ _ c.self.inside.memory c.args.item _ c.self.invariant c.self.view_is c.requires)
