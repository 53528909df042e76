use Rattle.flash_lru.proofs.Calls.{has_node, touches}
use Rattle.flash_lru.proofs.segments.Segments.touch.Goals as goal

pub node_of-node-requires : goal.node_of-node-requires
node_of-node-requires c = has_node _ _ _ _ c.self.inside.memory c.args.item _ c.self.invariant c.self.view_is c.requires

pub set_node-requires : goal.set_node-requires
set_node-requires c = has_node _ _ _ _ c.self.inside.memory c.args.item _ c.self.invariant c.self.view_is c.requires

pub invariant_of-self : goal.invariant_of-self
invariant_of-self c = rw (c.set_node.ensures, c.node_of-node.ensures) (touches _ _ _ _ c.self.inside.memory c.args.item _ c.self.invariant c.self.view_is c.requires).sound

pub returns : goal.returns
returns c = rw (c.set_node.ensures, c.node_of-node.ensures) (touches _ _ _ _ c.self.inside.memory c.args.item _ c.self.invariant c.self.view_is c.requires).view
