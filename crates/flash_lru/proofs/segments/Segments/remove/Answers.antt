use Rattle.std.proofs.Common.{◌+◌, ◌*◌, ◌-◌, arith, ap, ◌∙◌}
use Rattle.flash_lru.specs.declared.node.Node.{Node}
use Rattle.flash_lru.specs.Moves.{removed}
use Rattle.flash_lru.specs.Ring.{in_hot, in_warm, in_cold, unlinked}
use Rattle.flash_lru.proofs.Sound.{Closed, hot_part, warm_part, cold_part}
use Rattle.flash_lru.proofs.Calls.{has_node, removes}
use Rattle.flash_lru.proofs.segments.Segments.remove.Goals as goal

pub node_of-node-requires : goal.node_of-node-requires
node_of-node-requires c = has_node _ _ _ _ c.self.inside.memory c.args.item _ c.self.invariant c.self.view_is c.requires

pub overflow_sub-self : goal.overflow_sub-self
overflow_sub-self c =
    omega (arith, c.hot_bytes.ensures, ap (λ (v : Node). in_hot v.home * v.size) c.node_of-node.ensures, hot_part _ _ _ _ (c.args.item.key + 3) c.self.invariant)

pub overflow_sub-self-2 : goal.overflow_sub-self-2
overflow_sub-self-2 c =
    omega (arith, c.warm_bytes.ensures, ap (λ (v : Node). in_warm v.home * v.size) c.node_of-node.ensures, warm_part _ _ _ _ (c.args.item.key + 3) c.self.invariant)

pub overflow_sub-self-3 : goal.overflow_sub-self-3
overflow_sub-self-3 c =
    omega (arith, c.cold_bytes.ensures, ap (λ (v : Node). in_cold v.home * v.size) c.node_of-node.ensures, cold_part _ _ _ _ (c.args.item.key + 3) c.self.invariant)

pub unlink-requires : goal.unlink-requires
unlink-requires c = has_node _ _ _ _ c.self.inside.memory c.args.item _ c.self.invariant c.self.view_is c.requires

closed : (c : goal.After-unlink) → Closed (unlinked (c.args.item.key + 3) c.self.inside.nodes.items) (c.self.inside.hot_bytes - c.hot_bytes.result) (c.self.inside.warm_bytes - c.warm_bytes.result) (c.self.inside.cold_bytes - c.cold_bytes.result) c.self.inside.memory (removed c.args.item c.args.self.now)
closed c =
    let hot_is = c.hot_bytes.ensures ∙ ap (λ (v : Node). in_hot v.home * v.size) c.node_of-node.ensures in
    let warm_is = c.warm_bytes.ensures ∙ ap (λ (v : Node). in_warm v.home * v.size) c.node_of-node.ensures in
    let cold_is = c.cold_bytes.ensures ∙ ap (λ (v : Node). in_cold v.home * v.size) c.node_of-node.ensures in
    removes _ _ _ _ c.self.inside.memory c.args.item _ c.self.invariant c.self.view_is c.requires _ _ _
    (omega (arith, hot_is, hot_part _ _ _ _ (c.args.item.key + 3) c.self.invariant))
    (omega (arith, warm_is, warm_part _ _ _ _ (c.args.item.key + 3) c.self.invariant))
    (omega (arith, cold_is, cold_part _ _ _ _ (c.args.item.key + 3) c.self.invariant))

pub invariant_of-self : goal.invariant_of-self
invariant_of-self c = rw c.unlink.ensures (closed c).sound

pub returns : goal.returns
returns c = rw c.unlink.ensures (closed c).view
