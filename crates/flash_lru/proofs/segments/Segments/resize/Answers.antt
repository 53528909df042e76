use Rattle.std.proofs.Common.{◌+◌, ◌-◌, ◌*◌, ◌∙◌, ap, set, arith}
use Rattle.flash_lru.specs.declared.node.Node.{Node}
use Rattle.flash_lru.specs.Ring.{in_hot, in_warm, in_cold, node_at}
use Rattle.flash_lru.specs.Moves.{resized}
use Rattle.flash_lru.proofs.Sound.{Closed, hot_part, warm_part, cold_part, room}
use Rattle.flash_lru.proofs.Calls.{has_node, resizes, hot_small, warm_small, cold_small}
use Rattle.flash_lru.proofs.segments.Segments.resize.Goals as goal

pub node_of-before-requires : goal.node_of-before-requires
node_of-before-requires c = has_node _ _ _ _ c.self.inside.memory c.args.item _ c.self.invariant c.self.view_is c.requires

pub overflow_sub-self : goal.overflow_sub-self
overflow_sub-self c =
    omega (arith, c.hot_bytes.ensures, ap (λ (v : Node). in_hot v.home * v.size) c.node_of-before.ensures, hot_part _ _ _ _ (c.args.item.key + 3) c.self.invariant)

pub overflow_add-self : goal.overflow_add-self
overflow_add-self c =
    omega (arith, c.hot_bytes-2.ensures, hot_small c.node_of-before.result.home c.args.size c.ranges.size.fits, room _ _ _ _ c.self.invariant)

pub overflow_sub-self-2 : goal.overflow_sub-self-2
overflow_sub-self-2 c =
    omega (arith, c.warm_bytes.ensures, ap (λ (v : Node). in_warm v.home * v.size) c.node_of-before.ensures, warm_part _ _ _ _ (c.args.item.key + 3) c.self.invariant)

pub overflow_sub-self-3 : goal.overflow_sub-self-3
overflow_sub-self-3 c =
    omega (arith, c.cold_bytes.ensures, ap (λ (v : Node). in_cold v.home * v.size) c.node_of-before.ensures, cold_part _ _ _ _ (c.args.item.key + 3) c.self.invariant)

pub overflow_add-self-2 : goal.overflow_add-self-2
overflow_add-self-2 c =
    omega (arith, c.warm_bytes-2.ensures, warm_small c.node_of-before.result.home c.args.size c.ranges.size.fits, room _ _ _ _ c.self.invariant)

pub overflow_add-self-3 : goal.overflow_add-self-3
overflow_add-self-3 c =
    omega (arith, c.cold_bytes-2.ensures, cold_small c.node_of-before.result.home c.args.size c.ranges.size.fits, room _ _ _ _ c.self.invariant)

pub set_node-requires : goal.set_node-requires
set_node-requires c = has_node _ _ _ _ c.self.inside.memory c.args.item _ c.self.invariant c.self.view_is c.requires

closed : (c : goal.After-set_node) → Closed (set c.self.inside.nodes.items (c.args.item.key + 3) (record (node_at c.self.inside.nodes.items (c.args.item.key + 3)) { size = c.args.size })) (c.self.inside.hot_bytes - c.hot_bytes.result + c.hot_bytes-2.result) (c.self.inside.warm_bytes - c.warm_bytes.result + c.warm_bytes-2.result) (c.self.inside.cold_bytes - c.cold_bytes.result + c.cold_bytes-2.result) c.self.inside.memory (resized c.args.item c.args.size c.args.self.now)
closed c =
    let hot_was = c.hot_bytes.ensures ∙ ap (λ (v : Node). in_hot v.home * v.size) c.node_of-before.ensures in
    let hot_is = c.hot_bytes-2.ensures ∙ ap (λ (v : Node). in_hot v.home * c.args.size) c.node_of-before.ensures in
    let warm_was = c.warm_bytes.ensures ∙ ap (λ (v : Node). in_warm v.home * v.size) c.node_of-before.ensures in
    let cold_was = c.cold_bytes.ensures ∙ ap (λ (v : Node). in_cold v.home * v.size) c.node_of-before.ensures in
    let warm_is = c.warm_bytes-2.ensures ∙ ap (λ (v : Node). in_warm v.home * c.args.size) c.node_of-before.ensures in
    let cold_is = c.cold_bytes-2.ensures ∙ ap (λ (v : Node). in_cold v.home * c.args.size) c.node_of-before.ensures in
    resizes _ _ _ _ c.self.inside.memory c.args.item _ c.self.invariant c.self.view_is c.args.size c.requires c.ranges.size.fits _ _ _
    (omega (arith, hot_was, hot_is, hot_part _ _ _ _ (c.args.item.key + 3) c.self.invariant))
    (omega (arith, warm_was, warm_is, warm_part _ _ _ _ (c.args.item.key + 3) c.self.invariant))
    (omega (arith, cold_was, cold_is, cold_part _ _ _ _ (c.args.item.key + 3) c.self.invariant))

pub invariant_of-self : goal.invariant_of-self
invariant_of-self c = rw (c.set_node.ensures, c.node_of-before.ensures) (closed c).sound

pub returns : goal.returns
returns c = rw (c.set_node.ensures, c.node_of-before.ensures) (closed c).view
