use Rattle.std.proofs.Common.{◌+◌, ◌*◌, ◌∙◌, ap, arith}
use Rattle.flash_lru.specs.declared.node.Home.{Home}
use Rattle.flash_lru.specs.Card.{idle}
use Rattle.flash_lru.specs.Moves.{put_front}
use Rattle.flash_lru.specs.Ring.{in_hot, in_warm, in_cold, linked, end_of, home_in}
use Rattle.flash_lru.proofs.Sound.{Closed, room}
use Rattle.flash_lru.proofs.Calls.{room_node, end_node, adds, hot_small, warm_small, cold_small}
use Rattle.flash_lru.proofs.segments.Segments.put_new.Goals as goal

pub overflow_add-self : goal.overflow_add-self
overflow_add-self c = omega (arith, c.hot_bytes.ensures, hot_small c.home.result c.args.size c.ranges.size.fits, room _ _ _ _ c.self.invariant)

pub overflow_add-self-2 : goal.overflow_add-self-2
overflow_add-self-2 c = omega (arith, c.warm_bytes.ensures, warm_small c.home.result c.args.size c.ranges.size.fits, room _ _ _ _ c.self.invariant)

pub overflow_add-self-3 : goal.overflow_add-self-3
overflow_add-self-3 c = omega (arith, c.cold_bytes.ensures, cold_small c.home.result c.args.size c.ranges.size.fits, room _ _ _ _ c.self.invariant)

pub link-requires-clause-node : goal.link-requires-clause-node
link-requires-clause-node c = room_node _ _ _ _ c.self.inside.memory c.args.item _ c.self.invariant c.self.view_is c.requires.room

pub link-requires-clause-end : goal.link-requires-clause-end
link-requires-clause-end c = end_node _ _ _ _ c.self.inside.memory c.args.item _ c.self.invariant c.self.view_is c.requires.room c.args.segment

closed : (c : goal.After-link) → Closed (linked (c.args.item.key + 3) (end_of c.args.segment) c.args.size (home_in c.args.segment) c.self.inside.nodes.items) (c.self.inside.hot_bytes + c.hot_bytes.result) (c.self.inside.warm_bytes + c.warm_bytes.result) (c.self.inside.cold_bytes + c.cold_bytes.result) c.self.inside.memory (put_front c.args.segment (idle c.args.item c.args.size) c.args.self.now)
closed c =
    adds _ _ _ _ c.self.inside.memory c.args.item _ c.self.invariant c.self.view_is c.args.segment c.args.size c.requires.room c.requires.absent c.ranges.size.fits _ _ _
    (ap (λ k. c.self.inside.hot_bytes + k) (c.hot_bytes.ensures ∙ ap (λ (h : Home). in_hot h * c.args.size) c.home.ensures))
    (ap (λ k. c.self.inside.warm_bytes + k) (c.warm_bytes.ensures ∙ ap (λ (h : Home). in_warm h * c.args.size) c.home.ensures))
    (ap (λ k. c.self.inside.cold_bytes + k) (c.cold_bytes.ensures ∙ ap (λ (h : Home). in_cold h * c.args.size) c.home.ensures))

pub invariant_of-self : goal.invariant_of-self
invariant_of-self c = rw c.link.ensures (closed c).sound

pub returns : goal.returns
returns c = rw c.link.ensures (closed c).view
