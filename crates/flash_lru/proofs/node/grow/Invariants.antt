use Rattle.std.proofs.Common.{◌≡◌, ℕ, ◌+◌, ◌-◌, ◌^◌, ◌≤◌, length}
use Rattle.flash_lru.specs.Ring.{node_at}
use Rattle.flash_lru.proofs.node.grow.Given as goal

-- the blank nodes that were pushed are as no nodes
abbrev pub invariant-nodes : goal.invariant-nodes
invariant-nodes l = record {
  grows : length l.fn.nodes.items ≤ length l.nodes.items;
  short : length l.nodes.items ≤ 2 ^ 32;
  same : (number : ℕ) → node_at l.nodes.items number ≡ node_at l.fn.nodes.items number;
}

abbrev pub decreases-nodes : goal.decreases-nodes
decreases-nodes l = l.item.key + 4 - length l.nodes.items
