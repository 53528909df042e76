use Rattle.std.proofs.Common.{arith}
use Rattle.flash_lanes.proofs.Blocks.{joined}
use Rattle.flash_lanes.proofs.same.same_in_lanes.Goals as goal

pub halves-preserved : goal.halves-preserved
halves-preserved c = (
  omega arith,
  λ rest. c.halves.invariant.1 (joined c.args.a.now c.args.b.now c.halves.at (c.same_block.ensures.0 c.if-not-same_block.false) rest),
)
