use Rattle.std.proofs.Common.{sym, ◌∙◌, arith}
use Rattle.flash_lanes.specs.KeyBytes.{is_key_byte}
use Rattle.flash_lanes.proofs.Blocks.{goes_on}
use Rattle.flash_lanes.proofs.key_bytes.all_key_bytes.Goals as goal

pub whole-preserved : goal.whole-preserved
whole-preserved c =
    (omega arith, goes_on is_key_byte c.args.bytes.now c.whole.at (sym c.block_of_key_bytes.ensures ∙ c.if-not-block_of_key_bytes.false) ∙ c.whole.invariant.1)
