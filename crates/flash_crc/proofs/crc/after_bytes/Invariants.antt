use Rattle.std.proofs.Common.{◌≡◌, drop}
use Rattle.std.specs.List.{fold}
use Rattle.flash_crc.specs.Crc32c.{remainder}
use Rattle.flash_crc.proofs.crc.after_bytes.Given as goal

-- the blocks that are left complete the remainder
abbrev pub invariant-whole : goal.invariant-whole
invariant-whole l = fold remainder l.remainder (drop l.block-index l.blocks) ≡ fold remainder l.fn.start l.blocks
