use Rattle.std.proofs.Common.{◌≡◌, drop}
use Rattle.flash_crc.specs.Crc32c.{remainder}
use Rattle.flash_crc.proofs.crc.after_each.Given as goal

-- the bytes that are left complete the remainder
abbrev pub invariant-bytes : goal.invariant-bytes
invariant-bytes l = remainder l.remainder (drop l.byte-index l.bytes) ≡ remainder l.fn.start l.bytes
