use Rattle.std.proofs.Common.{◌≡◌, ◌≤◌, ◌-◌, length, drop}
use Rattle.std.specs.List.{list_all}
use Rattle.flash_lanes.specs.KeyBytes.{is_key_byte}
use Rattle.flash_lanes.proofs.key_bytes.all_key_bytes.Given as goal

-- the bytes that are left decide
abbrev pub invariant-whole : goal.invariant-whole
invariant-whole l = (l.at ≤ length l.bytes) × (list_all is_key_byte (drop l.at l.bytes) ≡ list_all is_key_byte l.bytes)

abbrev pub decreases-whole : goal.decreases-whole
decreases-whole l = length l.bytes - l.at
