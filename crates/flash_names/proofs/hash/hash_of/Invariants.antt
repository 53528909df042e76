use Rattle.std.proofs.Common.{◌≡◌, drop}
use Rattle.flash_names.specs.KeyHash.{hash_of_none, hash_from}
use Rattle.flash_names.proofs.hash.hash_of.Given as goal

-- the bytes that are left complete the hash
abbrev pub invariant-bytes : goal.invariant-bytes
invariant-bytes l = hash_from l.hash (drop l.byte-index l.bytes) ≡ hash_from hash_of_none l.bytes
