use Rattle.std.proofs.Common.{◌≡◌, replicate, None}
use Rattle.flash_buffers.specs.Block.{Slot}
use Rattle.flash_buffers.proofs.buffers.Buffers.open.Given as goal

-- so many free buffers are there
abbrev pub invariant-rows : goal.invariant-rows
invariant-rows l = let slot : Slot = record { size = l.size; block = None } in l.rows.items ≡ replicate l.counter slot
