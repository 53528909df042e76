use Rattle.std.proofs.Common.{◌≡◌, drop}
use Rattle.flash_buffers.specs.Block.{blocks_in}
use Rattle.flash_buffers.specs.Covering.{read_in}
use Rattle.flash_buffers.proofs.buffers.first_covering.Given as goal

-- the first buffer that covers the place is among those that are left
abbrev pub invariant-rows : goal.invariant-rows
invariant-rows l = read_in l.size l.place (blocks_in l.rows) ≡ read_in l.size l.place (blocks_in (drop l.number l.rows))
