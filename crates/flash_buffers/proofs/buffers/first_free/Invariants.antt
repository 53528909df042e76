use Rattle.std.proofs.Common.{◌≡◌, drop, is_none}
use Rattle.std.specs.List.{position_from}
use Rattle.flash_buffers.specs.Block.{blocks_in}
use Rattle.flash_buffers.proofs.buffers.first_free.Given as goal

-- the first free buffer is among those that are left
abbrev pub invariant-rows : goal.invariant-rows
invariant-rows l = record {
  counted : l.number ≡ l.row-index;
  left : position_from (λ block. is_none block) 0 (blocks_in l.rows) ≡ position_from (λ block. is_none block) l.number (blocks_in (drop l.row-index l.rows));
}
