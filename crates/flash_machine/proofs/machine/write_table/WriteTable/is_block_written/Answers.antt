use Rattle.std.proofs.Common.{ℕ, ◌*◌, sym, ◌∙◌, ap}
use Rattle.flash_machine.specs.Writes.{has_good_write}
use Rattle.flash_machine.proofs.machine.write_table.WriteTable.is_block_written.Goals as goal

pub returns : goal.returns
returns c = λ g h was.
    let label = c.args.label in
    c.contains.ensures ∙ sym (was.written label c.offset_of.result) ∙ ap (λ (n : ℕ). has_good_write label n h) c.offset_of.ensures.is
    ∙ ap (λ (n : ℕ). has_good_write label (c.args.index * n) h) (sym was.block)
