use Rattle.std.proofs.Common.{◌≡◌, ℕ, ◌<◌, ◌≤◌, ◌/◌, true, refl, sym, ◌∙◌, ap, subst, arith}
use Rattle.flash_machine.specs.Writes.{are_written}
use Rattle.flash_machine.proofs.Blocks.{missing}
use Rattle.flash_machine.proofs.machine.write_table.WriteTable.is_written.Goals as goal

pub scan-init : goal.scan-init
scan-init c = λ g h was. refl

pub returns-then-not-is_block_written : goal.returns-then-not-is_block_written
returns-then-not-is_block_written c = λ g h was size.
    let label = c.args.label in
    let index = c.scan.index in
    let blocks : g.page_size / g.buffer_size ≡ c.blocks-index-end.result =
    ap (λ (n : ℕ). n / g.buffer_size) size ∙ ap (λ (n : ℕ). c.args.page_size / n) was.block ∙ sym (c.blocks-index-end.ensures was.some) in
    let below : index < c.blocks-index-end.result = c.scan-test.true in
    let gone = sym (c.is_block_written.ensures g h was) ∙ c.if-not-is_block_written.true in
    sym (missing g.buffer_size (g.page_size / g.buffer_size) index label h (omega (arith, blocks, below)) gone)

pub scan-preserved : goal.scan-preserved
scan-preserved c = λ g h was.
    let one = sym (c.is_block_written.ensures g h was) ∙ c.if-not-is_block_written.false in
    let front = c.scan.invariant g h was in grind (arith, one, front)

pub returns : goal.returns
returns c = λ g h was size.
    let blocks : g.page_size / g.buffer_size ≡ c.blocks-index-end.result =
    ap (λ (n : ℕ). n / g.buffer_size) size ∙ ap (λ (n : ℕ). c.args.page_size / n) was.block ∙ sym (c.blocks-index-end.ensures was.some) in
    let all : c.blocks-index-end.result ≤ c.scan.index = c.scan-test.false in
    let within : c.scan.index ≤ c.blocks-index-end.result = c.scan.auto.index-end in
    let same : c.scan.index ≡ g.page_size / g.buffer_size = omega (arith, blocks, all, within) in
    sym (subst (λ (n : ℕ). are_written g.buffer_size n c.args.label h ≡ true) same (c.scan.invariant g h was))
