use Rattle.std.proofs.Common.{◌≡◌, ℕ, List, None, replicate, length, ap, ◌∙◌, refl, arith, vec_capacity}
use Rattle.flash_buffers.specs.Block.{Slot, blocks_in}
use Rattle.flash_buffers.proofs.SoundLemmas.{sound_first, first_blocks}
use Rattle.flash_buffers.proofs.buffers.Buffers.open.Goals as goal

pub invariant_of-result : goal.invariant_of-result
invariant_of-result c =
    let slots = c.rows.rows.items in
    let queue = c.in_ok-with_capacity.field-0.items in
    let free : Slot = record { size = c.args.size; block = None } in
    let all : c.rows.counter ≡ c.args.buffers = omega arith in
    let slots_are : slots ≡ replicate c.args.buffers free = c.rows.invariant ∙ ap (λ (n : ℕ). replicate n free) all in (
      sound_first c.args.size c.args.buffers slots queue (vec_capacity c.in_ok-with_capacity.field-0) slots_are c.in_ok-with_capacity.ensures.items c.ranges.buffers.fits (omega (arith, c.in_ok-with_capacity.ensures.exact)),
      λ x is. (let same : x ≡ c.from.result = cc in ap (λ (l : List ℕ). length l) (same ∙ c.from.ensures) ∙ omega (arith, c.in_ok-vec.ensures.len)),
    )

pub returns : goal.returns
returns c =
    let slots = c.rows.rows.items in
    let free : Slot = record { size = c.args.size; block = None } in
    let all : c.rows.counter ≡ c.args.buffers = omega arith in
    let slots_are : slots ≡ replicate c.args.buffers free = c.rows.invariant ∙ ap (λ (n : ℕ). replicate n free) all in
    let blocks : blocks_in slots ≡ replicate c.args.buffers None = ap (λ (l : List Slot). blocks_in l) slots_are ∙ first_blocks c.args.size c.args.buffers in
    rw (blocks, c.in_ok-with_capacity.ensures.items) refl
