use Rattle.std.proofs.Common.{◌≡◌, ◌<◌, List, Some, None, is_none, IsSome, length, get_or, set, sym, ap, subst, refl, arith, ◌∙◌, vec_capacity}
use Rattle.std.specs.List.{position_from}
use Rattle.flash_buffers.specs.Block.{Slot, blocks_in}
use Rattle.flash_buffers.specs.BufferTable.{BufferTable, first_free}
use Rattle.flash_buffers.specs.Sound.{free_slot}
use Rattle.flash_buffers.proofs.LawLemmas.{free_at}
use Rattle.flash_buffers.proofs.SoundLemmas.{sound_set, taken_table, taken_open, block_at}
use Rattle.flash_buffers.proofs.buffers.Buffers.take.Goals as goal

pub invariant_of-self : goal.invariant_of-self
invariant_of-self c =
    let size = c.self.inside.size in
    let slots = c.self.inside.rows.items in
    let n = c.in_ok-number.number in
    let row : Slot = c.index_mut-row.result.now in
    let new : Slot = c.take.new.self in
    let inside : n < length slots = omega (arith, c.in_ok-number.ensures.inside) in
    let long : new.size ≡ size = ap (λ (s : Slot). s.size) c.take.ensures ∙ ap (λ (s : Slot). s.size) c.index_mut-row.ensures.value ∙ c.self.invariant.0.sizes n row inside in
    let some : IsSome new.block = subst (λ (s : Slot). IsSome s.block) (sym c.take.ensures) refl in
    (sound_set size slots c.self.inside.queue.items (vec_capacity c.self.inside.queue) n new c.self.invariant.0 long some, c.self.invariant.1)

pub returns-clause-after : goal.returns-clause-after
returns-clause-after c =
    let slots = c.self.inside.rows.items in
    let n = c.in_ok-number.number in
    let new : Slot = c.take.new.self in
    let first : first_free c.args.self.now ≡ Some n =
    ap (λ (t : BufferTable). first_free t) (sym c.self.view_is) ∙ ap (λ (l : List Slot). position_from (λ block. is_none block) 0 (blocks_in l)) (sym c.deref.ensures.value) ∙ sym c.in_ok-number.ensures.first in
    ap (λ (t : BufferTable). record t { blocks = blocks_in (set slots n new) }) c.self.view_is
    ∙ taken_table c.args.self.now slots n c.args.label c.args.offset new (ap (λ (t : BufferTable). t.blocks) c.self.view_is) first (ap (λ (s : Slot). s.block) c.take.ensures)

pub returns-clause-unsealed : goal.returns-clause-unsealed
returns-clause-unsealed c =
    let slots = c.self.inside.rows.items in
    let n = c.in_ok-number.number in
    let new : Slot = c.take.new.self in
    let inside : n < length slots = omega (arith, c.in_ok-number.ensures.inside) in
    let free : (get_or slots n free_slot).block ≡ None = sym (block_at slots n) ∙ free_at (blocks_in slots) n (ap (λ (l : List Slot). position_from (λ block. is_none block) 0 (blocks_in l)) (sym c.deref.ensures.value) ∙ sym c.in_ok-number.ensures.first) in
    let some : IsSome new.block = subst (λ (s : Slot). IsSome s.block) (sym c.take.ensures) refl in
    taken_open c.self.inside.size slots c.self.inside.queue.items (vec_capacity c.self.inside.queue) n new _ c.self.invariant.0 inside free some
