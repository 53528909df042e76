use Rattle.std.proofs.Common.{◌≡◌, ◌<◌, Bool, false, drop, length, set, is_none, ap, arith, ◌∙◌, vec_capacity}
use Rattle.flash_buffers.specs.Block.{Slot, blocks_in}
use Rattle.flash_buffers.specs.BufferTable.{BufferTable}
use Rattle.flash_buffers.specs.Calls.{with_first_free}
use Rattle.flash_buffers.proofs.SoundLemmas.{sound_written, written_table, without_first, first_inside}
use Rattle.flash_buffers.proofs.buffers.Buffers.written.Goals as goal

pub invariant_of-self : goal.invariant_of-self
invariant_of-self c =
    let size = c.self.inside.size in
    let slots = c.self.inside.rows.items in
    let queue = c.self.inside.queue.items in
    let n = c.remove-number.result in
    let row : Slot = c.index_mut-row.result.now in
    let new : Slot = c.clear.new.self in
    let some : 0 < length queue = omega arith in
    let inside : n < length slots = first_inside slots queue n c.self.invariant.0.taken some c.remove-number.ensures.value in
    let long : new.size ≡ size = ap (λ (s : Slot). s.size) c.clear.ensures ∙ ap (λ (s : Slot). s.size) c.index_mut-row.ensures.value ∙ c.self.invariant.0.sizes n row inside in
    let sound = sound_written size slots queue (vec_capacity c.self.inside.queue) n new c.self.invariant.0 some c.remove-number.ensures.value long in
    let rest : c.remove-number.new.self.items ≡ drop 1 queue = c.remove-number.ensures.items ∙ without_first queue in
    (rw (rest, c.remove-number.ensures.capacity) sound, c.self.invariant.1)

pub returns : goal.returns
returns c =
    let size = c.self.inside.size in
    let slots = c.self.inside.rows.items in
    let queue = c.self.inside.queue.items in
    let n = c.remove-number.result in
    let new : Slot = c.clear.new.self in
    let was : Bool = c.args.self.now.in_flight in
    let some : 0 < length queue = omega arith in
    let rest : c.remove-number.new.self.items ≡ drop 1 queue = c.remove-number.ensures.items ∙ without_first queue in
    let home : is_none c.self.inside.job_buffer ≡ false = ap (λ (t : BufferTable). t.in_flight) (c.self.view_is ∙ c.take_back.ensures) in
    let table : BufferTable = record { size = size; blocks = blocks_in slots; queue = queue; in_flight = was } in
    let same : table ≡ c.args.self.now = ap (λ (t : BufferTable). record t { in_flight = was }) (c.self.view_is ∙ c.take_back.ensures) in
    let last : record { size = size; blocks = blocks_in (set slots n new); queue = drop 1 queue; in_flight = false } ≡ with_first_free c.args.self.now c.args.self.now.queue =
    written_table size slots queue was n new some c.remove-number.ensures.value (ap (λ (s : Slot). s.block) c.clear.ensures) ∙ ap (λ (t : BufferTable). with_first_free t t.queue) same in
    rw (rest, home) last
