use Rattle.std.proofs.Common.{◌≡◌, ℕ, List, filter, is_some, get_or, map, sym, ap, subst, ◌∙◌, arith, vec_capacity}
use Rattle.flash_buffers.specs.Block.{Slot}
use Rattle.flash_buffers.specs.BufferTable.{slot_without}
use Rattle.flash_buffers.specs.Sound.{IsSound, free_slot}
use Rattle.flash_buffers.proofs.BufferLemmas.{lent, lent_is}
use Rattle.flash_buffers.proofs.DropLemmas.{sound_dropped, dropped_table}
use Rattle.flash_buffers.proofs.buffers.Buffers.drop_of.Goals as goal

pub invariant_of-self : goal.invariant_of-self
invariant_of-self c =
    let size = c.self.inside.size in
    let slots = c.self.inside.rows.items in
    let queue = c.self.inside.queue.items in
    let new = c.clear_label.new.rows in
    let left : List Slot = lent c.self.inside.rows.len slots new in
    let kept = c.keep_taken.new.queue.items in
    let left_is : left ≡ map (slot_without c.args.label) slots = lent_is c.self.inside.rows.len slots new (omega arith) ∙ c.clear_label.ensures ∙ ap (λ (l : List Slot). map (slot_without c.args.label) l) c.deref_mut.ensures.value in
    let kept_is : kept ≡ filter (λ n. is_some (get_or left n free_slot).block) queue = c.keep_taken.ensures.kept ∙ ap (λ (l : List Slot). filter (λ n. is_some (get_or l n free_slot).block) queue) c.deref.ensures.value in
    let room = vec_capacity c.self.inside.queue in
    (subst (λ (r : ℕ). IsSound size left kept r) (sym c.keep_taken.ensures.room) (sound_dropped size c.args.label slots left queue kept room c.self.invariant.0 left_is kept_is), c.self.invariant.1)

pub returns : goal.returns
returns c =
    let size = c.self.inside.size in
    let slots = c.self.inside.rows.items in
    let queue = c.self.inside.queue.items in
    let new = c.clear_label.new.rows in
    let left : List Slot = lent c.self.inside.rows.len slots new in
    let kept = c.keep_taken.new.queue.items in
    let left_is : left ≡ map (slot_without c.args.label) slots = lent_is c.self.inside.rows.len slots new (omega arith) ∙ c.clear_label.ensures ∙ ap (λ (l : List Slot). map (slot_without c.args.label) l) c.deref_mut.ensures.value in
    let kept_is : kept ≡ filter (λ n. is_some (get_or left n free_slot).block) queue = c.keep_taken.ensures.kept ∙ ap (λ (l : List Slot). filter (λ n. is_some (get_or l n free_slot).block) queue) c.deref.ensures.value in
    rw (← c.self.view_is) (dropped_table size c.args.label slots left queue kept (vec_capacity c.self.inside.queue) _ c.self.invariant.0 left_is kept_is)
