use Rattle.std.proofs.Common.{◌≡◌, ◌<◌, ℕ, List, false, nat_eq, length, sym, ap, subst, arith, vec_capacity}
use Rattle.std.specs.List.{list_any}
use Rattle.flash_buffers.specs.BufferTable.{BufferTable}
use Rattle.flash_buffers.specs.Sound.{IsSound, IsTaken}
use Rattle.flash_buffers.proofs.SoundLemmas.{number_taken, shorter, sound_push}
use Rattle.flash_buffers.proofs.buffers.Buffers.seal.Goals as goal

pub put_last-requires : goal.put_last-requires
put_last-requires c =
    let slots = c.self.inside.rows.items in
    let queue = c.self.inside.queue.items in
    let n = c.args.id.number in
    let is : IsTaken slots n = number_taken c.args.self.now slots n (ap (λ (t : BufferTable). t.blocks) c.self.view_is) c.requires.inside c.requires.taken in
    let none : list_any (λ m. nat_eq m n) queue ≡ false = subst (λ (t : BufferTable). list_any (λ m. nat_eq m n) t.queue ≡ false) (sym c.self.view_is) c.requires.unsealed in
    let short : length queue < vec_capacity c.self.inside.queue = shorter c.self.inside.size slots queue (vec_capacity c.self.inside.queue) n c.self.invariant.0 is none in
    omega (arith, short)

pub invariant_of-self : goal.invariant_of-self
invariant_of-self c =
    let size = c.self.inside.size in
    let slots = c.self.inside.rows.items in
    let queue = c.self.inside.queue.items in
    let n = c.args.id.number in
    let is : IsTaken slots n = number_taken c.args.self.now slots n (ap (λ (t : BufferTable). t.blocks) c.self.view_is) c.requires.inside c.requires.taken in
    let none : list_any (λ m. nat_eq m n) queue ≡ false = subst (λ (t : BufferTable). list_any (λ m. nat_eq m n) t.queue ≡ false) (sym c.self.view_is) c.requires.unsealed in
    let more = vec_capacity c.put_last.new.queue in
    (subst (λ (l : List ℕ). IsSound size slots l more) (sym c.put_last.ensures.last) (sound_push size slots queue (vec_capacity c.self.inside.queue) more n c.self.invariant.0 is none c.put_last.ensures.room), c.self.invariant.1)
