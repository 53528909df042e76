use Rattle.std.proofs.Common.{◌<◌, length, ap, refl}
use Rattle.flash_buffers.specs.BufferTable.{BufferTable}
use Rattle.flash_buffers.proofs.SoundLemmas.{appended_blocks, number_inside}
use Rattle.flash_buffers.proofs.buffers.Buffers.append.Goals as goal

pub returns-clause-after : goal.returns-clause-after
returns-clause-after c =
    let inside : c.args.id.number < length c.self.inside.rows.items = number_inside c.args.self.now c.self.inside.rows.items c.args.id.number (ap (λ (t : BufferTable). t.blocks) c.self.view_is) c.requires.inside in
    rw (← c.self.view_is) (rw (appended_blocks c.self.inside.size c.self.inside.rows.items c.args.id.number c.index_mut-row.result.now c.append.new.self c.args.key.now c.args.flags c.args.cas c.args.value.now c.self.invariant.0.sizes inside c.index_mut-row.ensures.value c.append.ensures.after) refl)
