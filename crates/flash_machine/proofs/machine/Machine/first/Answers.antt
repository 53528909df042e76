use Rattle.std.proofs.Common.{refl}
use Rattle.flash_machine.proofs.Deciding.{has_buffers}
use Rattle.flash_machine.proofs.machine.Machine.first.Goals as goal

pub returns : goal.returns
returns c = record {
  geometry = refl;
  cache = c.new.ensures;
  pages = c.new-2.ensures c.args.geometry refl;
  steps = c.new-3.ensures;
  lookups = c.new-4.ensures c.args.geometry;
  reads = c.new-5.ensures;
  writes = c.new-6.ensures c.args.geometry refl (has_buffers c.args.geometry c.requires);
}
