use Rattle.std.proofs.Common.{refl}
use Rattle.flash_entry.specs.declared.entry.Entry.TheVariants as entries
use Rattle.flash_machine.specs.Steps.{cache_of}
use Rattle.flash_machine.proofs.Passing.{cache_on, pages_on, steps_on, reads_on, writes_on, lookups_on}
use Rattle.flash_machine.proofs.machine.Machine.note_drop.Goals as goal

pub returns : goal.returns
returns c = λ cause g h stands meets.
    let e = entries.Dropped c.args.key.now cause in
    record {
      geometry = stands.geometry;
      cache = cache_on g c.remove.new.self h e (c.remove.ensures (cache_of g h) stands.cache);
      pages = pages_on g c.args.self.now.pages h e tt stands.pages;
      steps = steps_on g c.args.self.now.steps h e refl stands.steps;
      lookups = lookups_on g c.args.self.now.lookups h e tt stands.lookups;
      reads = reads_on g c.args.self.now.reads h e tt stands.reads;
      writes = writes_on g c.args.self.now.writes h e tt stands.writes;
    }
