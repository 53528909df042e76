use Rattle.std.proofs.Common.{refl}
use Rattle.flash_entry.specs.declared.entry.Entry.TheVariants as entries
use Rattle.flash_machine.proofs.Passing.{block_of, cache_on, pages_on, steps_on, reads_on, lookups_on}
use Rattle.flash_machine.proofs.machine.Machine.note_write_begin.Goals as goal

pub returns : goal.returns
returns c = λ g h stands meets.
    let e = entries.WriteBegan c.args.place in
    record {
      geometry = stands.geometry;
      cache = cache_on g c.args.self.now.cache h e stands.cache;
      pages = pages_on g c.args.self.now.pages h e tt stands.pages;
      steps = steps_on g c.args.self.now.steps h e refl stands.steps;
      lookups = lookups_on g c.args.self.now.lookups h e tt stands.lookups;
      reads = reads_on g c.args.self.now.reads h e tt stands.reads;
      writes = c.begin.ensures g h stands.writes (block_of g h c.args.place meets.0);
    }
