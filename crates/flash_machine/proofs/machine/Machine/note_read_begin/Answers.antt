use Rattle.std.proofs.Common.{refl}
use Rattle.std.proofs.lemmas.Result.{IfOk-weaker}
use Rattle.flash_entry.specs.declared.entry.Entry.TheVariants as entries
use Rattle.flash_machine.proofs.Passing.{cache_on, pages_on, steps_on, writes_on, lookups_on}
use Rattle.flash_machine.proofs.machine.Machine.note_read_begin.Goals as goal

pub returns-clause-noted : goal.returns-clause-noted
returns-clause-noted c = IfOk-weaker c.begin.result _ _ (λ _ made reader g h stands meets.
    let e = entries.ReadBegan c.args.id c.args.place reader in
    record {
      geometry = stands.geometry;
      cache = cache_on g c.args.self.now.cache h e stands.cache;
      pages = pages_on g c.args.self.now.pages h e tt stands.pages;
      steps = steps_on g c.args.self.now.steps h e refl stands.steps;
      lookups = lookups_on g c.args.self.now.lookups h e tt stands.lookups;
      reads = made h reader stands.reads;
      writes = writes_on g c.args.self.now.writes h e tt stands.writes;
    }) c.begin.ensures.begun
