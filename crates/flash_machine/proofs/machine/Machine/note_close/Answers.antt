use Rattle.std.proofs.Common.{refl}
use Rattle.std.proofs.lemmas.Result.{IfOk-weaker}
use Rattle.flash_entry.specs.declared.entry.Entry.TheVariants as entries
use Rattle.flash_machine.proofs.Passing.{cache_on, pages_on, steps_on, reads_on, writes_on}
use Rattle.flash_machine.proofs.machine.Machine.note_close.Goals as goal

pub returns-clause-noted : goal.returns-clause-noted
returns-clause-noted c = IfOk-weaker c.close.result _ _ (λ _ made g h stands meets.
    let e = entries.Closed c.args.id c.args.close.now in
    record {
      geometry = stands.geometry;
      cache = cache_on g c.args.self.now.cache h e stands.cache;
      pages = pages_on g c.args.self.now.pages h e tt stands.pages;
      steps = steps_on g c.args.self.now.steps h e refl stands.steps;
      lookups = made g h stands.lookups;
      reads = reads_on g c.args.self.now.reads h e tt stands.reads;
      writes = writes_on g c.args.self.now.writes h e tt stands.writes;
    }) c.close.ensures.closed
