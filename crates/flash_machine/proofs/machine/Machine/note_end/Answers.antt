use Rattle.std.proofs.Common.{refl}
use Rattle.std.proofs.lemmas.Result.{IfOk-weaker}
use Rattle.flash_entry.specs.declared.entry.Entry.TheVariants as entries
use Rattle.flash_machine.proofs.Passing.{cache_on, steps_on, reads_on, writes_on, lookups_on}
use Rattle.flash_machine.proofs.machine.Machine.note_end.Goals as goal

pub returns-clause-noted : goal.returns-clause-noted
returns-clause-noted c = IfOk-weaker c.end.result _ _ (λ _ made cause g h stands meets.
    let e = entries.Ended c.args.label cause in
    record {
      geometry = stands.geometry;
      cache = cache_on g c.args.self.now.cache h e stands.cache;
      pages = made g h cause stands.pages;
      steps = steps_on g c.args.self.now.steps h e refl stands.steps;
      lookups = lookups_on g c.args.self.now.lookups h e tt stands.lookups;
      reads = reads_on g c.args.self.now.reads h e tt stands.reads;
      writes = writes_on g c.args.self.now.writes h e tt stands.writes;
    }) c.end.ensures.ended
