use Rattle.std.proofs.Common.{refl}
use Rattle.std.proofs.lemmas.Result.{IfOk-weaker, IfErr-weaker}
use Rattle.flash_entry.specs.declared.entry.Entry.TheVariants as entries
use Rattle.flash_machine.proofs.RuleMeanings.{may_end_write}
use Rattle.flash_machine.proofs.Passing.{cache_on, pages_on, steps_on, reads_on, lookups_on}
use Rattle.flash_machine.proofs.machine.Machine.note_write_end.Goals as goal

pub returns-clause-noted : goal.returns-clause-noted
returns-clause-noted c = IfOk-weaker c.end.result _ _ (λ _ made g h stands meets.
    let e = entries.WriteEnded c.args.place c.args.outcome.now in
    record {
      geometry = stands.geometry;
      cache = cache_on g c.args.self.now.cache h e stands.cache;
      pages = pages_on g c.args.self.now.pages h e tt stands.pages;
      steps = steps_on g c.args.self.now.steps h e refl stands.steps;
      lookups = lookups_on g c.args.self.now.lookups h e tt stands.lookups;
      reads = reads_on g c.args.self.now.reads h e tt stands.reads;
      writes = made g h stands.writes (may_end_write h c.args.place c.args.outcome.now meets.0).write;
    }) c.end.ensures.ended

pub returns-clause-refused : goal.returns-clause-refused
returns-clause-refused c = IfErr-weaker c.end.result _ _ (λ _ kept g h stands. record {
  geometry = stands.geometry;
  cache = stands.cache;
  pages = stands.pages;
  steps = stands.steps;
  lookups = stands.lookups;
  reads = stands.reads;
  writes = kept g h stands.writes;
}) c.end.ensures.refused
