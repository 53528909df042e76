use Rattle.std.proofs.Common.{refl, sym, ◌∙◌, subst}
use Rattle.flash_entry.specs.declared.entry.Entry.TheVariants as entries
use Rattle.flash_machine.specs.Steps.{cache_of}
use Rattle.flash_machine.specs.Followed.{FollowsPages, FollowsSteps, FollowsLookups, FollowsReads, FollowsWrites}
use Rattle.flash_machine.proofs.Passing.{cache_on, pages_on, reads_on, writes_on, lookups_on}
use Rattle.flash_machine.proofs.machine.Machine.note_did.Goals as goal

pub returns-clause-noted : goal.returns-clause-noted
returns-clause-noted c = λ g h stands meets.
    let e = entries.Did c.args.id c.args.done.now in
    let kept = c.in_ok-do_step.ensures in
    record {
      geometry = kept.geometry ∙ stands.geometry;
      cache = cache_on g c.do_step.new.self.cache h e (kept.noted g h (cache_of g h) stands.geometry stands.pages stands.cache);
      pages = pages_on g c.do_step.new.self.pages h e tt (subst (λ t. FollowsPages t g h) (sym kept.pages) stands.pages);
      steps = c.note.ensures h e (subst (λ t. FollowsSteps t h) (sym kept.steps) (c.in_ok-reserve.ensures.same h stands.steps)) refl meets.0;
      lookups = lookups_on g c.do_step.new.self.lookups h e tt (subst (λ t. FollowsLookups t g h) (sym kept.lookups) stands.lookups);
      reads = reads_on g c.do_step.new.self.reads h e tt (subst (λ t. FollowsReads t h) (sym kept.reads) stands.reads);
      writes = writes_on g c.do_step.new.self.writes h e tt (subst (λ t. FollowsWrites t g h) (sym kept.writes) stands.writes);
    }
