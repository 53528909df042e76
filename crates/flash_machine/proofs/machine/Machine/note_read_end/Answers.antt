use Rattle.std.proofs.Common.{List, [], ◌∷◌, ◌++◌, Option, ℕ, refl, subst}
use Rattle.flash_entry.specs.declared.entry.Entry.TheVariants as entries
use Rattle.flash_machine.specs.Followed.{FollowsReads}
use Rattle.flash_machine.proofs.Passing.{cache_on, pages_on, steps_on, writes_on, lookups_on}
use Rattle.flash_machine.proofs.machine.Machine.note_read_end.Goals as goal

pub returns-clause-noted : goal.returns-clause-noted
returns-clause-noted c = λ g h stands meets.
    let e = entries.ReadEnded c.args.id c.args.outcome.now in
    record {
      geometry = stands.geometry;
      cache = cache_on g c.args.self.now.cache h e stands.cache;
      pages = pages_on g c.args.self.now.pages h e tt stands.pages;
      steps = steps_on g c.args.self.now.steps h e refl stands.steps;
      lookups = lookups_on g c.args.self.now.lookups h e tt stands.lookups;
      reads = subst (λ (o : Option (List ℕ)). FollowsReads c.end.new.self (h ++ entries.ReadEnded c.args.id o ∷ [])) c.in_ok-copy.ensures (c.end.ensures h stands.reads);
      writes = writes_on g c.args.self.now.writes h e tt stands.writes;
    }
