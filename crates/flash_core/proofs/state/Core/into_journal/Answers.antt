use Rattle.std.proofs.Common.{subst}
use Rattle.flash_calls.specs.Store.{Store}
use Rattle.flash_core.specs.Desks.{desk_of}
use Rattle.flash_core.specs.Numbers.{cache_of_items}
use Rattle.flash_core.specs.Sound.{IsToldRun}
use Rattle.flash_core.proofs.GoingOn.{told_run}
use Rattle.flash_core.proofs.state.Core.into_journal.Goals as goal

pub returns-clause-run : goal.returns-clause-run
returns-clause-run g c =
    let f = c.self.inside in
    subst (λ (s : Store). IsToldRun s.geometry s.cache s.told) c.self.view_is
    (told_run f.geometry (cache_of_items f.index.items f.numbers) (desk_of f.index f.blocks) (g.J.Journal.told f.journal) c.self.invariant.runs)
