use Rattle.std.proofs.Common.{arith}
use Rattle.std.proofs.lemmas.Grind.{common_steps}
use Rattle.flash_entry.specs.Noted.{entries_of_notes}
use Rattle.flash_counters.proofs.GoOn.{counted-more}
use Rattle.flash_counters.proofs.counting.CountingJournal.note.Goals as goal

pub invariant_of-self-2 : goal.invariant_of-self-2
invariant_of-self-2 g c =
    let before = c.args.self.now in
    let es = entries_of_notes c.args.first c.args.second c.args.third c.args.fourth in
    record {
      counted =
          counted-more before.counters es _ _ _ before.counted c.in_ok-note.ensures.noted (grind (arith, common_steps));
    }
