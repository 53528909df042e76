use Rattle.std.proofs.Common.{ℕ, List, ◌∙◌, ap, sym, subst}
use Rattle.flash_names.specs.Clock.{Reads, reading_at}
use Rattle.flash_names.specs.ListClock.{readings_told}
use Rattle.flash_names.proofs.Readings.{reads_next}
use Rattle.flash_names.proofs.clock.ListClockClock.now.Goals as goal

pub returns-clause-reads : goal.returns-clause-reads
returns-clause-reads c =
    let numbers = c.args.self.now.numbers.items in
    let calls = c.args.self.now.calls in
    let counted = subst (λ (next : ℕ). Reads (readings_told numbers calls) (reading_at numbers calls) (readings_told numbers next)) (sym c.saturating_add-self.ensures) (reads_next numbers calls) in
    subst (λ (reading : ℕ). Reads (readings_told numbers calls) reading (readings_told numbers c.saturating_add-self.result)) (sym (c.reading_of-reading.ensures ∙ ap (λ (l : List ℕ). reading_at l calls) c.deref.ensures.value)) counted
