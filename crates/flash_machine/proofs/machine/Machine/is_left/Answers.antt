use Rattle.std.proofs.Common.{◌∙◌, ap, ℕ}
use Rattle.std.specs.Prelude.{nat_eq}
use Rattle.std.specs.FinMap as map
use Rattle.flash_machine.specs.Steps.{cache_of}
use Rattle.flash_machine.proofs.Labelled.{none_counted}
use Rattle.flash_machine.proofs.machine.Machine.is_left.Goals as goal

pub returns : goal.returns
returns c = λ g h stands.
    ap (λ (n : ℕ). nat_eq n 0) (c.labelled.ensures (cache_of g h).items stands.cache.items) ∙ none_counted c.args.label (map.entries (cache_of g h).items)
