use Rattle.flash_machine.specs.Orderly.{IsOrderly}
use Rattle.flash_machine.proofs.Onward.{EachFrom-split}
use Rattle.flash_machine.proofs.FreePages.{are_own}
use Rattle.flash_machine.proofs.LabelRuns.{label_stays, freed_between}
use Rattle.flash_machine.proofs.labels.a_page_has_one_label.Goals as goal

pub returns : goal.returns
returns c = record {
  freed_between = λ g before between after first second orderly same. freed_between g first before between after second orderly same;
  stays = λ g h es label orderly has none. label_stays g label h es (EachFrom-split (IsOrderly g) h es orderly).1 has none;
  own = λ g h page label orderly has. are_own g h orderly page label has;
}
