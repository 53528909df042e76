use Rattle.std.proofs.Common.{[], ◌∷◌}
use Rattle.flash_machine.specs.Orderly.{IsOrderly}
use Rattle.flash_machine.proofs.Onward.{EachFrom-split}
use Rattle.flash_machine.proofs.FreePages.{count_one, all_free}
use Rattle.flash_machine.proofs.labels.free_pages_are_counted.Goals as goal

pub returns : goal.returns
returns c = record {
  first = λ g. all_free g.pages;
  step = λ g h e orderly. let parts = EachFrom-split (IsOrderly g) h (e ∷ []) orderly in count_one g h e parts.0 parts.1.0;
}
