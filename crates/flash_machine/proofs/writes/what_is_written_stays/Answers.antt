use Rattle.std.proofs.Common.{[], ◌∷◌, Some}
use Rattle.flash_entry.specs.declared.entry.Entry.TheVariants as entries
use Rattle.flash_machine.specs.Orderly.{IsOrderly}
use Rattle.flash_machine.proofs.Onward.{EachFrom-split}
use Rattle.flash_machine.proofs.WriteRuns.{is_unknown, written_on, good_write}
use Rattle.flash_machine.proofs.writes.what_is_written_stays.Goals as goal

pub returns : goal.returns
returns c = record {
  known = λ g h place bytes orderly. good_write g h place bytes (EachFrom-split (IsOrderly g) h (entries.WriteEnded place (Some bytes) ∷ []) orderly).1.0;
  stays = λ g h es place bytes orderly is none. written_on g h es place bytes (EachFrom-split (IsOrderly g) h es orderly).1 is none;
  unknown = λ h place page offset is has. is_unknown page offset h place is has;
}
