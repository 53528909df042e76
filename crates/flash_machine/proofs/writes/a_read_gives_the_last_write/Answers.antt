use Rattle.std.proofs.Common.{◌∷◌, ◌++◌, Some}
use Rattle.flash_entry.specs.declared.entry.Entry.TheVariants as entries
use Rattle.flash_machine.specs.Orderly.{IsOrderly}
use Rattle.flash_machine.proofs.Onward.{EachFrom-split}
use Rattle.flash_machine.proofs.DeviceReadRuns.{read_gives_written}
use Rattle.flash_machine.proofs.WriteRuns.{written_since}
use Rattle.flash_machine.proofs.writes.a_read_gives_the_last_write.Goals as goal

pub returns : goal.returns
returns c = λ g h between since after id place reader bytes read orderly honest none later.
    let before = h ++ entries.WriteEnded place (Some bytes) ∷ between in
    let began = before ++ entries.ReadBegan id place reader ∷ since in
    let upto = (EachFrom-split (IsOrderly g) began (entries.ReadEnded id (Some read) ∷ after) orderly).0 in
    let front = (EachFrom-split (IsOrderly g) before (entries.ReadBegan id place reader ∷ since) upto).0 in
    read_gives_written g before since after id place reader bytes read orderly honest (written_since g h between place bytes front none) later
