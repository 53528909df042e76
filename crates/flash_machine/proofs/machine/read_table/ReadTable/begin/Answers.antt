use Rattle.std.proofs.Common.{None, Some, ◌∙◌, ap, sym, if◌then◌else◌, Option}
use Rattle.flash_entry.specs.declared.entry.Entry.TheVariants as entries
use Rattle.flash_machine.specs.Lookups.{same_id}
use Rattle.flash_machine.specs.DeviceReads.{DeviceRead, read_step}
use Rattle.flash_machine.proofs.EntrySteps.{read_off-one}
use Rattle.flash_machine.proofs.machine.read_table.ReadTable.begin.Goals as goal

pub returns-clause-begun : goal.returns-clause-begun
returns-clause-begun c = λ h reader was id.
    let e = entries.ReadBegan c.args.id c.args.place reader in
    let read : DeviceRead = record { place = c.args.place; outcome = None } in
    read_off-one (read_step id) None h e
    ∙ ap (λ (r : Option DeviceRead). if same_id c.args.id id then Some read else r) (was id)
    ∙ sym (c.in_ok-insert.ensures.updates.0 (id.pass, id.seq))
