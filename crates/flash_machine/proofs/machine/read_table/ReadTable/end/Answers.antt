use Rattle.std.proofs.Common.{◌≡◌, Bool, true, false, None, Some, ◌∙◌, ap, sym, refl, cond, if◌then◌else◌, Option, List, ℕ, rules}
use Rattle.std.specs.Option.{option_map}
use Rattle.flash_entry.specs.declared.entry.Entry.TheVariants as entries
use Rattle.flash_machine.specs.Lookups.{same_id}
use Rattle.flash_machine.specs.DeviceReads.{DeviceRead, with_outcome, read_step, read_of}
use Rattle.flash_machine.proofs.Same.{equal_ids}
use Rattle.flash_machine.proofs.EntrySteps.{read_off-one}
use Rattle.flash_machine.proofs.machine.read_table.ReadTable.end.Goals as goal

ended_by : (b : Bool) (found : Option DeviceRead) (read : DeviceRead) (outcome : Option (List ℕ)) → (b ≡ true → found ≡ Some read)
    → (if b then option_map (with_outcome outcome) found else found) ≡ cond b (Some (with_outcome outcome read)) found
ended_by true found read outcome is = ap (option_map (with_outcome outcome)) (is refl)
ended_by false found read outcome is = refl

pub returns-in-Some : goal.returns-in-Some
returns-in-Some c = λ h was id.
    let own = c.args.id in
    let e = entries.ReadEnded own c.args.outcome in
    let read = c.in-Some.read.now in
    let there : read_of own h ≡ Some read = was own ∙ sym c.in-Some.ensures.value in
    read_off-one (read_step id) None h e
    ∙ ended_by (same_id own id) (read_of id h) read c.args.outcome (λ same. ap (λ i. read_of i h) (sym (equal_ids own id same)) ∙ there)
    ∙ ap (cond (same_id own id) (Some (with_outcome c.args.outcome read))) (was id)
    ∙ sym (((c.get_mut.follows.holds (with_outcome c.args.outcome read)).3 (search rules)).0 (id.pass, id.seq))
