use Rattle.std.proofs.Common.{◌≡◌, ℕ, refl, sym, ◌∙◌, ap, if◌then◌else◌, arith}
use Rattle.std.specs.FinMap as map
use Rattle.std.specs.BTreeMap as tree
use Rattle.std.proofs.lemmas.Grind.{common_steps}
use Rattle.flash_machine.specs.Item.{Item}
use Rattle.flash_machine.specs.PageLabels.{is_label}
use Rattle.flash_machine.specs.Followed.{one_if_labelled}
use Rattle.flash_machine.proofs.Same.{label_itself}
use Rattle.flash_machine.proofs.Totals.{order, total_insert}
use Rattle.flash_machine.proofs.Counted.{counted_label}
use Rattle.flash_machine.proofs.Tabled.{counted_within, load_count, label_counts, on_err, without_err, put_entries}
use Rattle.flash_machine.proofs.machine.item_table.ItemTable.put.Goals as goal

pub returns-in_err-raise-clause-refused : goal.returns-in_err-raise-clause-refused
returns-in_err-raise-clause-refused c = on_err c.from_residual-in_err-raise.result (λ items was.
    record {
      entries = was.entries;
      load = was.load;
      labelled = λ label. was.labelled label ∙ sym (c.in_err-raise.ensures.refused label);
    })

pub returns-clause-put : goal.returns-clause-put
returns-clause-put c = λ items was.
    let key = c.args.key.now in
    let item = c.args.item in
    let old = c.label_of-old_label.result in
    let is_old = c.label_of-old_label.ensures items was in
    let load_put = total_insert load_count items key item in
    let within = counted_within load_count items key in
    let own_load = c.load_of.ensures items was in
    let load_was = was.load in
    record {
      entries =
          put_entries items key item
          ∙ ap (λ es. tree.insert_entry order es key item) was.entries
          ∙ ap (λ k. tree.insert_entry order c.args.self.now.items.entries k item) (sym c.of.ensures)
          ∙ sym (without_err c.insert.result (sym c.is_err.ensures.value ∙ c.if-is_err.false) c.insert.ensures.entries);
      load = grind (arith, common_steps, load_put, within, own_load, load_was);
      labelled = λ label.
          let put = total_insert (one_if_labelled label) items key item in
          let counts_old = counted_label label key (map.get items key) in
          let raised = c.in_ok-raise.ensures.raised label in
          let lowered = c.lower-2.ensures (λ own is. let one = label_counts items key own (sym is_old ∙ is) (label_itself own) in let up = c.in_ok-raise.ensures.raised own in let before = was.labelled own in omega (arith, one, up, before)) label in
          let before = was.labelled label in
          let same = ap {B = ℕ} (λ l. if is_label label l then 1 else 0) is_old in
          let view = ap {B = ℕ} (λ (i : Item). if is_label label i.label then 1 else 0) c.item.view_is in
          let own : one_if_labelled label (key, item) ≡ (if is_label label item.label then 1 else 0) = refl in
          omega (arith, put, counts_old, raised, lowered, before, same, view, own);
    }
