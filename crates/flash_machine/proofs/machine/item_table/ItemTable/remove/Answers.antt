use Rattle.std.proofs.Common.{ℕ, sym, ◌∙◌, ap, if◌then◌else◌, arith}
use Rattle.std.specs.FinMap as map
use Rattle.std.specs.Map.{remove_entry}
use Rattle.std.specs.BTreeMap as tree
use Rattle.std.proofs.lemmas.Grind.{common_steps}
use Rattle.flash_machine.specs.PageLabels.{is_label}
use Rattle.flash_machine.specs.Followed.{one_if_labelled}
use Rattle.flash_machine.proofs.Same.{label_itself}
use Rattle.flash_machine.proofs.Totals.{order, total_remove}
use Rattle.flash_machine.proofs.Counted.{counted_label}
use Rattle.flash_machine.proofs.Tabled.{load_count, label_counts, taken_entries}
use Rattle.flash_machine.proofs.machine.item_table.ItemTable.remove.Goals as goal

pub returns : goal.returns
returns c = λ items was.
    let key = c.args.key.now in
    let is_old = c.label_of-old_label.ensures items was in
    let load_left = total_remove load_count items key in
    let own_load = c.load_of.ensures items was in
    let load_was = was.load in
    record {
      entries =
          taken_entries items key
          ∙ ap (λ es. remove_entry (tree.is_at (order key)) es) was.entries
          ∙ ap (λ k. remove_entry (tree.is_at (order k)) c.args.self.now.items.entries) (sym c.of.ensures)
          ∙ sym c.remove.ensures.entries;
      load = grind (arith, common_steps, load_left, own_load, load_was);
      labelled = λ label.
          let left = total_remove (one_if_labelled label) items key in
          let counts_old = counted_label label key (map.get items key) in
          let lowered = c.lower.ensures (λ own is. let one = label_counts items key own (sym is_old ∙ is) (label_itself own) in let before = was.labelled own in omega (arith, one, before)) label in
          let before = was.labelled label in
          let same = ap {B = ℕ} (λ l. if is_label label l then 1 else 0) is_old in
          omega (arith, left, counts_old, lowered, before, same);
    }
