use Rattle.std.proofs.Common.{sym, ◌∙◌, ap}
use Rattle.std.specs.Ordering.{nat_cmp}
use Rattle.std.specs.Cmp.Lexicographic.{slice_cmp}
use Rattle.std.specs.BTreeMap as tree
use Rattle.flash_machine.proofs.Tabled.{got}
use Rattle.flash_machine.proofs.machine.item_table.ItemTable.get.Goals as goal

pub returns : goal.returns
returns c = λ items was.
    c.get.ensures.value ∙ ap (λ k. tree.get (slice_cmp nat_cmp) c.args.self.now.items k) c.of.ensures
    ∙ sym (got c.args.self.now items c.args.key.now was.entries)
