use Rattle.std.proofs.Common.{Some, ap, sym, ◌∙◌}
use Rattle.std.specs.FinMap as finite
use Rattle.flash_table.specs.declared.entry.Entry.{Entry}
use Rattle.flash_table.specs.Flat.{flat}
use Rattle.flash_table.specs.Maps.{items_in}
use Rattle.flash_table.specs.Table.{TableState}
use Rattle.flash_table.proofs.ChainSlots.{item_found}
use Rattle.flash_table.proofs.table.Table.find.Goals as goal

pub returns-in-Some : goal.returns-in-Some
returns-in-Some c =
    ap (λ (e : Entry). Some e.item) c.entry_in-entry.ensures
    ∙ sym (item_found c.self.inside.keys c.self.inside.chains.items c.self.invariant.chained c.bytes.result.now c.in-Some.home c.in-Some.slot c.in-Some.ensures.found)
    ∙ ap (finite.get (items_in c.self.inside.keys (flat c.self.inside.chains.items))) c.bytes.ensures.same
    ∙ ap (λ (s : TableState). finite.get s.map c.args.key.now) c.self.view_is
