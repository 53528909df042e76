use Rattle.std.proofs.Common.{◌∙◌, ap, sym}
use Rattle.std.specs.FinMap.{len}
use Rattle.flash_items.specs.ItemsState.{ItemsState}
use Rattle.flash_items.proofs.Entries.{len_items}
use Rattle.flash_items.proofs.items.Items.len.Goals as goal

pub returns : goal.returns
returns c =
    c.len.ensures ∙ sym (len_items c.self.inside.table.keys c.self.inside.entries.slots)
    ∙ ap (λ (s : ItemsState). len s.items) c.self.view_is
