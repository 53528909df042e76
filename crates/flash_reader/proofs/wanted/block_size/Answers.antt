use Rattle.std.proofs.Common.{◌≡◌, true, false, sym, ◌∙◌, ap}
use Rattle.flash_meta.specs.MetaLines.{is_meta_line}
use Rattle.flash_reader.specs.Remembered.{announced}
use Rattle.flash_reader.proofs.LineCuts.{meta_means, text_means}
use Rattle.flash_reader.proofs.wanted.block_size.Goals as goal

pub returns-then-is_meta-clause-size : goal.returns-then-is_meta-clause-size
returns-then-is_meta-clause-size c =
    let is : is_meta_line c.args.line.now ≡ true = sym c.is_meta.ensures ∙ c.if-is_meta.true in
    c.meta_size.ensures.size ∙ ap announced (sym (meta_means c.args.item_max c.args.line.now is))

pub returns-else-is_meta-clause-size : goal.returns-else-is_meta-clause-size
returns-else-is_meta-clause-size c =
    let is : is_meta_line c.args.line.now ≡ false = sym c.is_meta.ensures ∙ c.if-is_meta.false in
    c.text_size.ensures.size ∙ ap announced (sym (text_means c.args.item_max c.args.line.now is))
