use Rattle.std.proofs.Common.{◌≡◌, true, false, sym, ◌∙◌, ap}
use Rattle.flash_commands.specs.Parts.{Meaning}
use Rattle.flash_commands.specs.Commands.{with_meaning}
use Rattle.flash_meta.specs.MetaLines.{is_meta_line}
use Rattle.flash_reader.proofs.LineCuts.{meta_means, text_means}
use Rattle.flash_reader.proofs.front.meaning_front.Goals as goal

pub returns-then-is_meta : goal.returns-then-is_meta
returns-then-is_meta c =
    let is : is_meta_line c.args.line.now ≡ true = sym c.is_meta.ensures ∙ c.if-is_meta.true in
    c.meta_front.ensures ∙ ap (λ (m : Meaning). with_meaning m c.args.n c.args.behind.now) (sym (meta_means c.args.item_max c.args.line.now is))

pub returns-else-is_meta : goal.returns-else-is_meta
returns-else-is_meta c =
    let is : is_meta_line c.args.line.now ≡ false = sym c.is_meta.ensures ∙ c.if-is_meta.false in
    c.text_front.ensures ∙ ap (λ (m : Meaning). with_meaning m c.args.n c.args.behind.now) (sym (text_means c.args.item_max c.args.line.now is))
