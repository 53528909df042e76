use Rattle.std.proofs.Common.{ℕ, ◌^◌, ◌<◌, refl, sym, ◌∙◌, subst, arith}
use Rattle.std.proofs.lemmas.Grind.{common_steps}
use Rattle.flash_machine.proofs.FreePages.{all_free}
use Rattle.flash_machine.proofs.machine.page_table.PageTable.new.Goals as goal

pub returns : goal.returns
returns c = λ g same. record {
  labels = λ page. grind (arith, common_steps);
  below = λ page label is. absurd (cc is);
  ended = λ label. grind (arith, common_steps);
  version = refl;
  free = all_free g.pages ∙ same;
  few = subst (λ (n : ℕ). n < 2 ^ 32) (sym same) c.ranges.pages.fits;
}
