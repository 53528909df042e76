use Rattle.std.proofs.Common.{◌≡◌, Bool, true, false, ℕ, Option, Some, ◌∷◌, [], ◌++◌, sym, ◌∙◌, ap, arith, ◌<◌, None, cond}
use Rattle.std.specs.Prelude.{nat_eq}
use Rattle.std.proofs.lemmas.Grind.{common_steps}
use Rattle.flash_names.specs.declared.place.Label.{Label}
use Rattle.flash_entry.specs.declared.entry.Entry.TheVariants as entries
use Rattle.flash_machine.specs.PageLabels.{version_step, page_label}
use Rattle.flash_machine.proofs.EntrySteps.{read_off-one, is_read_off}
use Rattle.flash_machine.proofs.RuleMeanings.{over as is_over_page}
use Rattle.flash_machine.proofs.FreePages.{one_fewer, other_freed, freed_has_none, free_within}
use Rattle.flash_machine.proofs.machine.page_table.PageTable.free_page.Goals as goal

below_by : (b : Bool) (page limit : ℕ) (label : Label) (found : Option Label) → (found ≡ Some label → page < limit) → cond b None found ≡ Some label → page < limit
below_by true page limit label found rest is = absurd (cc is)
below_by false page limit label found rest is = rest is

pub returns : goal.returns
returns c = λ g h was over.
    let own = c.args.label in
    let e = entries.Freed own in
    let more = (is_read_off g h e).label in
    let has = (is_over_page h own over).has in
    let one = one_fewer g.pages (h ++ e ∷ []) h own.page own (was.below own.page own has) (freed_has_none h own) has (λ page other. sym (other_freed h own page other)) in
    let within = free_within g.pages (h ++ e ∷ []) in
    record {
      labels = λ page. more page ∙ ap (cond (nat_eq own.page page) None) (was.labels page) ∙ sym (c.remove.ensures.updates.0 page);
      below = λ page label is. below_by (nat_eq own.page page) page g.pages label (page_label page h) (was.below page label) (sym (more page) ∙ is);
      ended = λ label. let before = was.ended label in grind (arith, common_steps, before);
      version = read_off-one version_step 0 h e ∙ was.version;
      free = let before = was.free in let few = was.few in grind (arith, common_steps, one, before, few, within);
      few = was.few;
    }
