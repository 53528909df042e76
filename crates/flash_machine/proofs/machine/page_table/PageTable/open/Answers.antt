use Rattle.std.proofs.Common.{◌≡◌, Bool, true, false, ℕ, Option, Some, ◌∷◌, [], ◌++◌, refl, sym, ◌∙◌, ap, arith, ◌<◌, None, cond}
use Rattle.std.specs.Prelude.{nat_eq}
use Rattle.std.proofs.lemmas.Grind.{common_steps}
use Rattle.std.proofs.lemmas.Bool.Decides.{nat_tests}
use Rattle.flash_names.specs.declared.place.Label.{Label}
use Rattle.flash_entry.specs.declared.entry.Entry.TheVariants as entries
use Rattle.flash_machine.specs.PageLabels.{version_step, page_label}
use Rattle.flash_machine.proofs.EntrySteps.{read_off-one, is_read_off}
use Rattle.flash_machine.proofs.LabelRuns.{opened_has}
use Rattle.flash_machine.proofs.FreePages.{one_fewer, other_opened}
use Rattle.flash_machine.proofs.machine.page_table.PageTable.open.Goals as goal

below_by : (b : Bool) (page limit : ℕ) (opened label : Label) (found : Option Label) → nat_eq opened.page page ≡ b → opened.page < limit
    → (found ≡ Some label → page < limit) → cond b (Some opened) found ≡ Some label → page < limit
below_by true page limit opened label found same within rest is = grind (arith, nat_tests)
below_by false page limit opened label found same within rest is = rest is

pub returns-clause-opened : goal.returns-clause-opened
returns-clause-opened c = λ g h was may.
    let own = c.args.label in
    let e = entries.Opened own in
    let more = (is_read_off g h e).label in
    let within : own.page < g.pages = grind (arith, nat_tests) in
    let is_free : page_label own.page h ≡ None = grind (arith, nat_tests) in
    let less = one_fewer g.pages h (h ++ e ∷ []) own.page own within is_free (opened_has g own h) (other_opened h own) in
    record {
      labels = λ page. more page ∙ ap (cond (nat_eq own.page page) (Some own)) (was.labels page) ∙ sym (c.in_ok-insert.ensures.updates.0 page);
      below = λ page label is. below_by (nat_eq own.page page) page g.pages own label (page_label page h) refl within (was.below page label) (sym (more page) ∙ is);
      ended = λ label. let before = was.ended label in grind (arith, common_steps, before);
      version = read_off-one version_step 0 h e;
      free = let before = was.free in grind (arith, common_steps, less, before);
      few = was.few;
    }
