use Rattle.std.proofs.Common.{◌∷◌, [], refl, sym, ◌∙◌, arith}
use Rattle.std.proofs.lemmas.Grind.{common_steps}
use Rattle.flash_entry.specs.declared.entry.Entry.TheVariants as entries
use Rattle.flash_machine.specs.PageLabels.{version_step}
use Rattle.std.proofs.lemmas.List.Folds.{list_any-append}
use Rattle.flash_machine.specs.Live.{ends}
use Rattle.flash_machine.proofs.EntrySteps.{read_off-one, is_read_off}
use Rattle.flash_machine.proofs.FreePages.{kept_free}
use Rattle.flash_machine.proofs.machine.page_table.PageTable.end.Goals as goal

pub returns-clause-ended : goal.returns-clause-ended
returns-clause-ended c = λ g h cause was.
    let e = entries.Ended c.args.label cause in
    record {
      labels = λ page. (is_read_off g h e).label page ∙ was.labels page;
      below = λ page label is. was.below page label (sym ((is_read_off g h e).label page) ∙ is);
      ended = λ label.
          let before = was.ended label in
          let more = list_any-append (ends label) h (e ∷ []) in
          let after = c.in_ok-insert.ensures.updates.0 (label.page, label.version) in grind (arith, common_steps, before, more, after);
      version = read_off-one version_step 0 h e ∙ was.version;
      free = kept_free g h e (λ page. refl) ∙ was.free;
      few = was.few;
    }
