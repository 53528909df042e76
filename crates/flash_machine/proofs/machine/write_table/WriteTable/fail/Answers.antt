use Rattle.std.proofs.Common.{true, [], ◌∷◌, None, cond, sym, ◌∙◌, ap, subst}
use Rattle.std.proofs.lemmas.List.Folds.{list_any-append}
use Rattle.flash_names.specs.Labels.{same_label}
use Rattle.flash_entry.specs.declared.entry.Entry.TheVariants as entries
use Rattle.flash_machine.specs.Writes.{open_write_step, last_write_step, last_write, ends_good_write, has_good_write}
use Rattle.flash_machine.specs.Rules.{is_failure}
use Rattle.flash_machine.specs.Followed.{EndsBlock, IsBlockIf}
use Rattle.flash_machine.proofs.EntrySteps.{read_off-one}
use Rattle.flash_machine.proofs.Closings.{or_false}
use Rattle.flash_machine.proofs.Blocks.{all_more, failed_by}
use Rattle.flash_machine.proofs.machine.write_table.WriteTable.fail.Goals as goal

pub returns-clause-ended : goal.returns-clause-ended
returns-clause-ended c = λ g h was.
    let place = c.args.place in
    let e = entries.WriteEnded place None in
    let own = place.label in
    let ended = read_off-one open_write_step None h e in
    record {
      block = was.block;
      some = was.some;
      open_ = ended;
      failed = λ label.
          ap is_failure (read_off-one (last_write_step label) None h e)
          ∙ failed_by (same_label own label) (last_write label h)
          ∙ ap (cond (same_label own label) true) (was.failed label)
          ∙ sym (c.in_ok-insert.ensures.updates.0 (label.page, label.version));
      written = λ label offset. list_any-append (ends_good_write label offset) h (e ∷ []) ∙ or_false g (has_good_write label offset h) ∙ was.written label offset;
      blocks = all_more (EndsBlock g) h e was.blocks tt;
      opened = subst (IsBlockIf g) (sym ended) tt;
    }
