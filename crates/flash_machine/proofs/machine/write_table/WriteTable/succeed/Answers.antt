use Rattle.std.proofs.Common.{true, false, ℕ, [], ◌∷◌, ◌||◌, ◌&&◌, None, Some, cond, sym, ◌∙◌, ap, subst, nat_eq}
use Rattle.std.specs.HashSet as set
use Rattle.std.proofs.lemmas.List.Folds.{list_any-append}
use Rattle.flash_names.specs.Labels.{same_label}
use Rattle.flash_entry.specs.declared.entry.Entry.TheVariants as entries
use Rattle.flash_machine.specs.Writes.{open_write_step, last_write_step, last_write, ends_good_write, has_good_write}
use Rattle.flash_machine.specs.Rules.{is_failure}
use Rattle.flash_machine.specs.Followed.{EndsBlock, IsBlockIf, same_block}
use Rattle.flash_machine.proofs.EntrySteps.{read_off-one}
use Rattle.flash_machine.proofs.Closings.{or_false}
use Rattle.flash_machine.proofs.Joined.{either}
use Rattle.flash_machine.proofs.Blocks.{all_more, good_by}
use Rattle.flash_machine.proofs.machine.write_table.WriteTable.succeed.Goals as goal

pub returns-clause-ended : goal.returns-clause-ended
returns-clause-ended c = λ g h bytes was begun.
    let place = c.args.place in
    let e = entries.WriteEnded place (Some bytes) in
    let own = place.label in
    let ended = read_off-one open_write_step None h e in
    record {
      block = was.block;
      some = was.some;
      open_ = ended;
      failed = λ label.
          ap is_failure (read_off-one (last_write_step label) None h e)
          ∙ good_by (same_label own label) bytes (last_write label h)
          ∙ ap (cond (same_label own label) false) (was.failed label)
          ∙ sym (c.remove.ensures.updates.0 (label.page, label.version));
      written = λ label offset.
          let ends = same_label own label && nat_eq place.offset offset in
          list_any-append (ends_good_write label offset) h (e ∷ [])
          ∙ ap (λ b. has_good_write label offset h || b) (or_false g ends)
          ∙ sym (either (has_good_write label offset h) ends)
          ∙ ap (cond ends true) (was.written label offset)
          ∙ ap (λ (n : ℕ). cond (same_label own label && nat_eq n offset) true (set.contains same_block c.args.self.now.written ((label.page, label.version), offset))) (sym c.from.ensures)
          ∙ sym (c.in_ok-insert.ensures.updates.0 ((label.page, label.version), offset));
      blocks = all_more (EndsBlock g) h e was.blocks (subst (IsBlockIf g) begun was.opened);
      opened = subst (IsBlockIf g) (sym ended) tt;
    }
