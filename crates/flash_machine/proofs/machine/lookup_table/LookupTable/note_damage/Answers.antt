use Rattle.std.proofs.Common.{true, ℕ, ◌||◌, ◌&&◌, cond, ◌∙◌, ap}
use Rattle.std.specs.Prelude.{nat_eq}
use Rattle.std.specs.Str.{bytes_eq}
use Rattle.std.specs.HashSet as set
use Rattle.flash_names.specs.Labels.{same_label}
use Rattle.flash_machine.specs.Followed.{same_damage, is_found_at}
use Rattle.flash_machine.proofs.Joined.{either}
use Rattle.flash_machine.proofs.machine.lookup_table.LookupTable.note_damage.Goals as goal

pub returns-in_ok-insert-clause-noted : goal.returns-in_ok-insert-clause-noted
returns-in_ok-insert-clause-noted c = λ key cas label.
    let lookup = c.in-Some.lookup.now in
    let old = set.contains same_damage c.args.self.now.damaged ((key, cas), (label.page, label.version)) in
    let at = same_label lookup.label label in
    c.in_ok-insert.ensures.updates.0 ((key, cas), (label.page, label.version))
    ∙ ap (λ k. cond ((bytes_eq k key && nat_eq c.cas.result cas) && at) true old) c.of.ensures
    ∙ ap (λ (n : ℕ). cond ((bytes_eq lookup.key key && nat_eq n cas) && at) true old) c.cas.ensures
    ∙ either old ((bytes_eq lookup.key key && nat_eq lookup.item.cas cas) && at)
    ∙ ap (λ found. old || is_found_at key cas label found) c.in-Some.ensures.value
