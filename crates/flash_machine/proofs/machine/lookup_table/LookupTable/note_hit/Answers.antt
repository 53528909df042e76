use Rattle.std.proofs.Common.{true, ℕ, ◌||◌, ◌&&◌, cond, ◌∙◌, ap}
use Rattle.std.specs.Prelude.{nat_eq}
use Rattle.std.specs.Str.{bytes_eq}
use Rattle.std.specs.HashSet as set
use Rattle.flash_machine.specs.Followed.{same_value, is_found_on}
use Rattle.flash_machine.proofs.Joined.{either}
use Rattle.flash_machine.proofs.machine.lookup_table.LookupTable.note_hit.Goals as goal

pub returns-in_ok-insert-clause-noted : goal.returns-in_ok-insert-clause-noted
returns-in_ok-insert-clause-noted c = λ key cas.
    let lookup = c.in-Some.lookup.now in
    let old = set.contains same_value c.args.self.now.hits (key, cas) in
    c.in_ok-insert.ensures.updates.0 (key, cas)
    ∙ ap (λ k. cond (bytes_eq k key && nat_eq c.cas.result cas) true old) c.of.ensures
    ∙ ap (λ (n : ℕ). cond (bytes_eq lookup.key key && nat_eq n cas) true old) c.cas.ensures
    ∙ either old (bytes_eq lookup.key key && nat_eq lookup.item.cas cas)
    ∙ ap (λ found. old || is_found_on key cas found) c.in-Some.ensures.value
