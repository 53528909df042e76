use Rattle.std.proofs.Common.{◌≡◌, ◌+◌, ◌<◌, Option, Some, sym, ◌∙◌, ap, if◌then◌else◌, arith, rules}
use Rattle.std.specs.HashMap as hash
use Rattle.std.proofs.lemmas.Grind.{common_steps}
use Rattle.flash_names.specs.declared.place.Label.{Label}
use Rattle.flash_machine.specs.PageLabels.{is_label}
use Rattle.flash_machine.specs.Followed.{same_pair, or_none}
use Rattle.flash_machine.proofs.Same.{equal_labels}
use Rattle.flash_machine.proofs.Counted.{lowered_by}
use Rattle.flash_machine.proofs.machine.label_counts.LabelCounts.lower.Goals as goal

pub returns-in-Some-get_mut : goal.returns-in-Some-get_mut
returns-in-Some-get_mut c = λ some other.
    let own = c.in-Some.label in
    let old = λ (l : Label). hash.get same_pair c.args.self.now.counts (l.page, l.version) in
    let after = c.saturating_sub.result in
    let there : old own ≡ Some c.in-Some-get_mut.count.now = sym c.in-Some-get_mut.ensures.value in
    let some_own : 0 < or_none (old own) = some own c.in-Some.is in
    let count : after + 1 ≡ or_none (old own) = grind (arith, common_steps, there, some_own) in
    ap (λ (l : Option Label). or_none (hash.get same_pair (c.get_mut.follows.lender after) (other.page, other.version)) + (if is_label other l then 1 else 0)) c.in-Some.is
    ∙ ap (λ found. or_none found + (if is_label other (Some own) then 1 else 0)) (((c.get_mut.follows.holds after).3 (search rules)).0 (other.page, other.version))
    ∙ lowered_by (same_pair (own.page, own.version) (other.page, other.version)) (old own) (old other) after
    (λ same. ap old (sym (equal_labels own other same))) count
