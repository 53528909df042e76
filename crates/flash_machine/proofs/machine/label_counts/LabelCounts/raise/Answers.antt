use Rattle.std.proofs.Common.{◌≡◌, ◌+◌, Option, sym, ◌∙◌, ap, if◌then◌else◌, arith}
use Rattle.std.specs.HashMap as hash
use Rattle.std.proofs.lemmas.Grind.{common_steps}
use Rattle.flash_names.specs.declared.place.Label.{Label}
use Rattle.flash_machine.specs.PageLabels.{is_label}
use Rattle.flash_machine.specs.Followed.{same_pair, or_none, label_count}
use Rattle.flash_machine.proofs.Same.{equal_labels}
use Rattle.flash_machine.proofs.Counted.{raised_by}
use Rattle.flash_machine.proofs.machine.label_counts.LabelCounts.raise.Goals as goal

pub returns-clause-raised : goal.returns-clause-raised
returns-clause-raised c = λ other.
    let own = c.in-Some.label in
    let old = λ (l : Label). hash.get same_pair c.args.self.now.counts (l.page, l.version) in
    let count : c.in_ok-count.count ≡ label_count c.args.self.now own + 1 = grind (arith, common_steps) in
    ap or_none (c.in_ok-insert.ensures.updates.0 (other.page, other.version))
    ∙ raised_by (same_pair (own.page, own.version) (other.page, other.version)) (old own) (old other) c.in_ok-count.count
    (λ same. ap old (sym (equal_labels own other same))) count
    ∙ ap (λ (l : Option Label). label_count c.args.self.now other + (if is_label other l then 1 else 0)) (sym c.in-Some.is)
