-- No item has a label where none is counted.
use Rattle.std.proofs.Common.{◌≡◌, ℕ, ◌+◌, Bool, true, false, not, ◌||◌, List, [], ◌∷◌, cond, refl, ◌∙◌, ap, arith}
use Rattle.std.specs.Prelude.{nat_eq}
use Rattle.std.specs.List.{list_any}
use Rattle.std.proofs.lemmas.Bool.Decides.{nat_tests}
use Rattle.flash_names.specs.declared.place.Label.{Label}
use Rattle.flash_machine.specs.Item.{Item}
use Rattle.flash_machine.specs.Load.{total}
use Rattle.flash_machine.specs.Rules.{is_labelled}
use Rattle.flash_machine.specs.Followed.{one_if_labelled}

counted_by : (b rest : Bool) (n : ℕ) → nat_eq n 0 ≡ not rest → nat_eq (cond b 1 0 + n) 0 ≡ not (b || rest)
counted_by true rest n is = grind (arith, nat_tests)
counted_by false rest n is = ap (λ (m : ℕ). nat_eq m 0) (omega arith) ∙ is

pub none_counted : (label : Label) (es : List (List ℕ × Item)) → nat_eq (total (one_if_labelled label) es) 0 ≡ not (list_any (is_labelled label) es)
none_counted label [] = refl
none_counted label (e ∷ es) = counted_by (is_labelled label e) (list_any (is_labelled label) es) (total (one_if_labelled label) es) (none_counted label es)
