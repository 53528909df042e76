use Rattle.std.proofs.Common.{◌≡◌, ◌+◌, List, length, ap, ◌∙◌, arith}
use Rattle.std.proofs.lemmas.List.{length-append}
use Rattle.flash_entry.specs.declared.found.Told.{Told}
use Rattle.flash_session.proofs.Talking.{whole_count}
use Rattle.flash_session.proofs.laws.steps_are_counted.Goals as goal

pub returns : goal.returns
returns c = λ bytes told gone s stands.
    let counted = stands.last in
    let whole = whole_count stands.done stands.before stands.whole in
    let all : length told ≡ length stands.before + length stands.here = ap (λ (l : List Told). length l) stands.told_is ∙ length-append stands.before stands.here in
    omega (arith, counted, whole, all)
