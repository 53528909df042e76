use Rattle.std.proofs.Common.{◌≡◌, ℕ, ◌-◌, length, take, drop, ◌∙◌, ap, arith, length-drop}
use Rattle.std.proofs.lemmas.List.{take_all}
use Rattle.flash_text.proofs.WordLemmas.{behind_spaces}
use Rattle.flash_text.proofs.words.from_word.Goals as goal

pub returns : goal.returns
returns c =
    let line = c.args.line.now in
    let n = c.leading_spaces.result in
    let whole : take (length line - n) (drop n line) ≡ drop n line = take_all (length line - n) (drop n line) (omega (arith, length-drop n line)) in
    whole ∙ ap (λ (k : ℕ). drop k line) c.leading_spaces.ensures.spaces ∙ behind_spaces line
