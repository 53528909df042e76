use Rattle.std.proofs.Common.{◌≡◌, ℕ, ◌==◌, not, length, Option, ◌∙◌, ap, rules, tests}
use Rattle.std.specs.Option.{unwrap_or}
use Rattle.std.specs.List.{position}
use Rattle.std.proofs.lemmas.Iterator.{YieldsList-from_slice}
use Rattle.std.proofs.lemmas.Iterator.Search.{position_from_yields_List}
use Rattle.flash_text.proofs.WordLemmas.{place_or_end}
use Rattle.flash_text.proofs.words.leading_spaces.Goals as goal

pub returns-clause-spaces : goal.returns-clause-spaces
returns-clause-spaces c =
    let line = c.args.line.now in
    let found : c.position.result ≡ position (λ b. not (b == 32)) line = position_from_yields_List (λ b. not (b == 32)) _ _ c.position.result c.position.ensures.ran (YieldsList-from_slice line cc) (λ x b q k. search (rules, tests)) in
    c.unwrap_or.ensures ∙ ap (λ (o : Option ℕ). unwrap_or o (length line)) found ∙ place_or_end (λ b. not (b == 32)) line
