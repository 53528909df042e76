use Rattle.std.proofs.Common.{◌≡◌, ◌-◌, List, ℕ, length, drop, sym, ◌∙◌, ap, arith, rules}
use Rattle.flash_text.specs.Words.{spaced_words, behind_word}
use Rattle.flash_session.proofs.Lookups.{behind_is}
use Rattle.flash_session.proofs.lookup.first_key_end.Goals as goal

pub returns-in-Some : goal.returns-in-Some
returns-in-Some c =
    let keys = c.args.keys.now in
    let rest = c.in-Some.rest.now in
    let is : rest ≡ behind_word keys = c.in-Some.ensures.behind in
    let stands : drop (length keys - length rest) keys ≡ rest =
    ap (λ (r : List ℕ). drop (length keys - length r) keys) is ∙ sym (behind_is keys) ∙ sym is in
    record {
      within = omega arith;
      words = ap (λ (l : List ℕ). spaced_words l) stands ∙ search rules;
    }
