use Rattle.std.proofs.Common.{◌≡◌, ℕ, ◌≤◌, List, [], ◌∷◌, Option, None, Some, length, refl, sym, ◌∙◌, ap, arith, rules, tests}
use Rattle.std.proofs.lemmas.Bool.Decides.{nat_tests}
use Rattle.flash_names.specs.Cut.{cut_at}
use Rattle.flash_text.specs.Words.{spaced_words, from_word, behind_space}
use Rattle.flash_text.proofs.WordLemmas.{same_words, begins_a_word, first_word, front, back, behind_cut, no_longer}
use Rattle.flash_text.proofs.words.next_word.Goals as goal

none_left : (rest : List ℕ) → length rest ≡ 0 → spaced_words rest ≡ []
none_left [] none = refl
none_left (b ∷ bytes) none = absurd (omega arith)

-- the words of a line by the cut at the first space of what begins with its first word
by_cut : (line rest : List ℕ) (cut : Option (List ℕ × List ℕ)) → rest ≡ from_word line → 1 ≤ length rest → cut ≡ cut_at 32 rest → spaced_words line ≡ front rest cut ∷ spaced_words (back cut)
by_cut line rest cut is some at =
    sym (ap spaced_words is ∙ same_words line)
    ∙ first_word rest some (rw is (begins_a_word line))
    ∙ ap (λ (c : Option (List ℕ × List ℕ)). front rest c ∷ spaced_words (back c)) (sym at)

-- what is behind the first word, likewise
behind : (line rest : List ℕ) (cut : Option (List ℕ × List ℕ)) → rest ≡ from_word line → cut ≡ cut_at 32 rest → back cut ≡ behind_space (from_word line)
behind line rest cut is at = sym (ap behind_space (sym is) ∙ behind_cut rest ∙ ap back (sym at))

pub returns-then-is_empty-clause-words : goal.returns-then-is_empty-clause-words
returns-then-is_empty-clause-words c =
    sym (ap spaced_words c.from_word-line.ensures ∙ same_words c.args.line.now) ∙ none_left c.from_word-line.result.now (search (rules, tests))

pub returns-in-None-clause-words : goal.returns-in-None-clause-words
returns-in-None-clause-words c =
    by_cut c.args.line.now _ None c.from_word-line.ensures (grind (arith, nat_tests)) c.in-None.ensures.parts

pub returns-in-None-clause-behind : goal.returns-in-None-clause-behind
returns-in-None-clause-behind c = behind c.args.line.now _ None c.from_word-line.ensures c.in-None.ensures.parts

pub returns-in-Some-clause-words : goal.returns-in-Some-clause-words
returns-in-Some-clause-words c =
    by_cut c.args.line.now _ (Some (c.in-Some.parts.0.now, c.in-Some.parts.1.now)) c.from_word-line.ensures (grind (arith, nat_tests)) c.in-Some.ensures.parts

pub returns-in-Some-clause-behind : goal.returns-in-Some-clause-behind
returns-in-Some-clause-behind c =
    behind c.args.line.now _ (Some (c.in-Some.parts.0.now, c.in-Some.parts.1.now)) c.from_word-line.ensures c.in-Some.ensures.parts

pub returns-in-None-clause-shorter : goal.returns-in-None-clause-shorter
returns-in-None-clause-shorter c =
    let some : 1 ≤ length c.from_word-line.result.now = grind (arith, nat_tests) in
    omega (arith, no_longer c.args.line.now, ap length c.from_word-line.ensures)

pub returns-in-Some-clause-shorter : goal.returns-in-Some-clause-shorter
returns-in-Some-clause-shorter c =
    omega (arith, no_longer c.args.line.now, ap length c.from_word-line.ensures, c.in-Some.ensures.lengths)
