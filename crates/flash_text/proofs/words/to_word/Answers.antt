use Rattle.std.proofs.Common.{◌≡◌, ◌≢◌, ℕ, ◌++◌, List, [], ◌∷◌, MatchOption, Option, None, Some, Bor, sym, ◌∙◌, ap, subst, rules}
use Rattle.std.proofs.lemmas.Slice.Eq.{strip_suffix_is}
use Rattle.std.proofs.lemmas.Bool.Decides.{Decides-eqb}
use Rattle.flash_text.specs.Words.{to_word}
use Rattle.flash_text.proofs.Ends.{left_out, kept}
use Rattle.flash_text.proofs.words.to_word.Goals as goal

abbrev Cases : List ℕ → List ℕ → Option (Bor (List ℕ)) → Type 0
Cases line suffix found = MatchOption found ((front : List ℕ) → line ≢ front ++ suffix) (λ x. line ≡ x.now ++ suffix)

shorter : (left : List ℕ) (front : Bor (List ℕ)) (found : Option (Bor (List ℕ))) → found ≡ Some front → Cases left (32 ∷ []) found → to_word front.now ≡ to_word left
shorter left front None is cases = absurd (cc is)
shorter left front (Some x) is cases =
    let same : x ≡ front = cc in
    sym (ap to_word (cases ∙ ap (λ (b : Bor (List ℕ)). b.now ++ 32 ∷ []) same) ∙ left_out front.now)

pub spaces-preserved : goal.spaces-preserved
spaces-preserved c =
    let ending : c.as_slice.result.now ≡ 32 ∷ [] = search rules in
    let found = strip_suffix_is Decides-eqb c.spaces.left.now _ c.strip_suffix.result c.strip_suffix.ensures.cases in
    let cases = subst (λ (suffix : List ℕ). Cases c.spaces.left.now suffix c.strip_suffix.result) ending found in
    shorter c.spaces.left.now c.in-Some.front c.strip_suffix.result c.in-Some.is cases ∙ c.spaces.invariant

pub returns : goal.returns
returns c =
    let ending : c.as_slice.result.now ≡ 32 ∷ [] = search rules in
    let found = strip_suffix_is Decides-eqb c.spaces.left.now _ None c.in_default.ensures.cases in
    let cases = subst (λ (suffix : List ℕ). Cases c.spaces.left.now suffix None) ending found in
    sym (kept c.spaces.left.now cases) ∙ c.spaces.invariant
