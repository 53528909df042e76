use Rattle.std.proofs.Common.{◌≡◌, ◌≢◌, ℕ, ◌++◌, List, [], ◌∷◌, MatchOption, Bor, ◌∙◌, ap, subst, rules}
use Rattle.std.proofs.lemmas.Slice.Eq.{strip_suffix_is}
use Rattle.std.proofs.lemmas.Bool.Decides.{Decides-eqb}
use Rattle.flash_text.proofs.CarriageReturns.{stripped}
use Rattle.flash_text.proofs.words.without_return.Goals as goal

pub returns : goal.returns
returns c =
    let line = c.args.line in
    let ending : c.as_slice.result.now ≡ 13 ∷ [] = search rules in
    let found = strip_suffix_is Decides-eqb line.now _ c.strip_suffix.result c.strip_suffix.ensures.cases in
    let cases = subst (λ (suffix : List ℕ). MatchOption c.strip_suffix.result ((front : List ℕ) → line.now ≢ front ++ suffix) (λ (x : Bor (List ℕ)). line.now ≡ x.now ++ suffix)) ending found in
    ap (λ (r : Bor (List ℕ)). r.now) c.unwrap_or.ensures ∙ stripped line c.strip_suffix.result cases
