-- What is after the bytes that are written.
use Rattle.std.proofs.Common.{◌≡◌, ℕ, ◌+◌, ◌-◌, ◌≤◌, List, drop, sym, ap, ◌∙◌, arith}
use Rattle.std.proofs.lemmas.List.{drop-drop}

-- two lists that are alike from a place on are so from a later one on
pub later : (from to : ℕ) (a b : List ℕ) → drop from a ≡ drop from b → from ≤ to → drop to a ≡ drop to b
later from to a b same le =
    let is : from + (to - from) ≡ to = omega arith in
    ap (λ (n : ℕ). drop n a) (sym is)
    ∙ sym (drop-drop (to - from) from a)
    ∙ ap (drop (to - from)) same
    ∙ drop-drop (to - from) from b
    ∙ ap (λ (n : ℕ). drop n b) is
