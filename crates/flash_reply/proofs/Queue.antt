-- What is behind the queue's bytes after some appends.
use Rattle.std.proofs.Common.{◌≡◌, ℕ, List, ◌++◌, ◌∙◌, ap, append_assoc}

-- bytes that were appended, and then more
pub behind : (old mid new xs ys : List ℕ) → mid ≡ old ++ xs → new ≡ mid ++ ys → new ≡ old ++ (xs ++ ys)
behind old mid new xs ys one two = two ∙ ap (λ (l : List ℕ). l ++ ys) one ∙ append_assoc old xs ys

-- bytes that were appended to a queue that was made larger
pub behind_same : (old mid new xs : List ℕ) → mid ≡ old → new ≡ mid ++ xs → new ≡ old ++ xs
behind_same old mid new xs same one = one ∙ ap (λ (l : List ℕ). l ++ xs) same
