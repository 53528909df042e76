-- The bytes that a read takes.
use Rattle.std.proofs.Common.{◌≡◌, ℕ, ◌+◌, List, ◌++◌, length, take, drop, sym, ◌∙◌, ap}
use Rattle.std.proofs.lemmas.List.{take_at, take-append-drop, drop-drop}

-- n bytes at a place, and those after them, are those from the place on
pub taken : (bytes into front : List ℕ) (at n : ℕ) → length front ≡ n → front ≡ take n (drop at bytes) → drop at bytes ≡ take n (front ++ drop n into) ++ drop (at + n) bytes
taken bytes into front at n size is =
    sym (take-append-drop n (drop at bytes))
    ∙ ap (λ (l : List ℕ). l ++ drop n (drop at bytes)) (sym is ∙ sym (take_at front (drop n into) n size))
    ∙ ap (λ (l : List ℕ). take n (front ++ drop n into) ++ l) (drop-drop n at bytes)
