-- A story that only grows, and the things that belong to the passes of a lock, each beside its pass's number.
use Rattle.std.specs.Prelude.{ℕ, ◌==◌, not, List, map, filter, Option, Some, None, length, nat_lt, if◌then◌else◌}
use mathlib.Core.List.{IsPrefix}

-- the later story begins with the earlier one, where both are told; what is told stays told, and what isn't told
-- stays untold
abbrev pub Begins : {E : Type 0} → Option (List E) → Option (List E) → Type 0
Begins None None = Unit {0}
Begins None (Some later) = ⊥
Begins (Some earlier) None = ⊥
Begins (Some earlier) (Some later) = IsPrefix earlier later

-- how long a story is, 0 where it isn't told
abbrev pub told_length : {E : Type 0} → Option (List E) → ℕ
told_length None = 0
told_length (Some entries) = length entries

-- the longer of two stories, and the first where none is longer
abbrev pub longer : {E : Type 0} → Option (List E) → Option (List E) → Option (List E)
longer a b = if nat_lt (told_length a) (told_length b) then b else a

-- the things of the pass n, in order
abbrev pub own_of : {O : Type 0} → ℕ → List (ℕ × O) → List O
own_of n own = map (λ p. p.1) (filter (λ p. p.0 == n) own)

-- the pairs of every other pass, in order
abbrev pub without : {O : Type 0} → ℕ → List (ℕ × O) → List (ℕ × O)
without n own = filter (λ p. not (p.0 == n)) own
