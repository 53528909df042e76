-- The queue of slots.
use Rattle.std.specs.Prelude.{ℕ, ◌+◌, List, [], ◌∷◌, nat_eq, if◌then◌else◌}

-- the queue without the first that is this slot
abbrev pub without : ℕ → List ℕ → List ℕ
without slot [] = []
without slot (first ∷ rest) = if nat_eq first slot then rest else first ∷ without slot rest

-- how often the slot is in the queue
abbrev pub count_of : ℕ → List ℕ → ℕ
count_of slot [] = 0
count_of slot (first ∷ rest) = (if nat_eq first slot then 1 else 0) + count_of slot rest
