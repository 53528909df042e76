-- The least of the pages that may be chosen.
use Rattle.std.specs.Prelude.{ℕ, ◌+◌, List, [], ◌∷◌, nat_le, Option, None, Some, if◌then◌else◌}
use Rattle.flash_pages.specs.declared.page_row.PageRow.{PageRow}
use Rattle.flash_pages.specs.declared.victims.Candidate.{Candidate}

-- the one with the lesser weight, and the first of two that have the same
abbrev pub lesser : Option Candidate → Option Candidate → Option Candidate
lesser None other = other
lesser (Some one) None = Some one
lesser (Some one) (Some other) = if nat_le one.weight other.weight then Some one else Some other

-- the least of the candidates among these rows, which are numbered from n
abbrev pub least_from : (ℕ → PageRow → Option Candidate) → ℕ → List PageRow → Option Candidate
least_from candidate n [] = None
least_from candidate n (row ∷ rest) = lesser (candidate n row) (least_from candidate (n + 1) rest)
