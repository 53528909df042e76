-- Tags that are equal to one, as bits.
use Rattle.std.specs.Prelude.{ℕ, ◌+◌, ◌*◌, List, [], ◌∷◌, nat_eq, slice_index, if◌then◌else◌}

-- the mask of the tags that are this one: bit 0 is for the first
abbrev pub mask_of_tag : List ℕ → ℕ → ℕ
mask_of_tag [] tag = 0
mask_of_tag (other ∷ tags) tag = (if nat_eq other tag then 1 else 0) + 2 * mask_of_tag tags tag

-- 1 where tag i is this one, and else 0
abbrev pub has_tag : List ℕ → ℕ → ℕ → ℕ
has_tag tags tag i = if nat_eq (slice_index tags i) tag then 1 else 0
