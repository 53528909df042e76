-- The lines of bytes, by where they are cut at their first line feed.
use Rattle.std.proofs.Common.{◌≡◌, ℕ, Bool, true, false, ◌==◌, List, [], ◌∷◌, Option, None, Some, if◌then◌else◌, refl, ◌∙◌, ap}
use Rattle.std.specs.Option.{option_map}
use Rattle.flash_names.specs.Cut.{cut_at}
use Rattle.flash_streams.specs.Lines.{Lines, lines_of, in_first_line}

-- the lines of bytes that are cut so
abbrev pub lines_cut : List ℕ → Option (List ℕ × List ℕ) → Lines
lines_cut bytes None = record { whole = []; rest = bytes }
lines_cut bytes (Some parts) = record { whole = parts.0 ∷ (lines_of parts.1).whole; rest = (lines_of parts.1).rest }

-- a byte before bytes that are cut
abbrev before_cut : ℕ → Option (List ℕ × List ℕ) → Option (List ℕ × List ℕ)
before_cut b cut = option_map (λ parts. (b ∷ parts.0, parts.1)) cut

in_front : (b : ℕ) (bytes : List ℕ) (cut : Option (List ℕ × List ℕ)) → in_first_line b (lines_cut bytes cut) ≡ lines_cut (b ∷ bytes) (before_cut b cut)
in_front b bytes None = refl
in_front b bytes (Some parts) = refl

-- a line feed or another byte in front
by_test : (b : ℕ) (bytes : List ℕ) (feed : Bool) (cut : Option (List ℕ × List ℕ)) (lines : Lines) → lines ≡ lines_cut bytes cut
    → (if feed then record { whole = [] ∷ (lines_of bytes).whole; rest = (lines_of bytes).rest } else in_first_line b lines)
    ≡ lines_cut (b ∷ bytes) (if feed then Some ([], bytes) else before_cut b cut)
by_test b bytes true cut lines is = refl
by_test b bytes false cut lines is = ap (in_first_line b) is ∙ in_front b bytes cut

-- the first line, and those of what is after it
pub lines-cut : (bytes : List ℕ) → lines_of bytes ≡ lines_cut bytes (cut_at 10 bytes)
lines-cut [] = refl
lines-cut (b ∷ bytes) = by_test b bytes (b == 10) (cut_at 10 bytes) (lines_of bytes) (lines-cut bytes)
