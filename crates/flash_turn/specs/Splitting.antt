-- What splitting a pass answers.
use Rattle.std.specs.Prelude.{◌≡◌, ℕ, ◌<◌, ◌≤◌, List, [], ◌∷◌, ◌++◌, Option, None}
use Rattle.std.specs.List.{AllByRecursion}
use Rattle.flash_turn.specs.declared.split.Split.{Split}
use Rattle.flash_turn.specs.declared.split.Split.TheVariants.{Pass as NewPass, Used}
use Rattle.flash_turn.specs.declared.pass.Pass.{Pass}
use Rattle.flash_turn.specs.declared.turn.Turn.{Turn}
use Rattle.flash_turn.specs.Next.{IsNext}
use Rattle.flash_turn.specs.Numbered.{limit}
use Rattle.flash_turn.specs.Passes.{view_of, number_of, seen, took_face, left_face, left_own, IsPassOf}

-- the number that was drawn: that of the new pass, or one that is too large
abbrev pub drawn_number : {T : Type 0} → Split T → ℕ
drawn_number (NewPass new) = number_of new
drawn_number (Used n) = n

-- the pass is as before, but that it has drawn this number from its lock
pub record HasDrawn {T : Type 0} (old new : Pass T) (n : ℕ) : Type 0 where
  pub number : number_of new ≡ number_of old
  pub view : view_of new ≡ record (view_of old) { draws = n ∷ (view_of old).draws }

-- the numbers that a pass knows to be given: its own, those of the passes that it joined, and all that these have drawn
abbrev pub known_numbers : {T : Type 0} → Pass T → List ℕ
known_numbers pass = (view_of pass).numbers ++ (view_of pass).draws

module _ {T E O X F : Type 0} (story : T → Option (List E)) (own : T → List (ℕ × O)) (face : T → X) (fixed : T
    → F) where
  -- A pass of the lock that has seen what this one saw, and has taken and left nothing. Its number is below the limit
  -- and above every number that the other pass knows to be given
  pub record IsSplitOff (turn : Turn T) (old new : Pass T) : Type 0 where
    pub pass : IsPassOf fixed turn new
    pub seen_same : seen story new ≡ seen story old
    pub left_nothing : left_own own new ≡ []
    pub took_no_face : took_face face new ≡ None
    pub left_no_face : left_face face new ≡ None
    pub within : number_of new < limit
    pub above : AllByRecursion (λ n. n < number_of new) (known_numbers old)

  -- a new pass, or a number at the limit or above it, that was the lock's next number when it was drawn
  abbrev pub SplitsOff : Type 0 → Turn T → Pass T → Split T → Type 0
  SplitsOff A turn old (NewPass new) = IsSplitOff turn old new × IsNext story own fixed A (view_of old) (number_of new)
  SplitsOff A turn old (Used n) = (limit ≤ n) × IsNext story own fixed A (view_of old) n
