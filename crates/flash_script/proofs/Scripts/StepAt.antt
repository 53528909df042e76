-- The step that begins at a place of a script, as the code reads it.
use Rattle.std.proofs.Common.{◌≡◌, ℕ, ◌+◌, ◌-◌, true, false, List, ◌∷◌, length, take, drop, Some, Result, slice_range, sym, ◌∙◌, ap, arith, drop-drop}
use Rattle.std.specs.Prelude.{codes}
use Rattle.std.specs.Result.{result_map_both}
use Rattle.std.specs.Str.{bytes_eq}
use Rattle.flash_names.specs.Cut.{cut_at}
use Rattle.flash_names.specs.Words.{words}
use Rattle.flash_script.specs.declared.fault.Why.{Why}
use Rattle.flash_script.specs.Steps.{Step}
use Rattle.flash_script.specs.Scripts.{feed_of, step_of, step_at}
use Rattle.flash_script.proofs.Scripts.Cuts.{cut_behind, cut_before}
use Rattle.flash_script.proofs.Scripts.Feeds.{at_line, at_feed}

module _ (bytes : List ℕ) (start : ℕ) (line behind word : List ℕ) (more : List (List ℕ)) (cut : cut_at 10 (drop start bytes) ≡ Some (line, behind)) (line_words : words line ≡ word ∷ more) where
  -- the line, as the code takes it
  line_is : slice_range bytes start (start + length line) ≡ line
  line_is =
      let size : start + length line - start ≡ length line = omega arith in
      ap (λ (n : ℕ). take n (drop start bytes)) size ∙ cut_before 10 (drop start bytes) line behind cut

  -- and what is behind its line feed
  behind_is : drop (start + (length line + 1)) bytes ≡ behind
  behind_is = sym (drop-drop (length line + 1) start bytes) ∙ cut_behind 10 (drop start bytes) line behind cut

  -- a feed
  pub feed_is : bytes_eq word (codes "feed") ≡ true → feed_of more (length line + 1) (drop (start + (length line + 1)) bytes) ≡ step_at (drop start bytes)
  feed_is this = ap (feed_of more (length line + 1)) behind_is ∙ sym (at_feed (drop start bytes) line behind word more cut line_words this)

  -- a line that is a step alone
  pub line_step_is : bytes_eq word (codes "feed") ≡ false → (r : Result Step Why) → step_of (slice_range bytes start (start + length line)) ≡ r
      → result_map_both (λ step. record { step = step; size = length line + 1 }) (λ (why : Why). why) r ≡ step_at (drop start bytes)
  line_step_is other r read =
      ap (result_map_both (λ step. record { step = step; size = length line + 1 }) (λ (why : Why). why)) (sym read ∙ ap step_of line_is)
      ∙ sym (at_line (drop start bytes) line behind word more cut line_words other)
