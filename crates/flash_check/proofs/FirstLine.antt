-- The answer on bytes by their first line.
use Rattle.std.proofs.Common.{◌≡◌, ℕ, ◌<◌, ◌≤◌, true, false, nat_lt, List, [], length, None, Some, Result, Ok, Err, if◌then◌else◌, sym, ◌∙◌, ap, arith}
use Rattle.std.proofs.lemmas.Bool.Decides.{nat_tests}
use Rattle.flash_names.specs.declared.geometry.Geometry.{Geometry}
use Rattle.flash_names.specs.Cut.{cut_at}
use Rattle.flash_entry.specs.declared.geometry_line.HeadFault.{HeadFault}
use Rattle.flash_entry.specs.GeometryLine.{geometry_of_line}
use Rattle.flash_check.specs.declared.status.CheckStatus.TheVariants.{BadLine}
use Rattle.flash_streams.specs.Lines.{Lines, lines_of}
use Rattle.flash_check.specs.Verdicts.{by_geometry, entries_verdict, lines_verdict, verdict_on}
use Rattle.flash_streams.proofs.LineCuts.{lines_cut, lines-cut}

-- more bytes than a journal may have
pub on_long : (bytes : List ℕ) → 16777216 < length bytes → verdict_on bytes ≡ BadLine 0
on_long bytes long =
    let over : nat_lt 16777216 (length bytes) ≡ true = grind (arith, nat_tests) in
    ap (λ t. if t then BadLine 0 else lines_verdict (lines_of bytes).whole (lines_of bytes).rest) over

-- where the bytes aren't too many, their lines decide
pub by_lines : (bytes : List ℕ) → length bytes ≤ 16777216 → verdict_on bytes ≡ lines_verdict (lines_of bytes).whole (lines_of bytes).rest
by_lines bytes small =
    let in_size : nat_lt 16777216 (length bytes) ≡ false = grind (arith, nat_tests) in
    ap (λ t. if t then BadLine 0 else lines_verdict (lines_of bytes).whole (lines_of bytes).rest) in_size

-- bytes without a line feed
pub on_no_line : (bytes : List ℕ) → length bytes ≤ 16777216 → None ≡ cut_at 10 bytes → BadLine 1 ≡ verdict_on bytes
on_no_line bytes small cut =
    sym (by_lines bytes small ∙ ap (λ (l : Lines). lines_verdict l.whole l.rest) (lines-cut bytes ∙ ap (lines_cut bytes) (sym cut)))

module _ (bytes first_line rest : List ℕ) (small : length bytes ≤ 16777216) (cut : Some (first_line, rest) ≡ cut_at 10 bytes) where
  -- the answer by how the first line is read
  pub by_first_line : verdict_on bytes ≡ by_geometry (geometry_of_line first_line) (lines_of rest).whole (lines_of rest).rest
  by_first_line =
      by_lines bytes small ∙ ap (λ (l : Lines). lines_verdict l.whole l.rest) (lines-cut bytes ∙ ap (lines_cut bytes) (sym cut))

  -- a first line that is bad
  pub on_bad_first_line : (fault : HeadFault) → Err fault ≡ geometry_of_line first_line → BadLine 1 ≡ verdict_on bytes
  on_bad_first_line fault is =
      ap (λ (r : Result Geometry HeadFault). by_geometry r (lines_of rest).whole (lines_of rest).rest) is ∙ sym by_first_line

  -- the answer on the lines after a good one
  pub on_entries : (geometry : Geometry) → Ok geometry ≡ geometry_of_line first_line
      → entries_verdict geometry [] (lines_of rest).whole (lines_of rest).rest ≡ verdict_on bytes
  on_entries geometry is =
      ap (λ (r : Result Geometry HeadFault). by_geometry r (lines_of rest).whole (lines_of rest).rest) is ∙ sym by_first_line
