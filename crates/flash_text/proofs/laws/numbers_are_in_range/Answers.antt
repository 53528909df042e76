use Rattle.std.proofs.Common.{◌≡◌, ℕ, Some, sym, subst}
use Rattle.flash_text.specs.declared.text.Line.{Line}
use Rattle.flash_text.specs.Said.{Said}
use Rattle.flash_text.specs.Form.{form_of}
use Rattle.flash_text.specs.LineLaws.{said_in, IsInRange}
use Rattle.flash_text.proofs.Causes.{said_is}
use Rattle.flash_text.proofs.LinesRead.{of_line}
use Rattle.flash_text.proofs.Ranges.{found_in_range, said_in_range}
use Rattle.flash_text.proofs.laws.numbers_are_in_range.Goals as goal

abbrev InRange : ℕ → Line → Type 0
InRange item_max line = (said : Said) → said_in line ≡ Some said → IsInRange item_max said

pub returns : goal.returns
returns c = λ item_max line. of_line (InRange item_max) item_max line (record {
  unknown = λ said is. absurd (cc is);
  answered = λ verb rest fields found said is.
      let is_said = said_is item_max verb fields said is in
      let are = found_in_range (form_of verb) rest fields found in
      subst (IsInRange item_max) (sym is_said.0) (said_in_range item_max verb fields are is_said.1);
})
