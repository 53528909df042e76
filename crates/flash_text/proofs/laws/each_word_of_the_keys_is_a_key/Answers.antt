use Rattle.std.proofs.Common.{◌≡◌, Some, sym, subst}
use Rattle.flash_text.specs.declared.text.Line.{Line}
use Rattle.flash_text.specs.Said.{Said}
use Rattle.flash_text.specs.Form.{form_of}
use Rattle.flash_text.specs.LineLaws.{said_in}
use Rattle.flash_text.proofs.Causes.{said_is}
use Rattle.flash_text.proofs.LinesRead.{of_line}
use Rattle.flash_text.proofs.Ranges.{AreKeys, found_in_range, said_keys}
use Rattle.flash_text.proofs.laws.each_word_of_the_keys_is_a_key.Goals as goal

abbrev HasKeys : Line → Type 0
HasKeys line = (said : Said) → said_in line ≡ Some said → AreKeys said.keys

pub returns : goal.returns
returns c = λ item_max line. of_line HasKeys item_max line (record {
  unknown = λ said is. absurd (cc is);
  answered = λ verb rest fields found said is.
      subst (λ (s : Said). AreKeys s.keys) (sym (said_is item_max verb fields said is).0)
      (said_keys verb fields (found_in_range (form_of verb) rest fields found));
})
