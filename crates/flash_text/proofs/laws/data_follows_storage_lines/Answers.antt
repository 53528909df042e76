use Rattle.flash_text.specs.declared.text.Refusal.TheVariants.{Unknown}
use Rattle.flash_text.specs.LineLaws.{DataFollows}
use Rattle.flash_text.proofs.Causes.{answer_follows, refused_follows}
use Rattle.flash_text.proofs.LinesRead.{of_line}
use Rattle.flash_text.proofs.laws.data_follows_storage_lines.Goals as goal

pub returns : goal.returns
returns c = λ item_max line. of_line DataFollows item_max line (record {
  unknown = refused_follows Unknown 0;
  answered = λ verb rest fields is. answer_follows item_max verb fields;
})
