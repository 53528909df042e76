use Rattle.std.proofs.Common.{false}
use Rattle.std.proofs.lemmas.List.{get_or-replicate}
use Rattle.flash_meta.proofs.flag_words.no_letters.Goals as goal

pub returns : goal.returns
returns c = λ letter below. get_or-replicate 128 letter false false below
