use Rattle.flash_text.specs.Words.{without_return}
use Rattle.flash_meta.proofs.MetaRead.{read_from, words_back}
use Rattle.flash_meta.proofs.laws.each_line_gives_its_words_back.Goals as goal

pub returns : goal.returns
returns c = λ item_max line said read. words_back item_max (without_return line) said (read_from item_max line said read)
