use Rattle.std.proofs.Common.{sym, ◌∙◌, ap}
use Rattle.flash_names.proofs.Cuts.{words-cut, words_cut}
use Rattle.flash_names.proofs.words.split_word.Goals as goal

pub returns-in-None : goal.returns-in-None
returns-in-None c = words-cut c.args.line.now ∙ ap (words_cut c.args.line.now) (sym c.in-None.ensures.parts)

pub returns-in-Some : goal.returns-in-Some
returns-in-Some c = words-cut c.args.line.now ∙ ap (words_cut c.args.line.now) (sym c.in-Some.ensures.parts)
