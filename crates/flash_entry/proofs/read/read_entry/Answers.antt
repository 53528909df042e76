use Rattle.flash_entry.proofs.SoundEntries.{if_entry}
use Rattle.flash_entry.proofs.read.read_entry.Goals as goal

-- a call of `whole` at the words of the line
pub returns-clause-fits : goal.returns-clause-fits
returns-clause-fits c =
    if_entry c.args.line.now c.new.result c.whole.new.words c.whole.result c.new.ensures c.whole.ensures
