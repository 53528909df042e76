use Rattle.std.proofs.Common.{sym}
use Rattle.flash_names.proofs.Cuts.{cut_none, cut_there}
use Rattle.flash_names.proofs.words.cut_at_byte.Goals as goal

pub returns-in-None-clause-parts : goal.returns-in-None-clause-parts
returns-in-None-clause-parts c = sym (cut_none c.args.byte c.args.bytes.now c.in-None.ensures)

pub returns-in-Some-clause-parts : goal.returns-in-Some-clause-parts
returns-in-Some-clause-parts c =
    let first = c.in-Some.ensures in
    cut_there c.args.byte c.args.bytes.now c.in-Some.at first.0.high first.0.before first.1
