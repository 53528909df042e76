use Rattle.flash_reply.proofs.WholeLines.{whole_lines}
use Rattle.flash_reply.proofs.laws.each_reply_is_whole_lines.Goals as goal

pub returns : goal.returns
returns c = whole_lines
