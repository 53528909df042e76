use Rattle.std.proofs.Common.{[]}
use Rattle.flash_commands.proofs.Going.{pieces_read}
use Rattle.flash_commands.proofs.laws.cuts_dont_matter.Goals as goal

pub returns : goal.returns
returns c = λ item_max pieces. pieces_read item_max [] pieces
