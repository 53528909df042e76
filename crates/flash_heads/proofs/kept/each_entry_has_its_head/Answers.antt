use Rattle.flash_heads.proofs.Hiding.{entries_hidden}
use Rattle.flash_heads.proofs.kept.each_entry_has_its_head.Goals as goal

pub returns : goal.returns
returns _ = λ c. entries_hidden c.items
