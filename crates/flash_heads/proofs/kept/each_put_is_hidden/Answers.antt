use Rattle.flash_heads.proofs.Hiding.{put_hidden}
use Rattle.flash_heads.proofs.kept.each_put_is_hidden.Goals as goal

pub returns : goal.returns
returns c = put_hidden
