use Rattle.flash_index.proofs.ListLaws.{put_listed}
use Rattle.flash_index.proofs.laws.each_put_is_listed.Goals as goal

pub returns : goal.returns
returns c = λ items lists key item listed. put_listed items lists listed key item
