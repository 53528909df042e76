use Rattle.flash_steps.proofs.Deleting.{deleted}
use Rattle.flash_steps.proofs.deleted.a_deleted_key_has_no_item.Goals as goal

pub returns : goal.returns
returns c = deleted
