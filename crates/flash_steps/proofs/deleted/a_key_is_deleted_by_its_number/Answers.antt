use Rattle.flash_steps.proofs.Deleting.{deleted_by_number}
use Rattle.flash_steps.proofs.deleted.a_key_is_deleted_by_its_number.Goals as goal

pub returns : goal.returns
returns c = deleted_by_number
