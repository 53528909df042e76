use Rattle.flash_device.proofs.Ranges.{rest_stays}
use Rattle.flash_device.proofs.laws.rest_stays.Goals as goal

pub returns : goal.returns
returns c = rest_stays
