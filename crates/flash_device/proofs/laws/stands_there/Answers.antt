use Rattle.flash_device.proofs.Ranges.{keeps_shape, read_back}
use Rattle.flash_device.proofs.laws.stands_there.Goals as goal

pub returns-clause-shape : goal.returns-clause-shape
returns-clause-shape c = keeps_shape

pub returns-clause-range : goal.returns-clause-range
returns-clause-range c = read_back
