use Rattle.std.proofs.Common.{◌≤◌, length}
use Rattle.flash_device.proofs.file_device.read_whole.Given as goal

abbrev pub invariant-calls : goal.invariant-calls
invariant-calls g l = l.count ≤ length l.into
