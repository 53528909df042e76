use Rattle.std.proofs.Common.{◌+◌, ◌≤◌, length}
use Rattle.flash_check.proofs.Deciding.{Decides}
use Rattle.flash_check.proofs.check.check_entries.Given as goal

-- the lines that are left are decided as all lines are
abbrev pub invariant-lines : goal.invariant-lines
invariant-lines l = record {
  going : Decides l.machine l.fn.geometry l.entries l.left l.fn.bytes;
  few : l.entries + length l.left ≤ length l.fn.bytes;
  small : length l.fn.bytes ≤ 16777216;
}

abbrev pub decreases-lines : goal.decreases-lines
decreases-lines l = length l.left
