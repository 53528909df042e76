use Rattle.std.proofs.Common.{◌≡◌, true, List}
use Rattle.flash_names.specs.declared.geometry.Geometry.{Geometry}
use Rattle.flash_entry.specs.declared.entry.Entry.{Entry}
use Rattle.flash_machine.specs.Writes.{are_written}
use Rattle.flash_machine.specs.Followed.{FollowsWrites}
use Rattle.flash_machine.proofs.machine.write_table.WriteTable.is_written.Given as goal

-- each block so far is written
abbrev pub invariant-scan : goal.invariant-scan
invariant-scan l = (g : Geometry) (h : List Entry) → FollowsWrites l.self g h → are_written g.buffer_size l.index l.label h ≡ true
