use Rattle.std.proofs.Common.{◌≡◌, ℕ, ◌*◌, ◌<◌, true, false, List}
use Rattle.flash_names.specs.declared.geometry.Geometry.{Geometry}
use Rattle.flash_entry.specs.declared.entry.Entry.{Entry}
use Rattle.flash_machine.specs.Writes.{has_good_write}
use Rattle.flash_machine.specs.Followed.{FollowsWrites}
use Rattle.flash_machine.specs.Followed.{is_reached}
use Rattle.flash_machine.proofs.machine.write_table.WriteTable.is_written_over.Given as goal

-- no block so far has bytes of the place and is written
abbrev pub invariant-scan : goal.invariant-scan
invariant-scan l = (g : Geometry) (h : List Entry) → FollowsWrites l.self g h → (index : ℕ) → index < l.index
    → is_reached g.buffer_size l.place (index * g.buffer_size) ≡ true → has_good_write l.place.label (index * g.buffer_size) h ≡ false
