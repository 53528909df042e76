-- What a machine tells of a live item.
use Rattle.std.specs.Prelude.{ℕ, List, Option}
use Rattle.flash_machine.specs.declared.machine.live.Live.{Live}

-- its flags, its CAS number, its deadline and its value
abbrev pub told : Live → ℕ × ℕ × Option ℕ × List ℕ
told live = (live.flags, live.cas, live.deadline, live.value.now)
