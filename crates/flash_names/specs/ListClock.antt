-- What a clock over a list has given.
use Rattle.std.specs.Prelude.{ℕ, ◌-◌, ◌^◌, List, Option, Some, None, nat_lt, if◌then◌else◌}
use Rattle.flash_names.specs.declared.clock.ListClock.{ListClock}
use Rattle.flash_names.specs.Clock.{readings}

-- the numbers that it gives one after the other
abbrev pub numbers_of : ListClock → List ℕ
numbers_of clock = clock.numbers.items

-- how many it has given, up to 2^64 - 1
abbrev pub calls_of : ListClock → ℕ
calls_of clock = clock.calls

-- what a clock over these numbers tells after so many calls: its readings, and nothing once its count has stopped
abbrev pub readings_told : List ℕ → ℕ → Option (List ℕ)
readings_told numbers calls = if nat_lt calls (2 ^ 64 - 1) then Some (readings numbers calls) else None

-- what it has given, where it tells
abbrev pub given_by : ListClock → Option (List ℕ)
given_by clock = readings_told (numbers_of clock) (calls_of clock)
