-- What a device in memory with a damaged byte has.
use Rattle.std.specs.Prelude.{ℕ}
use Rattle.flash_names.specs.FaultPlan.{Plan}
use Rattle.flash_device.specs.Memory.{Held}
use Rattle.flash_device.specs.declared.damaged_device.DamagedDevice.{DamagedDevice}

-- its pages, without the damage
abbrev pub memory_of : DamagedDevice → Held
memory_of device = device.device.memory

-- its plan: the calls that fail, and what it has counted
abbrev pub plan_of : DamagedDevice → Plan
plan_of device = device.device.plan

-- the page and the offset of the damaged byte
abbrev pub damage_of : DamagedDevice → ℕ × ℕ
damage_of device = (device.page, device.offset)
