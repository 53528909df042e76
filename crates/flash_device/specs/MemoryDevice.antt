-- What a device in memory has.
use Rattle.flash_names.specs.FaultPlan.{Plan}
use Rattle.flash_device.specs.Memory.{Held}
use Rattle.flash_device.specs.declared.memory_device.MemoryDevice.{MemoryDevice}

-- its pages
abbrev pub memory_of : MemoryDevice → Held
memory_of device = device.memory

-- its plan: the calls that fail, and what it has counted
abbrev pub plan_of : MemoryDevice → Plan
plan_of device = device.plan
