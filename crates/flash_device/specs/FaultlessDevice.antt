-- What a device in memory has that never fails.
use Rattle.flash_device.specs.Memory.{Held}
use Rattle.flash_device.specs.declared.faultless_device.FaultlessDevice.{FaultlessDevice}

-- its pages
abbrev pub memory_of : FaultlessDevice → Held
memory_of device = device.memory
