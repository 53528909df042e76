-- What a device behind a gate has.
use Rattle.std.specs.Prelude.{ℕ}
use Rattle.flash_device.specs.declared.gated_device.GatedDevice.{GatedDevice}

-- the device that it holds back
abbrev pub device_of : {D : Type 0} → GatedDevice D → D
device_of gated = gated.device

-- the most turns that a read waits
abbrev pub turns_of : {D : Type 0} → GatedDevice D → ℕ
turns_of gated = gated.turns

-- the faults that it has counted
abbrev pub faults_of : {D : Type 0} → GatedDevice D → ℕ
faults_of gated = gated.faults
