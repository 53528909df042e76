-- What a device over a file has.
use Rattle.std.specs.Prelude.{ℕ, Option}
use Rattle.flash_device.specs.declared.shape.Shape.{Shape}
use Rattle.flash_device.specs.declared.file_device.FileDevice.{FileDevice}

-- what it is prepared for, if it is
abbrev pub shape_of : {F : Type 0} → FileDevice F → Option Shape
shape_of device = device.shape

-- the faults that it has counted
abbrev pub faults_of : {F : Type 0} → FileDevice F → ℕ
faults_of device = device.faults
