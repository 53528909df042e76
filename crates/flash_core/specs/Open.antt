-- Why a store isn't opened.
use Rattle.std.specs.Prelude.{◌≡◌, Err}
use Rattle.flash_names.specs.declared.geometry.Geometry.{Geometry}
use Rattle.flash_names.specs.Geometry.{check_result}
use Rattle.flash_core.specs.declared.state.OpenWhy.{OpenWhy}
use Rattle.flash_core.specs.declared.state.OpenWhy.TheVariants.{BadGeometry, NoMemory}

-- the geometry's first broken rule, exactly; nothing of out of memory
abbrev pub IsRefusedFor : Geometry → OpenWhy → Type 0
IsRefusedFor g (BadGeometry rule) = check_result g ≡ Err (record { rule = rule })
IsRefusedFor g NoMemory = Unit {0}
