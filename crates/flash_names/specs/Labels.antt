-- Labels that are the same.
use Rattle.std.specs.Prelude.{Bool, ◌&&◌, nat_eq}
use Rattle.flash_names.specs.declared.place.Label.{Label}

-- the same page with the same version
abbrev pub same_label : Label → Label → Bool
same_label one other = nat_eq one.page other.page && nat_eq one.version other.version
