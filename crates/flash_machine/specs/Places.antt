-- Ranges of bytes on flash.
use Rattle.std.specs.Prelude.{ℕ, ◌+◌, Bool, ◌&&◌, nat_eq, nat_le, nat_lt, max, min}
use Rattle.flash_names.specs.declared.place.Place.{Place}
use Rattle.flash_names.specs.Labels.{same_label}

-- whether a place has this byte of this page, whatever its version
abbrev pub has_byte : Place → ℕ → ℕ → Bool
has_byte place page offset =
    nat_eq place.label.page page && nat_le place.offset offset && nat_lt offset (place.offset + place.length)

-- whether some byte of the page is in both places
abbrev pub overlaps : Place → Place → Bool
overlaps one other =
    nat_eq one.label.page other.label.page
    && nat_lt (max one.offset other.offset) (min (one.offset + one.length) (other.offset + other.length))

-- whether both are the same range under the same label
abbrev pub same_place : Place → Place → Bool
same_place one other =
    same_label one.label other.label && nat_eq one.offset other.offset && nat_eq one.length other.length
