-- What is read of a geometry line that was printed.
use Rattle.std.specs.Prelude.{◌≡◌, ◌^◌, ◌<◌, Ok}
use Rattle.flash_names.specs.declared.geometry.Geometry.{Geometry}
use Rattle.flash_names.specs.Geometry.{check_result}
use Rattle.flash_entry.specs.GeometryLine.{geometry_of_line, geometry_words}

-- each number fits its field
pub record FitsFields (g : Geometry) : Type 0 where
  pub memory : g.memory < 2 ^ 64
  pub item_size : g.item_size < 2 ^ 32
  pub item_max : g.item_max < 2 ^ 32
  pub pages : g.pages < 2 ^ 32
  pub page_size : g.page_size < 2 ^ 32
  pub buffer_size : g.buffer_size < 2 ^ 32
  pub buffers : g.buffers < 2 ^ 32
  pub compact_under : g.compact_under < 2 ^ 32
  pub drop_under : g.drop_under < 2 ^ 32
  pub max_frag : g.max_frag < 2 ^ 32
  pub recache : g.recache < 2 ^ 32

-- the line that is printed of a geometry that keeps its rules is read as that geometry
abbrev pub GeometryLinesAreReadBack : Type 0
GeometryLinesAreReadBack =
    (g : Geometry) → FitsFields g → check_result g ≡ Ok tt → geometry_of_line (geometry_words g) ≡ Ok g
