-- Pages in memory.
use Rattle.std.specs.Prelude.{ℕ, List, replicate, Option, Some}
use Rattle.std.specs.Option.{ForSome}
use Rattle.flash_device.specs.declared.shape.Shape.{Shape}
use Rattle.flash_device.specs.Pages.{HasShape}

-- the bytes of each page, and the shape that they were made for, if they were
pub record Held : Type 0 where
  pub shape : Option Shape
  pub pages : List (List ℕ)

-- where there is a shape, the pages have it
abbrev pub IsFitted : Option Shape → List (List ℕ) → Type 0
IsFitted shape pages = ForSome shape (λ s. HasShape s pages)

-- pages of zero bytes
abbrev pub blank : Shape → Held
blank shape = record { shape = Some shape; pages = replicate shape.pages (replicate shape.page_size 0) }
