-- The pages of a device, and a range of one of them.
use Rattle.std.specs.Prelude.{◌≡◌, ℕ, ◌+◌, ◌<◌, ◌≤◌, List, [], ◌++◌, length, take, drop, get_or, set, Option}
use Rattle.std.specs.Option.{option_map}
use Rattle.flash_device.specs.declared.shape.Shape.{Shape}

-- the shape of so many pages of so many bytes each
abbrev pub shape_with : ℕ → ℕ → Shape
shape_with pages page_size = record { pages = pages; page_size = page_size }

-- so many pages, each of that size
pub record HasShape (shape : Shape) (pages : List (List ℕ)) : Type 0 where
  pub count : length pages ≡ shape.pages
  pub size : (page : ℕ) → page < shape.pages → length (get_or pages page []) ≡ shape.page_size

-- a range of n bytes that lies in a page
pub record Within (page offset n : ℕ) (shape : Shape) : Type 0 where
  pub counted : page < shape.pages
  pub inside : offset + n ≤ shape.page_size

-- the n bytes at a place
abbrev pub range_of : ℕ → ℕ → ℕ → List (List ℕ) → List ℕ
range_of page offset n pages = take n (drop offset (get_or pages page []))

-- a page after these bytes were put at an offset
abbrev pub put_at : ℕ → List ℕ → List ℕ → List ℕ
put_at offset bytes page = take offset page ++ (bytes ++ drop (offset + length bytes) page)

-- the pages after these bytes were put at an offset of one of them
abbrev pub pages_with : ℕ → ℕ → List ℕ → List (List ℕ) → List (List ℕ)
pages_with page offset bytes pages = set pages page (put_at offset bytes (get_or pages page []))

-- the pages that were told have these bytes in the range, and the rest is as it was
abbrev pub Holds : ℕ → ℕ → List ℕ → Option (List (List ℕ)) → Option (List (List ℕ)) → Type 0
Holds page offset bytes before now = now ≡ option_map (pages_with page offset bytes) before

-- the n bytes at the place are any, and the rest is as it was
abbrev pub Spoils : ℕ → ℕ → ℕ → Option (List (List ℕ)) → Option (List (List ℕ)) → Type 0
Spoils page offset n before now = (bytes : List ℕ) × (length bytes ≡ n) × Holds page offset bytes before now
