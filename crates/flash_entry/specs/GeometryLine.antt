-- The first line of a script or a journal: the word `store` and the eleven numbers of a geometry.
use Rattle.std.specs.Prelude.{ℕ, ◌^◌, ◌&&◌, nat_eq, List, [], ◌∷◌, ◌++◌, length, slice_index, Option, None, Some, Result, Ok, Err, ⊤, codes, if◌then◌else◌}
use Rattle.std.specs.Option.{option_and_then, option_map}
use Rattle.std.specs.Str.{bytes_eq}
use Rattle.flash_names.specs.declared.geometry.Geometry.{Geometry}
use Rattle.flash_names.specs.declared.geometry.BadGeometry.{BadGeometry}
use Rattle.flash_names.specs.Geometry.{check_result}
use Rattle.flash_names.specs.Numbers.{number_of, if_below}
use Rattle.flash_names.specs.Words.{words}
use Rattle.flash_entry.specs.Text.{number, line_end}
use Rattle.flash_entry.specs.declared.geometry_line.HeadFault.{HeadFault}
use Rattle.flash_entry.specs.declared.geometry_line.HeadFault.TheVariants.{BadWord, BadNumber}
use Rattle.flash_entry.specs.declared.geometry_line.HeadFault.TheVariants as faults

-- the numbers of words that are all numbers
abbrev pub numbers_of : List (List ℕ) → Option (List ℕ)
numbers_of [] = Some []
numbers_of (w ∷ ws) = option_and_then (λ n. option_map (λ ns. n ∷ ns) (numbers_of ws)) (number_of w)

-- the n-th number, where it fits 32 bits
abbrev pub narrow_at : List ℕ → ℕ → Option ℕ
narrow_at ns n = if_below (2 ^ 32) (Some (slice_index ns n))

-- what the second gives for what the first has, where it has something
infixl 10 ◌>>=◌
abbrev pub ◌>>=◌ : {A B : Type 0} → Option A → (A → Option B) → Option B
None >>= f = None
(Some x) >>= f = f x

-- the geometry of eleven numbers in the order of its fields, where each fits its field
unfoldable pub geometry_from : List ℕ → Option Geometry
geometry_from ns = do
  item_size ← narrow_at ns 1
  item_max ← narrow_at ns 2
  pages ← narrow_at ns 3
  page_size ← narrow_at ns 4
  buffer_size ← narrow_at ns 5
  buffers ← narrow_at ns 6
  compact_under ← narrow_at ns 7
  drop_under ← narrow_at ns 8
  max_frag ← narrow_at ns 9
  recache ← narrow_at ns 10
  Some (record {
    memory = slice_index ns 0;
    item_size = item_size;
    item_max = item_max;
    pages = pages;
    page_size = page_size;
    buffer_size = buffer_size;
    buffers = buffers;
    compact_under = compact_under;
    drop_under = drop_under;
    max_frag = max_frag;
    recache = recache;
  })

-- a geometry that keeps its rules, or the first that it breaks
abbrev pub geometry_by_rules : Geometry → Result ⊤ BadGeometry → Result Geometry HeadFault
geometry_by_rules g (Ok _) = Ok g
geometry_by_rules g (Err bad) = Err (faults.Geometry bad.rule)

-- the same of a geometry that was read, where its numbers fit their fields
abbrev pub checked_geometry : Option Geometry → Result Geometry HeadFault
checked_geometry None = Err BadNumber
checked_geometry (Some g) = geometry_by_rules g (check_result g)

-- the geometry of a line of these words
abbrev pub geometry_of_words : List (List ℕ) → Result Geometry HeadFault
geometry_of_words [] = Err BadWord
geometry_of_words (w ∷ ws) =
    if bytes_eq w (codes "store") && nat_eq (length ws) 11 then checked_geometry
    (option_and_then geometry_from (numbers_of ws)) else Err BadWord

-- the geometry of a line without its line feed, or its first fault
abbrev pub geometry_of_line : List ℕ → Result Geometry HeadFault
geometry_of_line line = geometry_of_words (words line)

-- the words of the line of a geometry
abbrev pub geometry_words : Geometry → List ℕ
geometry_words g =
    codes "store" ++ number g.memory ++ number g.item_size ++ number g.item_max ++ number g.pages
    ++ number g.page_size ++ number g.buffer_size
    ++ number g.buffers ++ number g.compact_under ++ number g.drop_under ++ number g.max_frag ++ number g.recache

-- the line of a geometry, with its line feed
abbrev pub geometry_line : Geometry → List ℕ
geometry_line g = geometry_words g ++ line_end
