-- The ten rules of a geometry.
use Rattle.std.specs.Prelude.{◌≡◌, ℕ, ◌+◌, ◌*◌, ◌%◌, ◌≤◌, Bool, ◌&&◌, nat_eq, nat_le, List, [], ◌∷◌, Option, None, Some, Result, Ok, Err, ⊤, if◌then◌else◌}
use Rattle.flash_names.specs.declared.geometry.Geometry.{Geometry}
use Rattle.flash_names.specs.declared.geometry.BadGeometry.{BadGeometry}

-- a page is whole blocks of the buffer's size, one at least, and not above 64 MiB
abbrev pub whole_blocks : ℕ → ℕ → Bool
whole_blocks page_size buffer_size =
    nat_le 1 buffer_size
    && nat_eq (page_size % buffer_size) 0
    && nat_le buffer_size page_size
    && nat_le page_size 67108864

-- whether each rule is kept, in their order
unfoldable pub rules_of : Geometry → List Bool
rules_of g =
    nat_le 64 g.item_size
    ∷ (nat_le 64 g.buffer_size && nat_le g.buffer_size 4194304)
    ∷ whole_blocks g.page_size g.buffer_size
    ∷ (nat_le 3 g.pages && nat_le g.pages 4096)
    ∷ (nat_le 3 g.buffers && nat_le g.buffers 64)
    ∷ (nat_le g.item_max 1047552 && nat_le (2 * g.item_max) g.memory)
    ∷ nat_le g.memory 4294967296
    ∷ nat_le g.compact_under g.pages
    ∷ nat_le g.drop_under g.pages
    ∷ nat_le g.max_frag 100
    ∷ []

-- the number of the first rule that is broken, where they are counted from n
abbrev pub first_broken : ℕ → List Bool → Option ℕ
first_broken n [] = None
first_broken n (kept ∷ rest) = if kept then first_broken (n + 1) rest else Some n

-- the answer where this is the first broken rule
abbrev pub result_of_rule : Option ℕ → Result ⊤ BadGeometry
result_of_rule None = Ok tt
result_of_rule (Some rule) = Err (record { rule = rule })

-- Ok where every rule is kept, and else the number of the first that is broken
abbrev pub check_result : Geometry → Result ⊤ BadGeometry
check_result g = result_of_rule (first_broken 1 (rules_of g))

-- a geometry that keeps the ten rules
pub record Passes (g : Geometry) : Type 0 where
  pub item_size : 64 ≤ g.item_size
  pub buffer_size : (64 ≤ g.buffer_size) × (g.buffer_size ≤ 4194304)
  pub page_size : (g.page_size % g.buffer_size ≡ 0) × (g.buffer_size ≤ g.page_size) × (g.page_size ≤ 67108864)
  pub pages : (3 ≤ g.pages) × (g.pages ≤ 4096)
  pub buffers : (3 ≤ g.buffers) × (g.buffers ≤ 64)
  pub item_max : (g.item_max ≤ 1047552) × (2 * g.item_max ≤ g.memory)
  pub memory : g.memory ≤ 4294967296
  pub compact_under : g.compact_under ≤ g.pages
  pub drop_under : g.drop_under ≤ g.pages
  pub max_frag : g.max_frag ≤ 100
