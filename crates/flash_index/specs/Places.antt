-- Where the values are that are on flash.
use Rattle.std.specs.Prelude.{ℕ, List, Option, None, Some}
use Rattle.std.specs.Ordering.{nat_cmp}
use Rattle.std.specs.Cmp.Lexicographic.{slice_cmp}
use Rattle.std.specs.FinMap.{FinMap, insert, remove}
use Rattle.flash_names.specs.declared.place.Place.{Place}
use Rattle.flash_items.specs.declared.item.Body.{Body}
use Rattle.flash_items.specs.declared.item.Body.TheVariants.{Here, Away}

-- the place of each key's value that is on flash
abbrev pub Places : Type 0
Places = FinMap (slice_cmp nat_cmp) Place

-- the place of a value, where it is on flash
abbrev pub place_of : Body → Option Place
place_of (Here value) = None
place_of (Away place) = Some place

-- the places with this one under the key, or with none under it
abbrev pub with_place : List ℕ → Option Place → Places → Places
with_place key None places = remove places key
with_place key (Some place) places = insert places key place
