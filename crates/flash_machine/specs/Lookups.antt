-- The lookups of items on flash that are open, and those that were closed, as a journal says them.
use Rattle.std.specs.Prelude.{ℕ, Bool, false, ◌&&◌, nat_eq, List, [], ◌∷◌, ◌++◌, Option, None, if◌then◌else◌}
use Rattle.std.specs.Option.{option_map, option_to_list}
use Rattle.std.specs.List.{list_any}
use Rattle.flash_names.specs.declared.place.Id.{Id}
use Rattle.flash_names.specs.declared.geometry.Geometry.{Geometry}
use Rattle.flash_entry.specs.declared.entry.Close.{Close}
use Rattle.flash_entry.specs.declared.entry.Residence.{Residence}
use Rattle.flash_entry.specs.declared.entry.Residence.TheVariants as residence
use Rattle.flash_entry.specs.declared.entry.Entry.{Entry}
use Rattle.flash_entry.specs.declared.entry.Entry.TheVariants as entries
use Rattle.flash_machine.specs.Item.{Item}
pub use Rattle.flash_machine.specs.declared.machine.lookup_table.Lookup.{Lookup}
use Rattle.flash_machine.specs.Cache.{Cache, first_cache}
use Rattle.flash_machine.specs.Live.{live_item}
use Rattle.flash_machine.specs.Steps.{next}

-- the same step of the same pass
abbrev pub same_id : Id → Id → Bool
same_id one other = nat_eq one.pass other.pass && nat_eq one.seq other.seq

-- the lookup that opens where the value is wanted and on flash
abbrev pub opened_by : Bool → List ℕ → Option Item → Residence → Option Lookup → Option Lookup
opened_by opens key live (residence.Away cas label) lookup =
    if opens then option_map (λ item. record { key = key; item = item; label = label }) live else lookup
opened_by opens key live _ lookup = lookup

-- the open lookup of a step after an entry, by the journal and the cache before it
abbrev pub lookup_step : Id → List Entry → Cache → Option Lookup → Entry → Option Lookup
lookup_step id journal c lookup (entries.Looked other key look residence) =
    opened_by (same_id other id && look.value) key (live_item journal c key) residence lookup
lookup_step id journal c lookup (entries.Closed other close) = if same_id other id then None else lookup
lookup_step id journal c lookup _ = lookup

abbrev pub lookup_from : Geometry → Id → List Entry → Cache → Option Lookup → List Entry → Option Lookup
lookup_from g id journal c lookup [] = lookup
lookup_from g id journal c lookup (e ∷ es) =
    lookup_from g id (journal ++ e ∷ []) (next g journal c e) (lookup_step id journal c lookup e) es

-- the open lookup of a step, if there is one
abbrev pub open_lookup : Geometry → Id → List Entry → Option Lookup
open_lookup g id journal = lookup_from g id [] first_cache None journal

-- the lookup that an entry closes, with how it was closed
abbrev pub closing_of : Geometry → List Entry → Entry → List (Lookup × Close)
closing_of g journal (entries.Closed id close) =
    option_to_list (option_map (λ lookup. (lookup, close)) (open_lookup g id journal))
closing_of g journal _ = []

abbrev pub closings_from : Geometry → List Entry → List Entry → List (Lookup × Close)
closings_from g journal [] = []
closings_from g journal (e ∷ es) = closing_of g journal e ++ closings_from g (journal ++ e ∷ []) es

-- the lookups that were closed, in order, each with how it was closed
abbrev pub closings : Geometry → List Entry → List (Lookup × Close)
closings g journal = closings_from g [] journal

-- whether an entry says that the step's value came from a buffer
abbrev pub is_from_buffer : Id → Entry → Bool
is_from_buffer id (entries.FromBuffer other place) = same_id other id
is_from_buffer id _ = false

abbrev pub was_from_buffer : Id → List Entry → Bool
was_from_buffer id journal = list_any (is_from_buffer id) journal
