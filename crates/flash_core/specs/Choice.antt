-- What a store chooses to do with a value.
use Rattle.std.specs.Prelude.{ℕ, ◌+◌, List, Option, None, Some}
use Rattle.std.specs.Option.{option_map}
use Rattle.flash_names.specs.declared.geometry.Geometry.{Geometry}
use Rattle.flash_entry.specs.declared.ask.Put.{Put}
use Rattle.flash_entry.specs.declared.answer.Stored.{Stored}
use Rattle.flash_entry.specs.declared.answer.Stored.TheVariants as stored
use Rattle.flash_items.specs.declared.item.Item as code
use Rattle.flash_index.specs.Known.{known_item}
use Rattle.flash_machine.specs.Item.{Item}
use Rattle.flash_machine.specs.Cache.{Cache}
use Rattle.flash_machine.specs.Storing.{stored_item, refusal}
use Rattle.flash_core.specs.declared.choice.Choice.{Choice}

-- the answer, the key and the item that is stored if one is, and the last CAS number from then on
abbrev pub ChoiceParts : Type 0
ChoiceParts = Stored × (Option (List ℕ × Item) × ℕ)

-- what is chosen: the refusal, or this item under the next CAS number
abbrev pub choice_from : Option Stored → ℕ → List ℕ × Item → ChoiceParts
choice_from (Some refusal) last_cas pair = (refusal, (None, last_cas))
choice_from None last_cas pair = (stored.Stored (last_cas + 1), (Some pair, last_cas + 1))

-- its key and the item
abbrev pub pair_of : code.Item → List ℕ × Item
pair_of item = (item.key, known_item item)

-- a choice of the code, by the same parts
abbrev pub parts_of_choice : Choice → ChoiceParts
parts_of_choice choice = (choice.answer, (option_map pair_of choice.item, choice.last_cas))

-- what a store does with a value, by the live item under its key
abbrev pub choice_of : Geometry → Cache → Put → Option Item → ChoiceParts
choice_of g c put live = choice_from (refusal g c put live) c.last_cas (put.key, stored_item c put put.mode live)
