-- Which keys are last, and which is before another.
use Rattle.std.specs.Prelude.{ℕ, List, [], ◌∷◌, Option, None, Some, option_map, if◌then◌else◌}
use Rattle.std.specs.List.{last_or}
use Rattle.std.specs.Option.{option_or}
use Rattle.flash_index.specs.KeyLists.{KeyCard, KeyLists, is_of}

-- the last card of a list
abbrev pub last_card : List KeyCard → Option KeyCard
last_card cards = last_or None cards

-- the key of the last card
abbrev pub last_key : List KeyCard → Option (List ℕ)
last_key cards = option_map (λ card. card.key) (last_card cards)

-- the key whose item leaves memory next: the last of COLD, else of WARM, else of HOT
abbrev pub last_out : KeyLists → Option (List ℕ)
last_out lists = option_or (last_key lists.cold) (option_or (last_key lists.warm) (last_key lists.hot))

-- the key directly before this one in a list, where the one before the list is given
abbrev pub before_from : Option (List ℕ) → List ℕ → List KeyCard → Option (List ℕ)
before_from previous key [] = None
before_from previous key (card ∷ cards) = if is_of key card then previous else before_from (Some card.key) key cards

-- the key directly before this one in its list
abbrev pub before : List ℕ → KeyLists → Option (List ℕ)
before key lists =
    option_or (before_from None key lists.hot)
    (option_or (before_from None key lists.warm) (before_from None key lists.cold))
