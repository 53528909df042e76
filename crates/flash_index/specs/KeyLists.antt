-- The three lists of the items' keys, and what calls make of them.
use Rattle.std.specs.Prelude.{ℕ, ◌+◌, Bool, true, false, not, List, [], ◌∷◌, map, filter, count_by, if◌then◌else◌}
use Rattle.std.specs.Str.{bytes_eq}
use Rattle.flash_lru.specs.declared.segment.Segment.{Segment}
use Rattle.flash_lru.specs.declared.segment.Segment.TheVariants.{Hot, Warm, Cold}

-- an item's place in a list: its key, its size in bytes, and whether it was used since it came there
pub record KeyCard : Type 0 where
  pub key : List ℕ
  pub size : ℕ
  pub active : Bool

-- the three lists, front first
pub record KeyLists : Type 0 where
  pub hot : List KeyCard
  pub warm : List KeyCard
  pub cold : List KeyCard

abbrev pub empty_lists : KeyLists
empty_lists = record { hot = []; warm = []; cold = [] }

-- the list of a segment
abbrev pub list_of : Segment → KeyLists → List KeyCard
list_of Hot lists = lists.hot
list_of Warm lists = lists.warm
list_of Cold lists = lists.cold

-- whether the card is this key's
abbrev pub is_of : List ℕ → KeyCard → Bool
is_of key card = bytes_eq key card.key

-- how many cards of the three lists are this key's
abbrev pub cards_of : List ℕ → KeyLists → ℕ
cards_of key lists =
    count_by (is_of key) lists.hot + count_by (is_of key) lists.warm + count_by (is_of key) lists.cold

-- a card that is not active
abbrev pub idle : List ℕ → ℕ → KeyCard
idle key size = record { key = key; size = size; active = false }

-- the cards but for the key's
abbrev pub without : List ℕ → List KeyCard → List KeyCard
without key cards = filter (λ card. not (is_of key card)) cards

-- the key's card is taken away
abbrev pub removed : List ℕ → KeyLists → KeyLists
removed key lists =
    record { hot = without key lists.hot; warm = without key lists.warm; cold = without key lists.cold }

-- the card is put at a segment's front
abbrev pub put_front : Segment → KeyCard → KeyLists → KeyLists
put_front Hot card lists = record lists { hot = card ∷ lists.hot }
put_front Warm card lists = record lists { warm = card ∷ lists.warm }
put_front Cold card lists = record lists { cold = card ∷ lists.cold }

-- the key's card, not active, is at a segment's front and nowhere else
abbrev pub moved : Segment → List ℕ → ℕ → KeyLists → KeyLists
moved segment key size lists = put_front segment (idle key size) (removed key lists)

-- the cards with the key's active
abbrev pub with_active : List ℕ → List KeyCard → List KeyCard
with_active key cards = map (λ card. if is_of key card then record card { active = true } else card) cards

-- the cards with the key's of this size
abbrev pub with_size : List ℕ → ℕ → List KeyCard → List KeyCard
with_size key size cards = map (λ card. if is_of key card then record card { size = size } else card) cards

-- the key's card has this size
abbrev pub resized : List ℕ → ℕ → KeyLists → KeyLists
resized key size lists = record {
  hot = with_size key size lists.hot;
  warm = with_size key size lists.warm;
  cold = with_size key size lists.cold;
}

-- the key's card is active
abbrev pub touched : List ℕ → KeyLists → KeyLists
touched key lists = record {
  hot = with_active key lists.hot;
  warm = with_active key lists.warm;
  cold = with_active key lists.cold;
}
