-- The move that keeps HOT and WARM within their shares of the memory.
use Rattle.std.specs.Prelude.{ℕ, ◌+◌, ◌*◌, ◌/◌, Bool, List, Option, None, Some, nat_lt, sum_by, if◌then◌else◌}
use Rattle.flash_names.specs.declared.place.ItemId.{ItemId}
use Rattle.flash_lru.specs.declared.segment.Segment.{Segment}
use Rattle.flash_lru.specs.declared.segment.Segment.TheVariants.{Warm, Cold}
use Rattle.flash_lru.specs.declared.card.Card.{Card}
use Rattle.flash_lru.specs.declared.card.Move.{Move}
use Rattle.flash_lru.specs.Lists.{SegmentLists}
use Rattle.flash_lru.specs.Moves.{moved}
use Rattle.flash_lru.specs.Ends.{last_card}

-- the bytes of a list
abbrev pub bytes : List Card → ℕ
bytes cards = sum_by (λ card. card.size) cards

-- the bytes of the three lists
abbrev pub load_of : SegmentLists → ℕ
load_of s = bytes s.hot + bytes s.warm + bytes s.cold

-- the list has more bytes than this many percent of the memory
abbrev pub exceeds : ℕ → SegmentLists → List Card → Bool
exceeds percent s cards = nat_lt (s.memory * percent / 100) (bytes cards)

-- where the last card of a full segment goes: an active one to WARM, another to COLD
abbrev pub goes_to : Bool → Segment
goes_to active = if active then Warm else Cold

-- the last card of a full segment, where it has one
abbrev pub from_full : Option Card → Option Move
from_full None = None
from_full (Some card) = Some (record { card = card; to = goes_to card.active })

-- the last card of COLD, where it is active
abbrev pub from_cold : Option Card → Option Move
from_cold None = None
from_cold (Some card) = if card.active then Some (record { card = card; to = Warm }) else None

-- the first move that applies
abbrev pub next_move : SegmentLists → Option Move
next_move s =
    if exceeds 20 s s.hot then from_full (last_card s.hot)
    else (if exceeds 40 s s.warm then from_full (last_card s.warm) else from_cold (last_card s.cold))

-- the item that moves
abbrev pub move_item : Option Move → Option ItemId
move_item None = None
move_item (Some move) = Some move.card.item

-- after the move
abbrev pub with_move : Option Move → SegmentLists → SegmentLists
with_move None s = s
with_move (Some move) s = moved move.to move.card.item move.card.size s
