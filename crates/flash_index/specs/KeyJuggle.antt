-- The move that keeps HOT and WARM within their shares of the memory.
use Rattle.std.specs.Prelude.{ℕ, ◌+◌, ◌*◌, ◌/◌, Bool, List, Option, None, Some, nat_lt, sum_by, if◌then◌else◌}
use Rattle.flash_lru.specs.declared.segment.Segment.{Segment}
use Rattle.flash_lru.specs.declared.segment.Segment.TheVariants.{Warm}
use Rattle.flash_lru.specs.Juggle.{goes_to}
use Rattle.flash_index.specs.KeyLists.{KeyCard, KeyLists, moved}
use Rattle.flash_index.specs.KeyEnds.{last_card}

-- a card, and the segment to whose front it goes
pub record KeyMove : Type 0 where
  pub card : KeyCard
  pub to : Segment

-- the bytes of a list's items
abbrev pub bytes : List KeyCard → ℕ
bytes cards = sum_by (λ card. card.size) cards

-- the bytes of all items
abbrev pub bytes_of : KeyLists → ℕ
bytes_of lists = bytes lists.hot + bytes lists.warm + bytes lists.cold

-- the list has more bytes than this many percent of the memory
abbrev pub exceeds : ℕ → ℕ → List KeyCard → Bool
exceeds memory percent cards = nat_lt (memory * percent / 100) (bytes cards)

-- the last card of a full segment, where it has one: an active one goes to WARM, another to COLD
abbrev pub from_full : Option KeyCard → Option KeyMove
from_full None = None
from_full (Some card) = Some (record { card = card; to = goes_to card.active })

-- the last card of COLD, where it is active, goes to WARM
abbrev pub from_cold : Option KeyCard → Option KeyMove
from_cold None = None
from_cold (Some card) = if card.active then Some (record { card = card; to = Warm }) else None

-- the first move that applies: HOT has 20 percent of the memory, and WARM 40
abbrev pub next_move : ℕ → KeyLists → Option KeyMove
next_move memory lists =
    if exceeds memory 20 lists.hot then from_full (last_card lists.hot)
    else (if exceeds memory 40 lists.warm then from_full (last_card lists.warm) else from_cold (last_card lists.cold))

-- after the move
abbrev pub with_move : Option KeyMove → KeyLists → KeyLists
with_move None lists = lists
with_move (Some move) lists = moved move.to move.card.key move.card.size lists
