-- How `Segments` lays out its lists. No public clause cites this module.
use Rattle.std.specs.Prelude.{◌≡◌, ℕ, zero, suc, ◌+◌, ◌-◌, ◌^◌, ◌<◌, ◌≤◌, Bool, true, false, nat_eq, nat_lt, List, [], ◌∷◌, map, length, slice_index_or, slice_set, Option, None, Some, if◌then◌else◌}
use Rattle.flash_names.specs.declared.place.ItemId.{ItemId}
use Rattle.flash_lru.specs.declared.segment.Segment.{Segment}
use Rattle.flash_lru.specs.declared.segment.Segment.TheVariants.{Hot, Warm, Cold}
use Rattle.flash_lru.specs.declared.node.Node.{Node}
use Rattle.flash_lru.specs.declared.node.Home.{Home}
use Rattle.flash_lru.specs.declared.node.Home.TheVariants.{InHot, InWarm, InCold, Nowhere}
use Rattle.flash_lru.specs.declared.card.Card.{Card}
use Rattle.flash_lru.specs.Lists.{SegmentLists}

-- a node that is in no list
abbrev pub unused : Node
unused = record { prev = 0; next = 0; size = 0; home = Nowhere; active = false }

-- a node before anything is linked to it: the ends of HOT, WARM and COLD are 0, 1 and 2, each linked to the next
abbrev pub blank : ℕ → Node
blank number = record {
  prev = if nat_eq number 0 then 2 else (if nat_lt number 3 then number - 1 else 0);
  next = if nat_lt number 2 then number + 1 else 0;
  size = 0;
  home = Nowhere;
  active = false;
}

-- the node of a number
abbrev pub node_at : List Node → ℕ → Node
node_at nodes number = slice_index_or nodes number (blank number)

abbrev pub next_of : List Node → ℕ → ℕ
next_of nodes number = (node_at nodes number).next

abbrev pub prev_of : List Node → ℕ → ℕ
prev_of nodes number = (node_at nodes number).prev

abbrev pub home_of : List Node → ℕ → Home
home_of nodes number = (node_at nodes number).home

abbrev pub size_of : List Node → ℕ → ℕ
size_of nodes number = (node_at nodes number).size

-- the card of a number
abbrev pub card_at : List Node → ℕ → Card
card_at nodes number = record {
  item = record { key = number - 3 };
  size = size_of nodes number;
  active = (node_at nodes number).active;
}

abbrev pub cards_at : List Node → List ℕ → List Card
cards_at nodes numbers = map (card_at nodes) numbers

-- the item of a number, which an end hasn't
abbrev pub item_of : ℕ → Option ItemId
item_of number = if nat_lt number 3 then None else Some (record { key = number - 3 })

-- the card of a number, which an end hasn't
abbrev pub some_card : List Node → ℕ → Option Card
some_card nodes number = if nat_lt number 3 then None else Some (card_at nodes number)

-- the numbers from after this one up to an end, in so many steps at most
abbrev pub walk : ℕ → (ℕ → ℕ) → ℕ → List ℕ
walk zero next from = []
walk (suc steps) next from = if nat_lt (next from) 3 then [] else (next from ∷ walk steps next (next from))

-- the numbers after an end
abbrev pub walked : List Node → ℕ → List ℕ
walked nodes from = walk (length nodes) (next_of nodes) from

-- what a contract sees, where the lists have these numbers
abbrev pub lists_at : List Node → ℕ → List ℕ → List ℕ → List ℕ → SegmentLists
lists_at nodes memory hot warm cold = record {
  hot = cards_at nodes hot;
  warm = cards_at nodes warm;
  cold = cards_at nodes cold;
  spare = length nodes - 3;
  memory = memory;
}

-- what a contract sees of the nodes
abbrev pub seen : List Node → ℕ → SegmentLists
seen nodes memory = lists_at nodes memory (walked nodes 0) (walked nodes 1) (walked nodes 2)

-- from one number over these to another, each is linked to the next, and back
abbrev pub Path : (ℕ → ℕ) → (ℕ → ℕ) → ℕ → List ℕ → ℕ → Type 0
Path next prev from [] to = (next from ≡ to) × (prev to ≡ from)
Path next prev from (x ∷ xs) to = (next from ≡ x) × (prev x ≡ from) × Path next prev x xs to

-- how often a number is in the list
abbrev pub count_of : ℕ → List ℕ → ℕ
count_of number [] = 0
count_of number (x ∷ xs) = (if nat_eq x number then 1 else 0) + count_of number xs

-- the sum of the sizes of these numbers
abbrev pub weight : List Node → List ℕ → ℕ
weight nodes [] = 0
weight nodes (x ∷ xs) = size_of nodes x + weight nodes xs

-- 1 in HOT, else 0
abbrev pub in_hot : Home → ℕ
in_hot InHot = 1
in_hot InWarm = 0
in_hot InCold = 0
in_hot Nowhere = 0

-- 1 in WARM, else 0
abbrev pub in_warm : Home → ℕ
in_warm InHot = 0
in_warm InWarm = 1
in_warm InCold = 0
in_warm Nowhere = 0

-- 1 in COLD, else 0
abbrev pub in_cold : Home → ℕ
in_cold InHot = 0
in_cold InWarm = 0
in_cold InCold = 1
in_cold Nowhere = 0

-- whether it is a list
abbrev pub is_listed : Home → Bool
is_listed InHot = true
is_listed InWarm = true
is_listed InCold = true
is_listed Nowhere = false

-- the home of a segment's numbers
abbrev pub home_in : Segment → Home
home_in Hot = InHot
home_in Warm = InWarm
home_in Cold = InCold

-- the number of a segment's end
abbrev pub end_of : Segment → ℕ
end_of Hot = 0
end_of Warm = 1
end_of Cold = 2

-- the number of the end after a segment
abbrev pub end_after : Segment → ℕ
end_after Hot = 1
end_after Warm = 2
end_after Cold = 0

-- the nodes link these three lists, each from its end to the next one's, and each number is in the list of its home
pub record IsRing (nodes : List Node) (hot warm cold : List ℕ) : Type 0 where
  pub hot_path : Path (next_of nodes) (prev_of nodes) 0 hot 1
  pub warm_path : Path (next_of nodes) (prev_of nodes) 1 warm 2
  pub cold_path : Path (next_of nodes) (prev_of nodes) 2 cold 0
  pub hot_count : (x : ℕ) → count_of x hot ≡ in_hot (home_of nodes x)
  pub warm_count : (x : ℕ) → count_of x warm ≡ in_warm (home_of nodes x)
  pub cold_count : (x : ℕ) → count_of x cold ≡ in_cold (home_of nodes x)
  pub ends : (x : ℕ) → x < 3 → home_of nodes x ≡ Nowhere
  pub next_inside : (x bound : ℕ) → 3 ≤ bound → length nodes ≤ bound → next_of nodes x < bound
  pub prev_inside : (x bound : ℕ) → 3 ≤ bound → length nodes ≤ bound → prev_of nodes x < bound
  pub small : (x : ℕ) → size_of nodes x < 2 ^ 32

-- the nodes link these three lists, which have so many bytes
pub record Links (nodes : List Node) (hot_bytes warm_bytes cold_bytes : ℕ) (hot warm cold : List ℕ) : Type 0 where
  pub ring : IsRing nodes hot warm cold
  pub hot_sum : hot_bytes ≡ weight nodes hot
  pub warm_sum : warm_bytes ≡ weight nodes warm
  pub cold_sum : cold_bytes ≡ weight nodes cold
  pub short : length nodes ≤ 2 ^ 32

-- the nodes link the lists that are walked from the three ends
abbrev pub IsSound : List Node → ℕ → ℕ → ℕ → Type 0
IsSound nodes hot_bytes warm_bytes cold_bytes =
    Links nodes hot_bytes warm_bytes cold_bytes (walked nodes 0) (walked nodes 1) (walked nodes 2)

-- the number has a node, and so have those that it is linked to
pub record HasNode (nodes : List Node) (number : ℕ) : Type 0 where
  pub inside : number < length nodes
  pub next : next_of nodes number < length nodes
  pub prev : prev_of nodes number < length nodes
  pub short : length nodes ≤ 2 ^ 32

-- the node with another link to the next, or to the one before
abbrev pub with_next : ℕ → ℕ → List Node → List Node
with_next number next nodes = slice_set nodes number (record (node_at nodes number) { next = next })

abbrev pub with_prev : ℕ → ℕ → List Node → List Node
with_prev number prev nodes = slice_set nodes number (record (node_at nodes number) { prev = prev })

-- the two beside the number are linked to each other, and it is unused
abbrev pub unlinked : ℕ → List Node → List Node
unlinked x nodes =
    slice_set (with_prev (next_of nodes x) (prev_of nodes x)
    (with_next (prev_of nodes x) (next_of nodes x) nodes)) x unused

-- the number is linked in after an end
abbrev pub linked : ℕ → ℕ → ℕ → Home → List Node → List Node
linked x end size home nodes =
    slice_set (with_next end x (with_prev (next_of nodes end) x nodes)) x
    (record { prev = end; next = next_of nodes end; size = size; home = home; active = false })
