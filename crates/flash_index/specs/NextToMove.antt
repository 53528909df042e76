-- Which key's item moves to flash next.
use Rattle.std.specs.Prelude.{ℕ, ◌+◌, Bool, false, ◌&&◌, not, nat_le, List, ◌++◌, map, reverse, length, Option, None, Some, is_none}
use Rattle.std.specs.List.{find}
use Rattle.std.specs.FinMap.{get}
use Rattle.flash_machine.specs.Item.{Item}
use Rattle.flash_machine.specs.Cache.{Cache, Items, first_cache}
use Rattle.flash_machine.specs.Live.{is_expired_item}
use Rattle.flash_index.specs.declared.move_rule.MoveBounds.{MoveBounds}
use Rattle.flash_index.specs.declared.move_rule.MoveRule.{MoveRule}
use Rattle.flash_index.specs.KeyLists.{KeyCard, KeyLists}

-- a cache of the rule's moment and flush mark
abbrev pub cache_at : MoveRule → Cache
cache_at rule = record first_cache { now = rule.moment; flush_mark = rule.flush_mark }

-- the bounds of the sizes
abbrev pub bounds_of : MoveRule → MoveBounds
bounds_of rule = record { least = rule.least; most = rule.most }

-- whether the numbers of bytes of a key and a value are within the bounds
abbrev pub is_within : MoveBounds → ℕ → ℕ → Bool
is_within bounds key value = nat_le bounds.least value && nat_le (32 + key + value) bounds.most

-- whether the key's item can move as long as it lives: its value is in memory, and it is within the bounds
abbrev pub can_move : MoveBounds → List ℕ → Item → Bool
can_move bounds key item = is_none item.label && is_within bounds (length key) (length item.value)

-- whether the key's item may move: it isn't dead, and it can move
abbrev pub may_move : MoveRule → List ℕ → Item → Bool
may_move rule key item = not (is_expired_item (cache_at rule) item) && can_move (bounds_of rule) key item

-- whether there is an item, and it may move
abbrev pub some_may_move : MoveRule → List ℕ → Option Item → Bool
some_may_move rule key None = false
some_may_move rule key (Some item) = may_move rule key item

-- the keys in the order in which they are to move: from the last of COLD, then of WARM, then of HOT, to the front
abbrev pub keys_from_last : KeyLists → List (List ℕ)
keys_from_last lists = map (λ card. card.key) (reverse lists.cold ++ (reverse lists.warm ++ reverse lists.hot))

-- the first of these keys whose item may move
abbrev pub next_key_to_move : MoveRule → Items → KeyLists → Option (List ℕ)
next_key_to_move rule items lists = find (λ key. some_may_move rule key (get items key)) (keys_from_last lists)
