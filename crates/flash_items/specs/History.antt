-- Lists of calls: when each may be made, what is after it, and what they leave of a key.
use Rattle.std.specs.Prelude.{◌≡◌, ℕ, Bool, List, [], ◌∷◌, Option, None, Some, is_some, if◌then◌else◌}
use Rattle.std.specs.Ordering.{nat_cmp, eq_by_cmp}
use Rattle.std.specs.Cmp.Lexicographic.{slice_cmp}
use Rattle.std.specs.FinMap.{get, insert, remove}
use Rattle.flash_names.specs.CallLists.{state_after, AreAllowed}
use Rattle.flash_names.specs.declared.place.ItemId.{ItemId}
use Rattle.flash_lru.specs.Lists.{cards_of}
use Rattle.flash_lru.specs.Moves.{removed, touched}
use Rattle.flash_lru.specs.Juggle.{next_move, with_move}
use Rattle.flash_items.specs.declared.item.Body.{Body}
use Rattle.flash_items.specs.declared.item.Item.{Item}
use Rattle.flash_items.specs.ItemsState.{ItemsState, item_at, HasItem, IsAt, AreSized}
use Rattle.flash_items.specs.Calls.{at_front, body_set, use_set, replaced, with_lists}

-- the calls that change the items. What a call chooses is given with it: the room that is left, and a new id. So is the
-- item that an id has, where it counts.
pub data Call : Type 0 where
  reserves : ℕ → ℕ → Call
  inserts : ItemId → Item → ℕ → Call
  replaces : ItemId → Item → Call
  removes : ItemId → Item → ℕ → Call
  sets_body : ItemId → Item → Body → Call
  sets_use : ItemId → Item → Option ℕ → Bool → ℕ → Call
  touches : ItemId → Call
  juggles : Call

-- neither the key nor the id is there
pub record IsNew (s : ItemsState) (id : ItemId) (item : Item) : Type 0 where
  pub absent : get s.ids item.key ≡ None
  pub fresh : item_at s id ≡ None

-- the call may be made
abbrev pub Allowed : ItemsState → Call → Type 0
Allowed s (reserves spare cards) = Unit {0}
Allowed s (inserts id item spare) = IsNew s id item
Allowed s (replaces id item) = HasItem s id
Allowed s (removes id item spare) = IsAt s id item
Allowed s (sets_body id item body) = IsAt s id item
Allowed s (sets_use id item deadline fetched access) = IsAt s id item
Allowed s (touches id) = HasItem s id
Allowed s juggles = Unit {0}

-- the items after the call
abbrev pub after : Call → ItemsState → ItemsState
after (reserves spare cards) s = record s { lists = record s.lists { spare = cards }; spare = spare }
after (inserts id item spare) s = record {
  ids = insert s.ids item.key id.key;
  items = insert s.items id.key item;
  lists = at_front id item s;
  spare = spare;
}
after (replaces id item) s = replaced id item s
after (removes id item spare) s = record {
  ids = remove s.ids item.key;
  items = remove s.items id.key;
  lists = removed id s.lists;
  spare = spare;
}
after (sets_body id item body) s = body_set id item body s
after (sets_use id item deadline fetched access) s = use_set id item deadline fetched access s
after (touches id) s = with_lists (touched id s.lists) s
after juggles s = with_lists (with_move (next_move s.lists) s.lists) s

-- each of the calls may be made when it comes
abbrev pub AllAllowed : ItemsState → List Call → Type 0
AllAllowed s calls = AreAllowed Allowed after s calls

-- the items after the calls, the first one first
abbrev pub after_all : List Call → ItemsState → ItemsState
after_all calls s = state_after after calls s

-- the two keys have the same bytes
abbrev pub same_key : List ℕ → List ℕ → Bool
same_key a b = eq_by_cmp (slice_cmp nat_cmp) a b

-- the key's id after the call, where it had this one before: an insert of the key gives one, and a remove takes it
abbrev pub id_after : List ℕ → Call → Option ℕ → Option ℕ
id_after key (reserves spare cards) was = was
id_after key (inserts id item spare) was = if same_key key item.key then Some id.key else was
id_after key (replaces id item) was = was
id_after key (removes id item spare) was = if same_key key item.key then None else was
id_after key (sets_body id item body) was = was
id_after key (sets_use id item deadline fetched access) was = was
id_after key (touches id) was = was
id_after key juggles was = was

-- the id that the last insert of the key gave; `None` where a remove of the key came after it; and the one that the key
-- had before where no insert or remove names it
abbrev pub last_id : List ℕ → List Call → Option ℕ → Option ℕ
last_id key [] was = was
last_id key (call ∷ calls) was = last_id key calls (id_after key call was)

-- each item has one card in the three lists together, of the item's size, and nothing else has a card
pub record IsListed (s : ItemsState) : Type 0 where
  pub one : (id : ItemId) → cards_of id s.lists ≡ (if is_some (item_at s id) then 1 else 0)
  pub sized : AreSized s.items s.lists.hot × AreSized s.items s.lists.warm × AreSized s.items s.lists.cold
