-- What each call leaves, over what a contract sees.
use Rattle.std.proofs.Common.{◌≡◌, ℕ, true, cond, List, [], Option, Some, None, IsSome, is_some, option_map, unwrap_or, get_or, length, refl, sym, ◌∙◌, ap, subst, inl, inr, arith}
use Rattle.std.specs.FinMap.{get, insert}
use Rattle.std.proofs.lemmas.Bool.{cases_eq, cases_lt}
use Rattle.std.proofs.lemmas.List.{get_or_past}
use Rattle.std.proofs.lemmas.List.Sums.{sum_by-set}
use Rattle.slab.specs.Slab.{Slab, slab_len, with_value}
use Rattle.slab.specs.Slab.{get as slot_at}
use Rattle.flash_names.specs.declared.place.ItemId.{ItemId}
use Rattle.flash_lru.specs.declared.segment.Segment.{Segment}
use Rattle.flash_lru.specs.declared.segment.Segment.TheVariants.{Hot, Warm, Cold}
use Rattle.flash_lru.specs.declared.card.Move.{Move}
use Rattle.flash_lru.specs.Lists.{SegmentLists, HasCard, cards_of}
use Rattle.flash_lru.specs.Moves.{moved, touched, resized}
use Rattle.flash_lru.specs.Juggle.{next_move, with_move}
use Rattle.flash_table.specs.Table.{TableState}
use Rattle.flash_items.specs.declared.item.Item.{Item}
use Rattle.flash_items.specs.declared.item.Entry.{Entry}
use Rattle.flash_items.specs.Item.{with_key, item_size}
use Rattle.flash_items.specs.ItemsState.{Ids, ItemMap, ItemsState, HasItem, IsAt, item_at, size_at}
use Rattle.flash_items.specs.Calls.{with_item}
use Rattle.flash_items.specs.Joined.{item_of, items_in, spare_of, state_of, IsJoined}
use Rattle.flash_items.proofs.Entries.{get_items}
use Rattle.flash_items.proofs.Slots.{none_some, Sets, sets_of, size_set, size_set_else}
use Rattle.flash_items.proofs.CardLists.{sized_touched, sized_resized, sized_same}
use Rattle.flash_items.proofs.ListSteps.{AllSized, cards_moved_else, cards_moved_here, cards_changed, moved_sized, move_sized}
use Rattle.flash_items.proofs.Steps.{SameCards, some_of, one_value, all_sized, joined_lists, joined_put, put_items}

four_of : (ids : Ids) (a b : ItemMap) (lists : SegmentLists) (j k : ℕ) → a ≡ b → j ≡ k → (let s : ItemsState = record { ids = ids; items = a; lists = lists; spare = j } in s) ≡ record { ids = ids; items = b; lists = lists; spare = k }
four_of ids a b lists j k ea ej = cc

pub mapped_some : {X Y : Type 0} (f : X → Y) (o : Option X) → IsSome (option_map f o) → IsSome o
mapped_some {X} {Y} f None some = some
mapped_some {X} {Y} f (Some x) some = refl

module _ (t : TableState) (entries : Slab Entry) (lists : SegmentLists) (value : ItemsState) (joined : IsJoined t entries lists) (is : state_of t entries lists ≡ value) (id : ItemId) where
  item_read : item_at value id ≡ option_map (item_of t.keys) (slot_at entries id.key)
  item_read = ap (λ (s : ItemsState). get s.items id.key) (sym is) ∙ get_items t.keys entries.slots id.key

  pub slot_some : HasItem value id → IsSome (slot_at entries id.key)
  slot_some some = mapped_some (item_of t.keys) (slot_at entries id.key) (subst (λ (o : Option Item). IsSome o) item_read some)

  pub has_card : HasItem value id → HasCard lists id
  has_card some = (joined.carded id).1 (slot_some some)

  pub item_there : (entry : Entry) → slot_at entries id.key ≡ Some entry → IsAt value id (item_of t.keys entry)
  item_there entry at = item_read ∙ ap (option_map (item_of t.keys)) at

  pub item_is : (entry : Entry) → slot_at entries id.key ≡ Some entry → (item : Item) → IsAt value id item → item ≡ item_of t.keys entry
  item_is entry at item here = one_value (item_at value id) item (item_of t.keys entry) here (item_there entry at)

  pub item_named : (entry : Entry) (key : List ℕ) → slot_at entries id.key ≡ Some entry → get t.keys entry.key.number ≡ Some key → IsAt value id (with_key key entry.parts)
  item_named entry key at name = item_there entry at ∙ ap (λ (o : Option (List ℕ)). Some (with_key (unwrap_or o []) entry.parts)) name

  pub no_item : slot_at entries id.key ≡ None → item_at value id ≡ None
  no_item none = item_read ∙ ap (option_map (item_of t.keys)) none

  pub key_some : (entry : Entry) → slot_at entries id.key ≡ Some entry → IsSome (get t.keys entry.key.number)
  key_some entry at = let had = joined.named id.key entry at in some_of (get t.keys entry.key.number) had.0 had.1.name

-- the lists after a touch, and after a move
pub joined_touched : (t : TableState) (entries : Slab Entry) (lists : SegmentLists) (id : ItemId) → IsJoined t entries lists → IsJoined t entries (touched id lists)
joined_touched t entries lists id joined =
    joined_lists t entries lists (touched id lists) joined
    (λ other. (let same : cards_of other (touched id lists) ≡ cards_of other lists = cards_changed id other (λ card. record card { active = true }) (λ card. refl) lists in (λ h. omega (arith, same), λ h. omega (arith, same))))
    (record {
      hot = sized_touched (items_in t.keys entries.slots) id lists.hot joined.hot;
      warm = sized_touched (items_in t.keys entries.slots) id lists.warm joined.warm;
      cold = sized_touched (items_in t.keys entries.slots) id lists.cold joined.cold;
    })

pub same_moved : (segment : Segment) (id : ItemId) (size : ℕ) (lists : SegmentLists) → HasCard lists id → SameCards lists (moved segment id size lists)
same_moved segment id size lists card other = elim (cases_eq other.key id.key) [
  | inl here ↦ (
    λ _. subst (λ k. HasCard lists (record { key = k })) (sym here) card,
    λ _. subst (λ k. HasCard (moved segment id size lists) (record { key = k })) (sym here) (cards_moved_here segment id size lists),
  )
  | inr apart ↦ (let same = cards_moved_else segment id other size lists apart in (λ h. omega (arith, same), λ h. omega (arith, same)))
]

size_slot : (t : TableState) (entries : Slab Entry) (n size : ℕ) → size_at (items_in t.keys entries.slots) n ≡ Some size → IsSome (slot_at entries n)
size_slot t entries n size is =
    mapped_some (item_of t.keys) (slot_at entries n)
    (subst (λ (o : Option Item). IsSome o) (get_items t.keys entries.slots n)
    (mapped_some item_size (get (items_in t.keys entries.slots) n) (some_of _ size is)))

joined_moved_by : (t : TableState) (entries : Slab Entry) (lists : SegmentLists) → IsJoined t entries lists → (move : Option Move) → next_move lists ≡ move → IsJoined t entries (with_move move lists)
joined_moved_by t entries lists joined None is = joined
joined_moved_by t entries lists joined (Some move) is =
    let size = move_sized (items_in t.keys entries.slots) lists (all_sized t entries lists joined) move is in
    let card : HasCard lists move.card.item = (joined.carded move.card.item).1 (size_slot t entries move.card.item.key move.card.size size) in
    joined_lists t entries lists (moved move.to move.card.item move.card.size lists) joined (same_moved move.to move.card.item move.card.size lists card)
    (moved_sized move.to (items_in t.keys entries.slots) (items_in t.keys entries.slots) move.card.item move.card.size lists (λ n _. refl) size (all_sized t entries lists joined))

pub joined_juggled : (t : TableState) (entries : Slab Entry) (lists : SegmentLists) → IsJoined t entries lists → IsJoined t entries (with_move (next_move lists) lists)
joined_juggled t entries lists joined = joined_moved_by t entries lists joined (next_move lists) refl

spare_moved : (segment : Segment) (id : ItemId) (size : ℕ) (lists : SegmentLists) → (moved segment id size lists).spare ≡ lists.spare
spare_moved Hot id size lists = refl
spare_moved Warm id size lists = refl
spare_moved Cold id size lists = refl

spare_by : (move : Option Move) (lists : SegmentLists) → (with_move move lists).spare ≡ lists.spare
spare_by None lists = refl
spare_by (Some move) lists = spare_moved move.to move.card.item move.card.size lists

-- only the spare of the lists counts for that of the items
pub spare_same : (t : TableState) (a b : Slab Entry) (old new : SegmentLists) → slab_len b ≡ slab_len a → b.capacity ≡ a.capacity → b.vacant_key ≡ a.vacant_key → new.spare ≡ old.spare → spare_of t b new ≡ spare_of t a old
spare_same t a b old new len room next spare = rw (len, room, next, spare) refl

pub state_juggled : (t : TableState) (entries : Slab Entry) (lists : SegmentLists) (value : ItemsState) → state_of t entries lists ≡ value → state_of t entries (with_move (next_move lists) lists) ≡ record value { lists = with_move (next_move value.lists) value.lists }
state_juggled t entries lists value is =
    subst (λ (v : ItemsState). state_of t entries (with_move (next_move lists) lists) ≡ record v { lists = with_move (next_move v.lists) v.lists }) is
    (ap (λ k. let s : ItemsState = record { ids = t.map; items = items_in t.keys entries.slots; lists = with_move (next_move lists) lists; spare = k } in s)
    (spare_same t entries entries lists (with_move (next_move lists) lists) refl refl refl (spare_by (next_move lists) lists)))

-- the number of entries stays where one is changed
pub len_put : (entries : Slab Entry) (n : ℕ) (was entry : Entry) → slot_at entries n ≡ Some was → slab_len (with_value entries n entry) ≡ slab_len entries
len_put entries n was entry at = elim (cases_lt n (length entries.slots)) [
  | inl inside ↦
      (let one : ℕ = 1 in
      let zero : ℕ = 0 in
      let before : cond (is_some (get_or entries.slots n None)) one zero ≡ one = ap (λ (o : Option Entry). cond (is_some o) one zero) at in
      omega (arith, before, sum_by-set (λ (o : Option Entry). cond (is_some o) 1 0) entries.slots n (Some entry) None inside))
  | inr past ↦ absurd (none_some was (sym (get_or_past entries.slots n None past) ∙ at))
]

-- an entry's parts are changed, and the lists with it
module _ (t : TableState) (entries : Slab Entry) (lists new : SegmentLists) (value : ItemsState) (joined : IsJoined t entries lists) (is : state_of t entries lists ≡ value) (id : ItemId) (was entry : Entry) (at : slot_at entries id.key ≡ Some was) (name : entry.key ≡ was.key) (same : SameCards lists new) where
  sets_entry : Sets entries.slots (with_value entries id.key entry).slots id.key (Some entry)
  sets_entry = sets_of entries.slots id.key (Some was) (Some entry) at refl

  pub put_joined : AllSized (insert (items_in t.keys entries.slots) id.key (item_of t.keys entry)) new → IsJoined t (with_value entries id.key entry) new
  put_joined sized = joined_put t entries (with_value entries id.key entry) lists new joined id.key was entry at sets_entry name same sized

  pub put_state : (item : Item) → item_of t.keys entry ≡ item → new.spare ≡ lists.spare → state_of t (with_value entries id.key entry) new ≡ with_item id item new value
  put_state item this spare =
      subst (λ (v : ItemsState). state_of t (with_value entries id.key entry) new ≡ with_item id item new v) is
      (four_of _ _ _ _ _ _
      (put_items t entries (with_value entries id.key entry) lists new joined id.key was entry at sets_entry name same ∙ ap (insert (items_in t.keys entries.slots) id.key) this)
      (spare_same t entries (with_value entries id.key entry) lists new (len_put entries id.key was entry at) refl refl spare))

-- the item is put at HOT's front
pub front_sized : (t : TableState) (entries : Slab Entry) (lists : SegmentLists) (id : ItemId) (item : Item) (size : ℕ) → IsJoined t entries lists → size ≡ item_size item → AllSized (insert (items_in t.keys entries.slots) id.key item) (moved Hot id size lists)
front_sized t entries lists id item size joined is =
    moved_sized Hot (items_in t.keys entries.slots) (insert (items_in t.keys entries.slots) id.key item) id size lists
    (size_set_else (items_in t.keys entries.slots) id.key item)
    (size_set (items_in t.keys entries.slots) id.key item ∙ ap (λ k. Some k) (sym is))
    (all_sized t entries lists joined)

-- the item's card gets the size that the item has now
pub resize_sized : (t : TableState) (entries : Slab Entry) (lists : SegmentLists) (id : ItemId) (item : Item) (size : ℕ) → IsJoined t entries lists → size ≡ item_size item → AllSized (insert (items_in t.keys entries.slots) id.key item) (resized id size lists)
resize_sized t entries lists id item size joined is =
    let now = size_set (items_in t.keys entries.slots) id.key item ∙ ap (λ k. Some k) (sym is) in
    let else = size_set_else (items_in t.keys entries.slots) id.key item in
    record {
      hot = sized_resized (items_in t.keys entries.slots) _ id size else now lists.hot joined.hot;
      warm = sized_resized (items_in t.keys entries.slots) _ id size else now lists.warm joined.warm;
      cold = sized_resized (items_in t.keys entries.slots) _ id size else now lists.cold joined.cold;
    }

pub same_resized : (id : ItemId) (size : ℕ) (lists : SegmentLists) → SameCards lists (resized id size lists)
same_resized id size lists other =
    let same : cards_of other (resized id size lists) ≡ cards_of other lists = cards_changed id other (λ card. record card { size = size }) (λ card. refl) lists in
    (λ h. omega (arith, same), λ h. omega (arith, same))

-- the sizes stay where the item's size does
pub kept_sized : (t : TableState) (entries : Slab Entry) (lists : SegmentLists) (id : ItemId) (was entry : Entry) → IsJoined t entries lists → slot_at entries id.key ≡ Some was → item_size (item_of t.keys entry) ≡ item_size (item_of t.keys was) → AllSized (insert (items_in t.keys entries.slots) id.key (item_of t.keys entry)) lists
kept_sized t entries lists id was entry joined at size =
    let alike : (n : ℕ) → size_at (insert (items_in t.keys entries.slots) id.key (item_of t.keys entry)) n ≡ size_at (items_in t.keys entries.slots) n = λ n. elim (cases_eq n id.key) [
      | inl here ↦ subst (λ k. size_at (insert (items_in t.keys entries.slots) id.key (item_of t.keys entry)) k ≡ size_at (items_in t.keys entries.slots) k) (sym here)
          (size_set (items_in t.keys entries.slots) id.key (item_of t.keys entry) ∙ ap (λ k. Some k) size
          ∙ sym (ap (option_map item_size) (get_items t.keys entries.slots id.key ∙ ap (option_map (item_of t.keys)) at)))
      | inr other ↦ size_set_else (items_in t.keys entries.slots) id.key (item_of t.keys entry) n other
    ] in
    record {
      hot = sized_same (items_in t.keys entries.slots) _ alike lists.hot joined.hot;
      warm = sized_same (items_in t.keys entries.slots) _ alike lists.warm joined.warm;
      cold = sized_same (items_in t.keys entries.slots) _ alike lists.cold joined.cold;
    }
