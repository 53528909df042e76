-- What each call of the index answers and leaves.
use Rattle.std.proofs.Common.{◌≡◌, ℕ, ◌+◌, ◌-◌, Bool, List, length, replicate, Option, Some, None, is_some, option_map, refl, sym, ◌∙◌, ap, subst, inl, inr, arith}
use Rattle.std.proofs.lemmas.Bool.{cases_eq}
use Rattle.std.specs.Option.{option_or}
use Rattle.std.specs.FinMap as finite
use Rattle.flash_names.specs.declared.place.ItemId.{ItemId}
use Rattle.flash_lru.specs.declared.segment.Segment.{Segment}
use Rattle.flash_lru.specs.declared.segment.Segment.TheVariants.{Hot, Warm, Cold}
use Rattle.flash_lru.specs.declared.card.Card.{Card}
use Rattle.flash_lru.specs.declared.card.Move.{Move}
use Rattle.flash_lru.specs.Lists as lru
use Rattle.flash_lru.specs.Moves as lru_moves
use Rattle.flash_lru.specs.Ends as ends
use Rattle.flash_lru.specs.Juggle as juggle
use Rattle.flash_names.specs.declared.place.Place.{Place}
use Rattle.flash_items.specs.declared.item.Body.TheVariants.{Away}
use Rattle.flash_items.specs.declared.item.Item.{Item}
use Rattle.flash_items.specs.declared.item.Parts.{Parts}
use Rattle.flash_items.specs.Item.{with_key, item_size}
use Rattle.flash_items.specs.ItemsState.{Ids, ItemMap, ItemsState, IsAt, item_at, load_of as sizes_of}
use Rattle.flash_items.specs.Calls.{IsAdded, IsTaken, with_use, use_set, with_body, body_set, replaced, with_lists}
use Rattle.flash_items.specs.Law.{IsInStep}
use Rattle.flash_machine.specs.Item as machine
use Rattle.flash_machine.specs.Cache.{Items}
use Rattle.flash_machine.specs.Load.{item_load, load_of}
use Rattle.flash_index.specs.Known.{known_item, known_parts}
use Rattle.flash_index.specs.Places.{Places, place_of, with_place}
use Rattle.flash_index.specs.KeyLists.{KeyLists, empty_lists, list_of, moved, removed, touched, resized}
use Rattle.flash_index.specs.KeyEnds.{last_key, last_out, before}
use Rattle.flash_index.specs.KeyJuggle.{KeyMove, next_move, with_move}
use Rattle.flash_index.specs.declared.move_rule.MoveRule.{MoveRule}
use Rattle.flash_index.specs.NextToMove.{next_key_to_move}
use Rattle.flash_index.specs.Walk.{last_passing, card_may_move}
use Rattle.flash_index.specs.IndexState.{IndexState, Names, AreNamed}
use Rattle.flash_index.specs.Listed.{IsListed}
use Rattle.flash_index.specs.Seen.{key_or, lists_seen, items_seen, places_seen, seen}
use Rattle.flash_index.proofs.Lookups.{put_here, put_else, id_put_here, id_put_else, id_cut_else}
use Rattle.flash_index.proofs.SeenItems.{get_named, is_there, is_some_mapped, same_seen, none_seen, seen_put, seen_cut, load_known}
use Rattle.flash_index.proofs.SeenPlaces.{place_named, same_places, no_places, places_put, places_kept, places_cut}
use Rattle.flash_index.proofs.SeenCards.{one_value, all_carded, tested_named, tested_new, only_named, only_new, removed_seen, moved_seen, touched_seen, resized_seen, same_lists}
use Rattle.flash_index.proofs.SeenEnds.{last_out_named, last_of_named, before_named}
use Rattle.flash_index.proofs.SeenJuggle.{move_seen, next_seen, juggled_seen}
use Rattle.flash_index.proofs.SeenMoves.{next_named}
use Rattle.flash_index.proofs.InStep.{listed_seen, load_is}
use Rattle.flash_index.proofs.Lengths.{len_is}

-- a state by its fields
pub fields : (state : IndexState) (items : Items) (places : Places) (lists : KeyLists) (memory : ℕ) (ids : Ids) (spare : ℕ) → state.items ≡ items → state.places ≡ places → state.lists ≡ lists → state.memory ≡ memory → state.ids ≡ ids → state.spare ≡ spare
    → state ≡ record { items = items; places = places; lists = lists; memory = memory; ids = ids; spare = spare }
fields state items places lists memory ids spare a p b c d e =
    λ i. record { items = a i; places = p i; lists = b i; memory = c i; ids = d i; spare = e i }

pub opened : (s : ItemsState) (memory : ℕ) → s.ids ≡ finite.empty → s.items ≡ finite.empty → s.lists ≡ lru.empty_lists memory
    → seen s ≡ record { items = finite.empty; places = finite.empty; lists = empty_lists; memory = memory; ids = finite.empty; spare = s.spare }
opened s memory ids items lists =
    fields (seen s) finite.empty finite.empty empty_lists memory finite.empty s.spare (none_seen s ids) (no_places s ids)
    (ap (lists_seen s.items) lists) (ap (λ (l : lru.SegmentLists). l.memory) lists) ids refl

pub move_some : (o : Option Move) → is_some (juggle.move_item o) ≡ is_some o
move_some None = refl
move_some (Some move) = refl

moved_memory : (segment : Segment) (id : ItemId) (size : ℕ) (lists : lru.SegmentLists) → (lru_moves.moved segment id size lists).memory ≡ lists.memory
moved_memory Hot id size lists = refl
moved_memory Warm id size lists = refl
moved_memory Cold id size lists = refl

juggled_memory : (o : Option Move) (lists : lru.SegmentLists) → (juggle.with_move o lists).memory ≡ lists.memory
juggled_memory None lists = refl
juggled_memory (Some move) lists = moved_memory move.to move.card.item move.card.size lists

module _ (s : ItemsState) (v : IndexState) (is : seen s ≡ v) where
  pub found : (id : Option ItemId) (key : List ℕ) → option_map (λ (i : ItemId). i.key) id ≡ finite.get s.ids key → is_some id ≡ is_some (finite.get v.items key)
  found id key at = subst (λ (w : IndexState). is_some id ≡ is_some (finite.get w.items key)) is
      (sym (is_some_mapped (λ (i : ItemId). i.key) id) ∙ ap (λ (o : Option ℕ). is_some o) at ∙ sym (is_there s key))

  pub reserved : (t : ItemsState) → t.ids ≡ s.ids → t.items ≡ s.items → t.lists ≡ record s.lists { spare = t.lists.spare } → seen t ≡ record v { spare = t.spare }
  reserved t ids items lists = subst (λ (w : IndexState). seen t ≡ record w { spare = t.spare }) is
      (fields (seen t) (items_seen s) (places_seen s) (lists_seen s.items s.lists) s.lists.memory s.ids t.spare (same_seen t s ids items) (same_places t s ids items)
      (ap (λ (m : ItemMap). lists_seen m t.lists) items ∙ ap (lists_seen s.items) lists) (ap (λ (l : lru.SegmentLists). l.memory) lists) ids refl)

  module _ (step : IsInStep s) where
    -- other lists of the same items
    listed_by : (t : ItemsState) (lists : lru.SegmentLists) (keys : KeyLists) → t ≡ with_lists lists s → lists.memory ≡ s.lists.memory → lists_seen s.items lists ≡ keys → seen t ≡ record (seen s) { lists = keys }
    listed_by t lists keys now memory same =
        fields (seen t) (items_seen s) (places_seen s) keys s.lists.memory s.ids s.spare (same_seen t s (ap (λ (u : ItemsState). u.ids) now) (ap (λ (u : ItemsState). u.items) now))
        (same_places t s (ap (λ (u : ItemsState). u.ids) now) (ap (λ (u : ItemsState). u.items) now))
        (ap (λ (u : ItemsState). lists_seen u.items u.lists) now ∙ same) (ap (λ (u : ItemsState). u.lists.memory) now ∙ memory)
        (ap (λ (u : ItemsState). u.ids) now) (ap (λ (u : ItemsState). u.spare) now)

    pub after_touch : (t : ItemsState) (id : ItemId) → t ≡ with_lists (lru_moves.touched id s.lists) s → (key : List ℕ) → Names v id key → seen t ≡ record v { lists = touched key v.lists }
    after_touch t id now = subst (λ (w : IndexState). (key : List ℕ) → Names w id key → seen t ≡ record w { lists = touched key w.lists }) is
        (λ key named. listed_by t (lru_moves.touched id s.lists) (touched key (lists_seen s.items s.lists)) now refl (touched_seen s id key (tested_named s step id key named)))

    pub after_juggle : (t : ItemsState) → t ≡ with_lists (juggle.with_move (juggle.next_move s.lists) s.lists) s → seen t ≡ record v { lists = with_move (next_move v.memory v.lists) v.lists }
    after_juggle t now = subst (λ (w : IndexState). seen t ≡ record w { lists = with_move (next_move w.memory w.lists) w.lists }) is
        (listed_by t (juggle.with_move (juggle.next_move s.lists) s.lists) _ now (juggled_memory (juggle.next_move s.lists) s.lists) (juggled_seen s (all_carded s step) step))

    pub juggles : (id : Option ItemId) → id ≡ juggle.move_item (juggle.next_move s.lists) → is_some id ≡ is_some (next_move v.memory v.lists)
    juggles id at = subst (λ (w : IndexState). is_some id ≡ is_some (next_move w.memory w.lists)) is
        (ap (λ (o : Option ItemId). is_some o) at ∙ move_some (juggle.next_move s.lists)
        ∙ sym (ap (λ (o : Option KeyMove). is_some o) (next_seen s.items s.lists) ∙ is_some_mapped (move_seen s.items) (juggle.next_move s.lists)))

    pub out_named : (id : Option ItemId) → id ≡ ends.last_out s.lists → AreNamed v id (last_out v.lists)
    out_named id at = subst (λ (w : IndexState). AreNamed w id (last_out w.lists)) is
        (subst (λ o. AreNamed (seen s) o (last_out (lists_seen s.items s.lists))) (sym at) (last_out_named s (all_carded s step)))

    pub last_named : (id : Option ItemId) (segment : Segment) → id ≡ ends.last_item (lru.list_of segment s.lists) → AreNamed v id (last_key (list_of segment v.lists))
    last_named id segment at = subst (λ (w : IndexState). AreNamed w id (last_key (list_of segment w.lists))) is
        (subst (λ o. AreNamed (seen s) o (last_key (list_of segment (lists_seen s.items s.lists)))) (sym at) (last_of_named s (all_carded s step) segment))

    pub previous_named : (id : ItemId) (other : Option ItemId) → other ≡ ends.before id s.lists → (key : List ℕ) → Names v id key → AreNamed v other (before key v.lists)
    previous_named id other at = subst (λ (w : IndexState). (key : List ℕ) → Names w id key → AreNamed w other (before key w.lists)) is
        (λ key named. subst (λ o. AreNamed (seen s) o (before key (lists_seen s.items s.lists))) (sym at) (before_named s (all_carded s step) id key (tested_named s step id key named)))

    pub to_move_named : (rule : MoveRule) (id : Option ItemId)
        → id ≡ (let test = card_may_move rule s.items in option_map (λ (card : Card). card.item) (option_or (last_passing test s.lists.cold) (option_or (last_passing test s.lists.warm) (last_passing test s.lists.hot))))
        → AreNamed v id (next_key_to_move rule v.items v.lists)
    to_move_named rule id at = subst (λ (w : IndexState). AreNamed w id (next_key_to_move rule w.items w.lists)) is
        (subst (λ o. AreNamed (seen s) o (next_key_to_move rule (items_seen s) (lists_seen s.items s.lists))) (sym at) (next_named s (all_carded s step) rule))

    pub item_is : (id : ItemId) (own : List ℕ) (parts : Parts) → IsAt s id (with_key own parts) → (key : List ℕ) → Names v id key → finite.get v.items key ≡ Some (known_parts (length key) parts)
    item_is id own parts at = subst (λ (w : IndexState). (key : List ℕ) → Names w id key → finite.get w.items key ≡ Some (known_parts (length key) parts)) is
        (λ key named. (let found = step.item_found key id.key named in
        let same : own ≡ key = ap (λ (i : Item). i.key) (one_value (finite.get s.items id.key) (with_key own parts) found.0 at found.1) ∙ found.2 in
        get_named s id.key key (with_key own parts) named at ∙ ap (λ (k : List ℕ). Some (known_parts (length k) parts)) same))

    pub place_is : (id : ItemId) (own : List ℕ) (parts : Parts) → IsAt s id (with_key own parts) → (key : List ℕ) → Names v id key → place_of parts.body ≡ finite.get v.places key
    place_is id own parts at = subst (λ (w : IndexState). (key : List ℕ) → Names w id key → place_of parts.body ≡ finite.get w.places key) is
        (λ key named. sym (place_named s id.key key (with_key own parts) named at))

    pub as_many : finite.len s.items ≡ finite.len v.items
    as_many = subst (λ (w : IndexState). finite.len s.items ≡ finite.len w.items) is (len_is s step)

    pub as_heavy : sizes_of s ≡ load_of v.items
    as_heavy = subst (λ (w : IndexState). sizes_of s ≡ load_of w.items) is (load_is s step)

    pub are_listed : IsListed v.items v.lists
    are_listed = subst (λ (w : IndexState). IsListed w.items w.lists) is (listed_seen s step)

-- the size by key is that by id
sized_moved : (key : List ℕ) (item : Item) (lists : KeyLists) → item.key ≡ key → moved Hot key (item_size item) lists ≡ moved Hot key (item_load key (known_item item)) lists
sized_moved key item lists same = ap (λ n. moved Hot key n lists) (sym (load_known item) ∙ ap (λ k. item_load k (known_item item)) same)

module _ (s : ItemsState) (v : IndexState) (is : seen s ≡ v) (step : IsInStep s) (t : ItemsState) (id : ItemId) (item : Item) where
  -- an item is put under a new id
  module _ (none : Option ItemId) (none_is : none ≡ None) (free : option_map (λ (i : ItemId). i.key) none ≡ finite.get v.ids item.key) (fresh : item_at s id ≡ None) (added : IsAdded s t id item) where
    absent : finite.get s.ids item.key ≡ None
    absent = ap (λ (w : IndexState). finite.get w.ids item.key) is ∙ sym free ∙ ap (option_map (λ (i : ItemId). i.key)) none_is

    pub added_items : items_seen t ≡ finite.insert v.items item.key (known_item item)
    added_items = subst (λ (w : IndexState). items_seen t ≡ finite.insert w.items item.key (known_item item)) is
        (seen_put s t id item.key item (only_new s step id item.key fresh) added.items
        (ap (λ (m : Ids). finite.get m item.key) added.ids ∙ put_here s.ids item.key id.key)
        (λ q apart. ap (λ (m : Ids). finite.get m q) added.ids ∙ put_else s.ids item.key id.key q apart))

    pub added_places : places_seen t ≡ with_place item.key (place_of item.body) v.places
    added_places = subst (λ (w : IndexState). places_seen t ≡ with_place item.key (place_of item.body) w.places) is
        (places_put s t id item.key item (only_new s step id item.key fresh) added.items
        (ap (λ (m : Ids). finite.get m item.key) added.ids ∙ put_here s.ids item.key id.key)
        (λ q apart. ap (λ (m : Ids). finite.get m q) added.ids ∙ put_else s.ids item.key id.key q apart))

    pub added_lists : lists_seen t.items t.lists ≡ moved Hot item.key (item_load item.key (known_item item)) v.lists
    added_lists = subst (λ (w : IndexState). lists_seen t.items t.lists ≡ moved Hot item.key (item_load item.key (known_item item)) w.lists) is
        (ap (λ (m : ItemMap). lists_seen m t.lists) added.items ∙ ap (lists_seen (finite.insert s.items id.key item)) added.lists
        ∙ moved_seen s (finite.insert s.items id.key item) id item.key (id_put_else s.items id.key item) Hot (item_size item)
        (ap key_or (id_put_here s.items id.key item)) (tested_new s step id item.key absent fresh)
        ∙ sized_moved item.key item (lists_seen s.items s.lists) refl)

  -- an item is put in the place of another
  module _ (some : Option ItemId) (some_is : some ≡ Some id) (there : option_map (λ (i : ItemId). i.key) some ≡ finite.get v.ids item.key) (now : t ≡ replaced id item s) where
    named : finite.get s.ids item.key ≡ Some id.key
    named = ap (λ (w : IndexState). finite.get w.ids item.key) is ∙ sym there ∙ ap (option_map (λ (i : ItemId). i.key)) some_is

    pub replaced_items : items_seen t ≡ finite.insert v.items item.key (known_item item)
    replaced_items = subst (λ (w : IndexState). items_seen t ≡ finite.insert w.items item.key (known_item item)) is
        (seen_put s t id item.key item (only_named s step id item.key named) (ap (λ (u : ItemsState). u.items) now)
        (ap (λ (u : ItemsState). finite.get u.ids item.key) now ∙ named) (λ q apart. ap (λ (u : ItemsState). finite.get u.ids q) now))

    pub replaced_places : places_seen t ≡ with_place item.key (place_of item.body) v.places
    replaced_places = subst (λ (w : IndexState). places_seen t ≡ with_place item.key (place_of item.body) w.places) is
        (places_put s t id item.key item (only_named s step id item.key named) (ap (λ (u : ItemsState). u.items) now)
        (ap (λ (u : ItemsState). finite.get u.ids item.key) now ∙ named) (λ q apart. ap (λ (u : ItemsState). finite.get u.ids q) now))

    pub replaced_lists : lists_seen t.items t.lists ≡ moved Hot item.key (item_load item.key (known_item item)) v.lists
    replaced_lists = subst (λ (w : IndexState). lists_seen t.items t.lists ≡ moved Hot item.key (item_load item.key (known_item item)) w.lists) is
        (ap (λ (u : ItemsState). lists_seen u.items u.lists) now
        ∙ moved_seen s (finite.insert s.items id.key item) id item.key (id_put_else s.items id.key item) Hot (item_size item)
        (ap key_or (id_put_here s.items id.key item)) (tested_named s step id item.key named)
        ∙ sized_moved item.key item (lists_seen s.items s.lists) refl)

-- the item of an id is taken out
module _ (s : ItemsState) (v : IndexState) (is : seen s ≡ v) (step : IsInStep s) (t : ItemsState) (id : ItemId) (taken : (item : Item) → IsAt s id item → IsTaken s t id item) where
  pub taken_items : (key : List ℕ) → Names v id key → items_seen t ≡ finite.remove v.items key
  taken_items = subst (λ (w : IndexState). (key : List ℕ) → Names w id key → items_seen t ≡ finite.remove w.items key) is
      (λ key named. (let found = step.item_found key id.key named in
      let gone = taken found.0 found.1 in
      seen_cut s t id key (only_named s step id key named) gone.items (gone.ids ∙ ap (finite.remove s.ids) found.2)))

  pub taken_places : (key : List ℕ) → Names v id key → places_seen t ≡ finite.remove v.places key
  taken_places = subst (λ (w : IndexState). (key : List ℕ) → Names w id key → places_seen t ≡ finite.remove w.places key) is
      (λ key named. (let found = step.item_found key id.key named in
      let gone = taken found.0 found.1 in
      places_cut s t id key (only_named s step id key named) gone.items (gone.ids ∙ ap (finite.remove s.ids) found.2)))

  pub taken_lists : (key : List ℕ) → Names v id key → lists_seen t.items t.lists ≡ removed key v.lists
  taken_lists = subst (λ (w : IndexState). (key : List ℕ) → Names w id key → lists_seen t.items t.lists ≡ removed key w.lists) is
      (λ key named. (let found = step.item_found key id.key named in
      let gone = taken found.0 found.1 in
      ap (λ (m : ItemMap). lists_seen m t.lists) gone.items ∙ ap (lists_seen (finite.remove s.items id.key)) gone.lists
      ∙ removed_seen s (finite.remove s.items id.key) id key (id_cut_else s.items id.key) (tested_named s step id key named)))

  pub taken_memory : (has : (key : List ℕ) × Names v id key) → t.lists.memory ≡ v.memory
  taken_memory has =
      let found = step.item_found has.0 id.key (ap (λ (w : IndexState). finite.get w.ids has.0) is ∙ has.1) in
      ap (λ (l : lru.SegmentLists). l.memory) (taken found.0 found.1).lists ∙ ap (λ (w : IndexState). w.memory) is

-- the item of an id gets another deadline, mark and moment of use
key_kept : (items : ItemMap) (n : ℕ) (was now : Item) → finite.get items n ≡ Some was → now.key ≡ was.key → (m : ℕ) → key_or (finite.get (finite.insert items n now) m) ≡ key_or (finite.get items m)
key_kept items n was now at same m = elim (cases_eq m n) [
  | inl here ↦ subst (λ k. key_or (finite.get (finite.insert items n now) k) ≡ key_or (finite.get items k)) (sym here)
      (ap key_or (id_put_here items n now) ∙ same ∙ sym (ap key_or at))
  | inr apart ↦ ap key_or (id_put_else items n now m apart)
]

pub used : (s : ItemsState) (v : IndexState) → seen s ≡ v → IsInStep s → (t : ItemsState) (id : ItemId) (deadline : Option ℕ) (fetched : Bool) (access : ℕ)
    → ((item : Item) → IsAt s id item → t ≡ use_set id item deadline fetched access s)
    → (key : List ℕ) (item : machine.Item) → Names v id key → finite.get v.items key ≡ Some item
    → seen t ≡ record v { items = finite.insert v.items key (record item { deadline = deadline; fetched = fetched; access = access }) }
used s v is step t id deadline fetched access after =
    subst (λ (w : IndexState). (key : List ℕ) (item : machine.Item) → Names w id key → finite.get w.items key ≡ Some item → seen t ≡ record w { items = finite.insert w.items key (record item { deadline = deadline; fetched = fetched; access = access }) }) is
    (λ key item named at. (let found = step.item_found key id.key named in
    let now = after found.0 found.1 in
    let new : Item = with_use found.0 deadline fetched access in
    let known : item ≡ known_item found.0 = one_value (finite.get (items_seen s) key) item (known_item found.0) at (get_named s id.key key found.0 named found.1) in
    fields (seen t) (finite.insert (items_seen s) key (record item { deadline = deadline; fetched = fetched; access = access })) (places_seen s) (lists_seen s.items s.lists) s.lists.memory s.ids s.spare
    (seen_put s t id key new (only_named s step id key named) (ap (λ (u : ItemsState). u.items) now)
    (ap (λ (u : ItemsState). finite.get u.ids key) now ∙ named) (λ q apart. ap (λ (u : ItemsState). finite.get u.ids q) now)
    ∙ ap (λ (i : machine.Item). finite.insert (items_seen s) key (record i { deadline = deadline; fetched = fetched; access = access })) (sym known))
    (places_kept s t id key found.0 new (only_named s step id key named) found.1 refl (ap (λ (u : ItemsState). u.items) now) (ap (λ (u : ItemsState). u.ids) now) named)
    (ap (λ (u : ItemsState). lists_seen u.items u.lists) now ∙ same_lists s.items (finite.insert s.items id.key new) s.lists (key_kept s.items id.key found.0 new found.1 refl))
    (ap (λ (u : ItemsState). u.lists.memory) now) (ap (λ (u : ItemsState). u.ids) now) (ap (λ (u : ItemsState). u.spare) now)))

-- the item whose value is at a place from now on
abbrev away : Item → Place → Item
away was place = with_body was (Away place)

away_known : (key : List ℕ) (item : machine.Item) (was : Item) (place : Place) → item ≡ known_item was → was.key ≡ key → place.length ≡ 32 + length key + length item.value → known_item (away was place) ≡ machine.moved_head place.label item
away_known key item was place is own long =
    let zeros : place.length - (32 + length was.key) ≡ length item.value = omega (arith, long, ap (λ (k : List ℕ). length k) own) in
    ap (λ n. record (known_item was) { value = replicate n 0; label = Some place.label }) zeros
    ∙ ap (λ (i : machine.Item). record i { value = replicate (length item.value) 0; label = Some place.label }) (sym is)

-- the size that its card has
away_size : (key : List ℕ) (item : machine.Item) (was : Item) (place : Place) → was.key ≡ key → known_item (away was place) ≡ machine.moved_head place.label item → item_size (away was place) ≡ item_load key (machine.moved_head place.label item)
away_size key item was place own known =
    sym (load_known (away was place)) ∙ ap (λ k. item_load k (known_item (away was place))) own ∙ ap (item_load key) known

-- a state after the value of a key's item moved to a place
abbrev pub WithMoved : IndexState → List ℕ → machine.Item → Place → IndexState → Type 0
WithMoved v key item place new = new ≡ record v {
  items = finite.insert v.items key (machine.moved_head place.label item);
  places = finite.insert v.places key place;
  lists = resized key (item_load key (machine.moved_head place.label item)) v.lists;
}

module _ (s : ItemsState) (step : IsInStep s) (t : ItemsState) (id : ItemId) (place : Place) (after : (item : Item) → IsAt s id item → t ≡ body_set id item (Away place) s) where
  moved_here : (key : List ℕ) (item : machine.Item) → Names (seen s) id key → finite.get (items_seen s) key ≡ Some item → place.length ≡ 32 + length key + length item.value → WithMoved (seen s) key item place (seen t)
  moved_here key item named at long =
      let found = step.item_found key id.key named in
      let was = found.0 in
      let new = away was place in
      let now = after was found.1 in
      let is : item ≡ known_item was = one_value (finite.get (items_seen s) key) item (known_item was) at (get_named s id.key key was named found.1) in
      let known = away_known key item was place is found.2 long in
      let only = only_named s step id key named in
      let items = ap (λ (u : ItemsState). u.items) now in
      let here : finite.get t.ids key ≡ Some id.key = ap (λ (u : ItemsState). finite.get u.ids key) now ∙ named in
      let ids : (q : List ℕ) → (q ≡ key → ⊥) → finite.get t.ids q ≡ finite.get s.ids q = λ q _. ap (λ (u : ItemsState). finite.get u.ids q) now in
      fields (seen t) (finite.insert (items_seen s) key (machine.moved_head place.label item)) (finite.insert (places_seen s) key place)
      (resized key (item_load key (machine.moved_head place.label item)) (lists_seen s.items s.lists)) s.lists.memory s.ids s.spare
      (seen_put s t id key new only items here ids ∙ ap (finite.insert (items_seen s) key) known)
      (places_put s t id key new only items here ids)
      (ap (λ (u : ItemsState). lists_seen u.items u.lists) now
      ∙ same_lists s.items (finite.insert s.items id.key new) (lru_moves.resized id (item_size new) s.lists) (key_kept s.items id.key was new found.1 refl)
      ∙ resized_seen s id key (item_size new) (tested_named s step id key named)
      ∙ ap (λ n. resized key n (lists_seen s.items s.lists)) (away_size key item was place found.2 known))
      (ap (λ (u : ItemsState). u.lists.memory) now) (ap (λ (u : ItemsState). u.ids) now) (ap (λ (u : ItemsState). u.spare) now)

  pub moved_away : (v : IndexState) → seen s ≡ v → ((key : List ℕ) (item : machine.Item) → Names v id key → finite.get v.items key ≡ Some item → place.length ≡ 32 + length key + length item.value)
      → (key : List ℕ) (item : machine.Item) → Names v id key → finite.get v.items key ≡ Some item → WithMoved v key item place (seen t)
  moved_away v is = subst (λ (w : IndexState). ((key : List ℕ) (item : machine.Item) → Names w id key → finite.get w.items key ≡ Some item → place.length ≡ 32 + length key + length item.value)
      → (key : List ℕ) (item : machine.Item) → Names w id key → finite.get w.items key ≡ Some item → WithMoved w key item place (seen t)) is
      (λ long key item named at. moved_here key item named at (long key item named at))
