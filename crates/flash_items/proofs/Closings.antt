-- Each call that changes an entry keeps the invariant, and leaves what its contract says.
use Rattle.std.proofs.Common.{◌≡◌, ℕ, ◌+◌, ◌<◌, ◌≤◌, Bool, true, false, cond, ◌&&◌, ltb, List, [], Option, Some, None, IsSome, ◌↔◌, option_map, unwrap_or, length, refl, sym, ◌∙◌, ap, subst, inl, inr, arith, lt-ltb, le-ltb, lit≤}
use Rattle.std.specs.FinMap.{get, insert, remove}
use Rattle.std.specs.Ordering.{nat_cmp}
use Rattle.std.specs.Cmp.{nat_cmp_total}
use Rattle.std.specs.FinMap.{nat_cmp-IsAntisymmetric}
use Rattle.flash_items.proofs.Lookups.{insert_here, nat_itself}
use Rattle.slab.specs.Slab.{Slab, slab_len, with_value, Updates}
use Rattle.slab.specs.Slab.{get as slot_at}
use Rattle.flash_names.specs.declared.place.ItemId.{ItemId}
use Rattle.flash_lru.specs.declared.segment.Segment.TheVariants.{Hot}
use Rattle.flash_lru.specs.Lists.{SegmentLists, HasCard, cards_of}
use Rattle.flash_lru.specs.Moves.{moved, removed, resized}
use Rattle.flash_table.specs.Table.{TableState}
use Rattle.flash_items.specs.declared.item.Body.{Body}
use Rattle.flash_items.specs.declared.item.Item.{Item}
use Rattle.flash_items.specs.declared.item.Entry.{Entry}
use Rattle.flash_items.specs.declared.item.Parts.{Parts}
use Rattle.flash_items.specs.Item.{with_key, item_size, size_of, parts_of}
use Rattle.flash_items.specs.ItemsState.{ItemsState, IsAt, size_at}
use Rattle.flash_items.specs.Calls.{with_item, with_body, with_use, IsAdded, IsTaken}
use Rattle.flash_items.specs.Joined.{item_of, items_in, state_of, spare_of, IsJoined}
use Rattle.std.proofs.lemmas.Bool.{cases_Bool, cases_lt}
use Rattle.flash_items.specs.Law.{IsInStep}
use Rattle.flash_items.proofs.Entries.{get_items}
use Rattle.flash_items.proofs.Slots.{none_some, none_is_some, Sets, size_cut_else}
use Rattle.flash_items.proofs.CardLists.{sized_without}
use Rattle.flash_items.proofs.ListSteps.{AllSized, cards_moved_else, cards_moved_here}
use Rattle.flash_items.proofs.Steps.{some_of, joined_added, add_items, joined_cut, cut_items}
use Rattle.flash_items.proofs.Calls.{mapped_some, item_there, item_is, same_moved, put_joined, put_state, front_sized, resize_sized, same_resized, kept_sized}

-- the invariant holds, and this is what a contract sees
pub record Closed (t : TableState) (entries : Slab Entry) (lists : SegmentLists) (value : ItemsState) : Type 0 where
  pub joined : IsJoined t entries lists
  pub view : state_of t entries lists ≡ value

module _ (t : TableState) (entries : Slab Entry) (lists : SegmentLists) (value : ItemsState) (joined : IsJoined t entries lists) (is : state_of t entries lists ≡ value) (id : ItemId) (was : Entry) (at : slot_at entries id.key ≡ Some was) where
  lists_read : lists ≡ value.lists
  lists_read = ap (λ (s : ItemsState). s.lists) is

  card : HasCard lists id
  card = (joined.carded id).1 (some_of (slot_at entries id.key) was at)

  -- another item under the same key
  pub replaced : (item : Item) (parts : Parts) → parts ≡ parts_of item → (size : ℕ) → size ≡ item_size item → (new : SegmentLists) → new ≡ moved Hot id size lists → ((w : Item) → IsAt value id w → w.key ≡ item.key) → Closed t (with_value entries id.key (record { key = was.key; parts = parts })) new (with_item id item (moved Hot id (item_size item) value.lists) value)
  replaced item parts parts_is size size_is new new_is same =
      let key : (item_of t.keys was).key ≡ item.key = same (item_of t.keys was) (item_there t entries lists value joined is id was at) in
      let this : item_of t.keys (let e : Entry = record { key = was.key; parts = parts } in e) ≡ item =
      ap (λ (p : Parts). with_key (item_of t.keys was).key p) parts_is ∙ ap (λ (k : List ℕ). with_key k (parts_of item)) key in
      let front : moved Hot id size lists ≡ moved Hot id (item_size item) value.lists =
      ap (λ (k : ℕ). moved Hot id k lists) size_is ∙ ap (moved Hot id (item_size item)) lists_read in
      subst (λ (l : SegmentLists). Closed t (with_value entries id.key (record { key = was.key; parts = parts })) l (with_item id item (moved Hot id (item_size item) value.lists) value)) (sym new_is)
      (record {
        joined = put_joined t entries lists (moved Hot id size lists) value joined is id was (record { key = was.key; parts = parts }) at refl (same_moved Hot id size lists card)
            (subst (λ (i : Item). AllSized (insert (items_in t.keys entries.slots) id.key i) (moved Hot id size lists)) (sym this) (front_sized t entries lists id item size joined size_is));
        view = put_state t entries lists (moved Hot id size lists) value joined is id was (record { key = was.key; parts = parts }) at refl (same_moved Hot id size lists card) item this refl
            ∙ ap (λ (l : SegmentLists). with_item id item l value) front;
      })

  -- another body
  pub bodied : (body : Body) (key : List ℕ) → get t.keys was.key.number ≡ Some key → (size : ℕ) → size ≡ size_of (length key) body → (new : SegmentLists) → new ≡ resized id size lists → (item : Item) → IsAt value id item → Closed t (with_value entries id.key (record { key = was.key; parts = record was.parts { body = body } })) new (with_item id (with_body item body) (resized id (item_size (with_body item body)) value.lists) value)
  bodied body key name size size_is new new_is item there =
      let old : item ≡ item_of t.keys was = item_is t entries lists value joined is id was at item there in
      let key_is : key ≡ (item_of t.keys was).key = ap (λ (o : Option (List ℕ)). unwrap_or o []) (sym name) in
      let size_now : size ≡ item_size (with_body (item_of t.keys was) body) = size_is ∙ ap (λ (k : List ℕ). size_of (length k) body) key_is in
      let lists_now : resized id size lists ≡ resized id (item_size (with_body (item_of t.keys was) body)) value.lists =
      ap (λ (k : ℕ). resized id k lists) size_now ∙ ap (resized id (item_size (with_body (item_of t.keys was) body))) lists_read in
      subst (λ (l : SegmentLists). Closed t (with_value entries id.key (record { key = was.key; parts = record was.parts { body = body } })) l (with_item id (with_body item body) (resized id (item_size (with_body item body)) value.lists) value)) (sym new_is)
      (subst (λ (i : Item). Closed t (with_value entries id.key (record { key = was.key; parts = record was.parts { body = body } })) (resized id size lists) (with_item id (with_body i body) (resized id (item_size (with_body i body)) value.lists) value)) (sym old)
      (record {
        joined = put_joined t entries lists (resized id size lists) value joined is id was (record { key = was.key; parts = record was.parts { body = body } }) at refl (same_resized id size lists)
            (resize_sized t entries lists id (with_body (item_of t.keys was) body) size joined size_now);
        view = put_state t entries lists (resized id size lists) value joined is id was (record { key = was.key; parts = record was.parts { body = body } }) at refl (same_resized id size lists) (with_body (item_of t.keys was) body) refl refl
            ∙ ap (λ (l : SegmentLists). with_item id (with_body (item_of t.keys was) body) l value) lists_now;
      }))

  -- another deadline, mark and moment of use
  pub used : (deadline : Option ℕ) (fetched : Bool) (access : ℕ) (item : Item) → IsAt value id item → Closed t (with_value entries id.key (record { key = was.key; parts = record was.parts { deadline = deadline; fetched = fetched; access = access } })) lists (with_item id (with_use item deadline fetched access) value.lists value)
  used deadline fetched access item there =
      let old : item ≡ item_of t.keys was = item_is t entries lists value joined is id was at item there in
      subst (λ (i : Item). Closed t (with_value entries id.key (record { key = was.key; parts = record was.parts { deadline = deadline; fetched = fetched; access = access } })) lists (with_item id (with_use i deadline fetched access) value.lists value)) (sym old)
      (record {
        joined = put_joined t entries lists lists value joined is id was (record { key = was.key; parts = record was.parts { deadline = deadline; fetched = fetched; access = access } }) at refl (λ other. (λ h. h, λ h. h))
            (kept_sized t entries lists id was (record { key = was.key; parts = record was.parts { deadline = deadline; fetched = fetched; access = access } }) joined at refl);
        view = put_state t entries lists lists value joined is id was (record { key = was.key; parts = record was.parts { deadline = deadline; fetched = fetched; access = access } }) at refl (λ other. (λ h. h, λ h. h)) (with_use (item_of t.keys was) deadline fetched access) refl refl
            ∙ ap (λ (l : SegmentLists). with_item id (with_use (item_of t.keys was) deadline fetched access) l value) lists_read;
      })

-- each slot but one is as it was
sets_by : (entries now : Slab Entry) (n : ℕ) (slot : Option Entry) → Updates entries now n slot → Sets entries.slots now.slots n slot
sets_by entries now n slot updates = record { here = updates.changed; else = updates.others }

-- an item is added
pub added : (t u : TableState) (entries now : Slab Entry) (lists : SegmentLists) (value : ItemsState) → IsJoined t entries lists → state_of t entries lists ≡ value → (id : ItemId) (item : Item) (entry : Entry) → entry.parts ≡ parts_of item → slot_at entries id.key ≡ None → Updates entries now id.key (Some entry) → get t.map item.key ≡ None → get t.keys entry.key.number ≡ None → u.map ≡ insert t.map item.key id.key → u.keys ≡ insert t.keys entry.key.number item.key → length item.key ≤ 250 → (size : ℕ) → size ≡ item_size item → IsJoined u now (moved Hot id size lists) × IsAdded value (state_of u now (moved Hot id size lists)) id item
added t u entries now lists value joined is id item entry parts_is vacant updates free fresh map_is keys_is short size size_is =
    let sets = sets_by entries now id.key (Some entry) updates in
    let name : get u.keys entry.key.number ≡ Some item.key = ap (λ m. get m entry.key.number) keys_is ∙ insert_here nat_cmp nat_cmp_total nat_cmp-IsAntisymmetric nat_itself t.keys entry.key.number item.key in
    let this : item_of u.keys entry ≡ item =
    ap (λ (o : Option (List ℕ)). with_key (unwrap_or o []) entry.parts) name ∙ ap (λ (p : Parts). with_key item.key p) parts_is in
    let items : items_in u.keys now.slots ≡ insert (items_in t.keys entries.slots) id.key (item_of u.keys entry) = add_items t u entries now lists (moved Hot id size lists) joined id entry item.key vacant sets free fresh map_is keys_is short in
    let sized : AllSized (insert (items_in t.keys entries.slots) id.key (item_of u.keys entry)) (moved Hot id size lists) =
    subst (λ (i : Item). AllSized (insert (items_in t.keys entries.slots) id.key i) (moved Hot id size lists)) (sym this) (front_sized t entries lists id item size joined size_is) in (
      joined_added t u entries now lists (moved Hot id size lists) joined id entry item.key vacant sets free fresh map_is keys_is short
          (cards_moved_here Hot id size lists)
          (λ other apart. (let same = cards_moved_else Hot id other size lists apart in (λ h. omega (arith, same), λ h. omega (arith, same))))
          sized,
      record {
        ids = map_is ∙ ap (λ (s : ItemsState). insert s.ids item.key id.key) is;
        items = items ∙ ap (insert (items_in t.keys entries.slots) id.key) this ∙ ap (λ (s : ItemsState). insert s.items id.key item) is;
        lists = ap (λ (k : ℕ). moved Hot id k lists) size_is ∙ ap (λ (s : ItemsState). moved Hot id (item_size item) s.lists) is;
      },
    )

-- an item is taken out
pub taken : (t u : TableState) (entries now : Slab Entry) (lists : SegmentLists) (value : ItemsState) → IsJoined t entries lists → state_of t entries lists ≡ value → (id : ItemId) (entry : Entry) → slot_at entries id.key ≡ Some entry → Updates entries now id.key None → ((key : List ℕ) → get t.keys entry.key.number ≡ Some key → u.map ≡ remove t.map key) → u.keys ≡ remove t.keys entry.key.number → IsJoined u now (removed id lists) × ((item : Item) → IsAt value id item → IsTaken value (state_of u now (removed id lists)) id item)
taken t u entries now lists value joined is id entry at updates map_by keys_is =
    let had = joined.named id.key entry at in
    let sets = sets_by entries now id.key None updates in
    let map_is : u.map ≡ remove t.map had.0 = map_by had.0 had.1.name in
    let items : items_in u.keys now.slots ≡ remove (items_in t.keys entries.slots) id.key = cut_items t u entries now lists joined id entry had.0 at sets had.1.name map_is keys_is in
    let else : (n : ℕ) → (n ≡ id.key → ⊥) → size_at (remove (items_in t.keys entries.slots) id.key) n ≡ size_at (items_in t.keys entries.slots) n = size_cut_else (items_in t.keys entries.slots) id.key in (
      joined_cut t u entries now lists joined id entry had.0 at sets had.1.name map_is keys_is (record {
        hot = sized_without (items_in t.keys entries.slots) _ id else lists.hot joined.hot;
        warm = sized_without (items_in t.keys entries.slots) _ id else lists.warm joined.warm;
        cold = sized_without (items_in t.keys entries.slots) _ id else lists.cold joined.cold;
      }),
      λ item there.
          (let old : item ≡ item_of t.keys entry = item_is t entries lists value joined is id entry at item there in
          let key_is : had.0 ≡ item.key = ap (λ (o : Option (List ℕ)). unwrap_or o []) (sym had.1.name) ∙ sym (ap (λ (i : Item). i.key) old) in
          record {
            ids = map_is ∙ ap (remove t.map) key_is ∙ ap (λ (s : ItemsState). remove s.ids item.key) is;
            items = items ∙ ap (λ (s : ItemsState). remove s.items id.key) is;
            lists = ap (λ (s : ItemsState). removed id s.lists) is;
          }),
    )

-- the parts that an item had, under the key that another one has
pub was_at : (t : TableState) (entries : Slab Entry) (lists : SegmentLists) (value : ItemsState) → IsJoined t entries lists → state_of t entries lists ≡ value → (id : ItemId) (was : Entry) → slot_at entries id.key ≡ Some was → (key : List ℕ) → ((w : Item) → IsAt value id w → w.key ≡ key) → (parts : Parts) → parts ≡ was.parts → IsAt value id (with_key key parts)
was_at t entries lists value joined is id was at key same parts parts_is =
    let there = item_there t entries lists value joined is id was at in
    there ∙ ap (λ (k : List ℕ). Some (with_key k was.parts)) (same (item_of t.keys was) there) ∙ ap (λ (p : Parts). Some (with_key key p)) (sym parts_is)

spare_small : (t : TableState) (entries : Slab Entry) (lists : SegmentLists) → spare_of t entries lists ≤ 1
spare_small t entries lists = elim (cases_Bool (ltb 0 t.spare && ltb (slab_len entries) entries.capacity && ltb entries.vacant_key lists.spare)) [
  | inl all ↦ subst (λ b. cond b 1 0 ≤ 1) (sym all) (lit≤ tt)
  | inr few ↦ subst (λ b. cond b 1 0 ≤ 1) (sym few) (lit≤ tt)
]

-- room for one more stays where the table, the slab and the lists have it
pub spare_kept : (t u : TableState) (entries now : Slab Entry) (lists new : SegmentLists) → t.spare ≤ u.spare → slab_len now + 1 ≤ now.capacity → now.vacant_key < new.spare → spare_of t entries lists ≤ spare_of u now new
spare_kept t u entries now lists new more room next = elim (cases_lt 0 t.spare) [
  | inl some ↦
      (let first : ltb 0 u.spare ≡ true = lt-ltb 0 u.spare (omega arith) in
      let second : ltb (slab_len now) now.capacity ≡ true = lt-ltb (slab_len now) now.capacity (omega arith) in
      let third : ltb now.vacant_key new.spare ≡ true = lt-ltb now.vacant_key new.spare next in
      let all : (ltb 0 u.spare && ltb (slab_len now) now.capacity && ltb now.vacant_key new.spare) ≡ true = rw (first, second, third) refl in
      let one : ℕ = 1 in
      let zero : ℕ = 0 in
      let full : spare_of u now new ≡ one = ap (λ b. cond b one zero) all in
      omega (arith, full, spare_small t entries lists))
  | inr none ↦
      (let first : ltb 0 t.spare ≡ false = le-ltb 0 t.spare (omega arith) in
      let one : ℕ = 1 in
      let zero : ℕ = 0 in
      let empty : spare_of t entries lists ≡ zero = ap (λ b. cond (b && ltb (slab_len entries) entries.capacity && ltb entries.vacant_key lists.spare) one zero) first in
      omega (arith, empty))
]

-- the law of the items
module _ (t : TableState) (entries : Slab Entry) (lists : SegmentLists) (joined : IsJoined t entries lists) where
  step_item : (key : List ℕ) (number : ℕ) → get t.map key ≡ Some number → (item : Item) × (get (items_in t.keys entries.slots) number ≡ Some item) × (item.key ≡ key)
  step_item key number found =
      let had = joined.kept key number found in
      (item_of t.keys had.0, get_items t.keys entries.slots number ∙ ap (option_map (item_of t.keys)) had.1, ap (λ (o : Option (List ℕ)). unwrap_or o []) had.2)

  step_key_by : (number : ℕ) (item : Item) (o : Option Entry) → slot_at entries number ≡ o → option_map (item_of t.keys) o ≡ Some item → get t.map item.key ≡ Some number
  step_key_by number item None at is = absurd (none_some item is)
  step_key_by number item (Some entry) at is =
      let had = joined.named number entry at in
      let this : item_of t.keys entry ≡ item = cc in
      let key_is : had.0 ≡ item.key = ap (λ (o : Option (List ℕ)). unwrap_or o []) (sym had.1.name) ∙ ap (λ (i : Item). i.key) this in
      ap (get t.map) (sym key_is) ∙ had.1.found

  step_key : (number : ℕ) (item : Item) → get (items_in t.keys entries.slots) number ≡ Some item → get t.map item.key ≡ Some number
  step_key number item is = step_key_by number item (slot_at entries number) refl (sym (get_items t.keys entries.slots number) ∙ is)

  map_some : (o : Option Entry) → IsSome o → IsSome (option_map (item_of t.keys) o)
  map_some None some = absurd (none_is_some some)
  map_some (Some e) some = refl

  step_card : (id : ItemId) → HasCard lists id ↔ IsSome (get (items_in t.keys entries.slots) id.key)
  step_card id = (
    λ h. subst (λ (o : Option Item). IsSome o) (sym (get_items t.keys entries.slots id.key)) (map_some (slot_at entries id.key) ((joined.carded id).0 h)),
    λ s. (joined.carded id).1 (mapped_some (item_of t.keys) (slot_at entries id.key) (subst (λ (o : Option Item). IsSome o) (get_items t.keys entries.slots id.key) s)),
  )

  pub in_step : (value : ItemsState) → state_of t entries lists ≡ value → ((id : ItemId) → cards_of id lists ≤ 1) → IsInStep value
  in_step value is once = subst (λ (v : ItemsState). IsInStep v) is (record {
    item_found = step_item;
    key_found = step_key;
    carded = step_card;
    sized = (joined.hot, joined.warm, joined.cold);
    once = once;
  })
