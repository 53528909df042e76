-- What any list of calls leaves of a key's id, and of the cards.
use Rattle.std.proofs.Common.{◌≡◌, ℕ, true, cond, List, [], ◌∷◌, Option, Some, None, IsSome, is_some, option_map, refl, sym, ◌∙◌, ap, subst, inl, inr, arith, eq-eqb}
use Rattle.std.specs.Prelude.{◌≤◌, ◌<◌, ◌↔◌}
use Rattle.std.specs.Ordering.{nat_cmp}
use Rattle.std.specs.Cmp.{nat_cmp_total}
use Rattle.std.specs.Cmp.Lexicographic.{nat_list_cmp_total}
use Rattle.std.specs.FinMap.{get, insert, remove, get-insert, get-remove, nat_cmp-IsAntisymmetric}
use Rattle.std.proofs.lemmas.Bool.{cases_eq}
use Rattle.flash_names.specs.declared.place.ItemId.{ItemId}
use Rattle.flash_lru.specs.declared.segment.Segment.{Segment}
use Rattle.flash_lru.specs.declared.segment.Segment.TheVariants.{Hot, Warm, Cold}
use Rattle.flash_lru.specs.declared.card.Move.{Move}
use Rattle.flash_lru.specs.Card.{idle}
use Rattle.flash_lru.specs.Lists.{SegmentLists, cards_of}
use Rattle.flash_lru.specs.Moves.{without, moved, removed, resized}
use Rattle.flash_lru.specs.Juggle.{next_move, with_move}
use Rattle.flash_items.specs.declared.item.Item.{Item}
use Rattle.flash_items.specs.Item.{item_size}
use Rattle.flash_items.specs.ItemsState.{ItemMap, ItemsState, item_at, HasItem, IsAt, AreSized, size_at}
use Rattle.flash_items.specs.Calls.{IsAdded, IsTaken, with_body, with_use}
use Rattle.flash_items.specs.Law.{IsInStep}
use Rattle.flash_items.specs.History.{Call, reserves, inserts, replaces, removes, sets_body, sets_use, touches, juggles, Allowed, AllAllowed, after, after_all, id_after, last_id, IsListed}
use Rattle.flash_items.proofs.Lookups.{insert_here, insert_else, remove_here, remove_else, nat_itself}
use Rattle.flash_items.proofs.Slots.{size_set, size_set_else, size_cut_else}
use Rattle.flash_items.proofs.CardLists.{count_cons, sized_without, sized_touched, sized_resized, sized_same}
use Rattle.flash_items.proofs.ListSteps.{AllSized, cards_removed_same, cards_removed, cards_moved_else, cards_changed, moved_sized, move_sized}
use Rattle.flash_items.proofs.Steps.{some_of}
use Rattle.flash_items.proofs.Calls.{mapped_some}

-- the key's id after one call
id_step : (key : List ℕ) (call : Call) (s : ItemsState) → get (after call s).ids key ≡ id_after key call (get s.ids key)
id_step key (reserves spare cards) s = refl
id_step key (inserts id item spare) s = get-insert nat_list_cmp_total s.ids item.key id.key key
id_step key (replaces id item) s = refl
id_step key (removes id item spare) s = get-remove nat_list_cmp_total s.ids item.key key
id_step key (sets_body id item body) s = refl
id_step key (sets_use id item deadline fetched access) s = refl
id_step key (touches id) s = refl
id_step key juggles s = refl

pub found : (key : List ℕ) (calls : List Call) (s : ItemsState) → get (after_all calls s).ids key ≡ last_id key calls (get s.ids key)
found key [] s = refl
found key (call ∷ calls) s = found key calls (after call s) ∙ ap (last_id key calls) (id_step key call s)

pub added : (old new : ItemsState) (id : ItemId) (item : Item) → IsAdded old new id item → new ≡ after (inserts id item new.spare) old
added old new id item is = λ i. record { ids = is.ids i; items = is.items i; lists = is.lists i; spare = new.spare }

pub taken : (old new : ItemsState) (id : ItemId) (item : Item) → IsTaken old new id item → new ≡ after (removes id item new.spare) old
taken old new id item is = λ i. record { ids = is.ids i; items = is.items i; lists = is.lists i; spare = new.spare }

-- one where there is an item
abbrev one_if : Option Item → ℕ
one_if o = cond (is_some o) 1 0

one_some : (o : Option Item) → IsSome o → one_if o ≡ 1
one_some None some = absurd (cc)
one_some (Some item) some = refl

one_count : (o : Option Item) (n : ℕ) → ((0 < n) ↔ IsSome o) → n ≤ 1 → n ≡ one_if o
one_count None n same most = elim (cases_eq n 0) [
  | inl zero ↦ zero
  | inr more ↦ (let some : IsSome (let o : Option Item = None in o) = same.0 (omega (arith, more)) in absurd (cc))
]
one_count (Some item) n same most = let some : 0 < n = same.1 refl in omega (arith, some, most)

pub listed_at_start : (s : ItemsState) → IsInStep s → IsListed s
listed_at_start s step = record {
  one = λ id. one_count (item_at s id) (cards_of id s.lists) (step.carded id) (step.once id);
  sized = step.sized;
}

moved_one : (segment : Segment) (id : ItemId) (size : ℕ) (lists : SegmentLists) → cards_of id (moved segment id size lists) ≡ 1
moved_one Hot id size lists = omega (arith, cards_removed_same id lists, count_cons id (idle id size) (without id lists.hot) true (eq-eqb id.key id.key refl))
moved_one Warm id size lists = omega (arith, cards_removed_same id lists, count_cons id (idle id size) (without id lists.warm) true (eq-eqb id.key id.key refl))
moved_one Cold id size lists = omega (arith, cards_removed_same id lists, count_cons id (idle id size) (without id lists.cold) true (eq-eqb id.key id.key refl))

three : (items : ItemMap) (lists : SegmentLists) → AllSized items lists → AreSized items lists.hot × AreSized items lists.warm × AreSized items lists.cold
three items lists all = (all.hot, all.warm, all.cold)

-- the sizes of a list of items
module _ (s : ItemsState) (listed : IsListed s) where
  all : AllSized s.items s.lists
  all = record { hot = listed.sized.0; warm = listed.sized.1; cold = listed.sized.2 }

  one_there : (id : ItemId) → HasItem s id → cards_of id s.lists ≡ 1
  one_there id some = listed.one id ∙ one_some (item_at s id) some

  -- one id has an item now, and each other what it had
  put_one : (id : ItemId) (item : Item) (lists : SegmentLists) → cards_of id lists ≡ 1 → ((other : ItemId) → (other.key ≡ id.key → ⊥) → cards_of other lists ≡ cards_of other s.lists) → (other : ItemId) → cards_of other lists ≡ one_if (get (insert s.items id.key item) other.key)
  put_one id item lists here else other = elim (cases_eq other.key id.key) [
    | inl at ↦ subst (λ (k : ℕ). cards_of (record { key = k }) lists ≡ one_if (get (insert s.items id.key item) k)) (sym at)
        (here ∙ sym (ap one_if (insert_here nat_cmp nat_cmp_total nat_cmp-IsAntisymmetric nat_itself s.items id.key item)))
    | inr apart ↦ else other apart ∙ listed.one other
        ∙ sym (ap one_if (insert_else nat_cmp nat_cmp_total nat_cmp-IsAntisymmetric nat_itself s.items id.key item other.key apart))
  ]

  cut_one : (id other : ItemId) → cards_of other (removed id s.lists) ≡ one_if (get (remove s.items id.key) other.key)
  cut_one id other = elim (cases_eq other.key id.key) [
    | inl at ↦ subst (λ (k : ℕ). cards_of (record { key = k }) (removed id s.lists) ≡ one_if (get (remove s.items id.key) k)) (sym at)
        (cards_removed_same id s.lists ∙ sym (ap one_if (remove_here nat_cmp nat_cmp_total nat_cmp-IsAntisymmetric nat_itself s.items id.key)))
    | inr apart ↦ cards_removed id other s.lists apart ∙ listed.one other
        ∙ sym (ap one_if (remove_else nat_cmp nat_cmp_total nat_cmp-IsAntisymmetric nat_itself s.items id.key other.key apart))
  ]

  -- an item is at HOT's front
  fronted : (id : ItemId) (item : Item) (new : ItemsState) → new.items ≡ insert s.items id.key item → new.lists ≡ moved Hot id (item_size item) s.lists → IsListed new
  fronted id item new items lists = rw (items, lists) (record {
    one = put_one id item (moved Hot id (item_size item) s.lists) (moved_one Hot id (item_size item) s.lists) (λ other. cards_moved_else Hot id other (item_size item) s.lists);
    sized = three (insert s.items id.key item) (moved Hot id (item_size item) s.lists) (moved_sized Hot s.items (insert s.items id.key item) id (item_size item) s.lists (size_set_else s.items id.key item) (size_set s.items id.key item) all);
  })

  -- an item of the same size is where it was
  same_sizes : (id : ItemId) (was item : Item) → IsAt s id was → item_size item ≡ item_size was → (n : ℕ) → size_at (insert s.items id.key item) n ≡ size_at s.items n
  same_sizes id was item there size n = elim (cases_eq n id.key) [
    | inl at ↦ subst (λ k. size_at (insert s.items id.key item) k ≡ size_at s.items k) (sym at)
        (size_set s.items id.key item ∙ ap (λ k. Some k) size ∙ sym (ap (option_map item_size) there))
    | inr apart ↦ size_set_else s.items id.key item n apart
  ]

  listed_move : (move : Option Move) → next_move s.lists ≡ move → IsListed (record s { lists = with_move move s.lists })
  listed_move None is = listed
  listed_move (Some move) is =
      let size = move_sized s.items s.lists all move is in
      let there : HasItem s move.card.item = mapped_some item_size (item_at s move.card.item) (some_of _ move.card.size size) in
      record {
        one = λ other. elim (cases_eq other.key move.card.item.key) [
          | inl at ↦ subst (λ (k : ℕ). cards_of (record { key = k }) (moved move.to move.card.item move.card.size s.lists) ≡ one_if (get s.items k)) (sym at)
              (moved_one move.to move.card.item move.card.size s.lists ∙ sym (one_some (item_at s move.card.item) there))
          | inr apart ↦ cards_moved_else move.to move.card.item other move.card.size s.lists apart ∙ listed.one other
        ];
        sized = three s.items _ (moved_sized move.to s.items s.items move.card.item move.card.size s.lists (λ n _. refl) size all);
      }

  step : (call : Call) → Allowed s call → IsListed (after call s)
  step (reserves spare cards) h = record { one = listed.one; sized = listed.sized }
  step (inserts id item spare) h = fronted id item (after (inserts id item spare) s) refl refl
  step (replaces id item) h = fronted id item (after (replaces id item) s) refl refl
  step (removes id item spare) h = record {
    one = cut_one id;
    sized = (
      sized_without s.items (remove s.items id.key) id (size_cut_else s.items id.key) s.lists.hot listed.sized.0,
      sized_without s.items (remove s.items id.key) id (size_cut_else s.items id.key) s.lists.warm listed.sized.1,
      sized_without s.items (remove s.items id.key) id (size_cut_else s.items id.key) s.lists.cold listed.sized.2,
    );
  }
  step (sets_body id item body) h =
      let size = item_size (with_body item body) in
      let now = size_set s.items id.key (with_body item body) in
      let else = size_set_else s.items id.key (with_body item body) in
      let counts : (other : ItemId) → cards_of other (resized id size s.lists) ≡ cards_of other s.lists =
      λ other. cards_changed id other (λ card. record card { size = size }) (λ card. refl) s.lists in
      record {
        one = put_one id (with_body item body) (resized id size s.lists) (counts id ∙ one_there id (some_of _ item h)) (λ other apart. counts other);
        sized = (
          sized_resized s.items _ id size else now s.lists.hot listed.sized.0,
          sized_resized s.items _ id size else now s.lists.warm listed.sized.1,
          sized_resized s.items _ id size else now s.lists.cold listed.sized.2,
        );
      }
  step (sets_use id item deadline fetched access) h =
      let alike = same_sizes id item (with_use item deadline fetched access) h refl in
      record {
        one = put_one id (with_use item deadline fetched access) s.lists (one_there id (some_of _ item h)) (λ other apart. refl);
        sized = (
          sized_same s.items _ alike s.lists.hot listed.sized.0,
          sized_same s.items _ alike s.lists.warm listed.sized.1,
          sized_same s.items _ alike s.lists.cold listed.sized.2,
        );
      }
  step (touches id) h = record {
    one = λ other. cards_changed id other (λ card. record card { active = true }) (λ card. refl) s.lists ∙ listed.one other;
    sized = (
      sized_touched s.items id s.lists.hot listed.sized.0,
      sized_touched s.items id s.lists.warm listed.sized.1,
      sized_touched s.items id s.lists.cold listed.sized.2,
    );
  }
  step juggles h = listed_move (next_move s.lists) refl

pub listed : (calls : List Call) (s : ItemsState) → IsListed s → AllAllowed s calls → IsListed (after_all calls s)
listed [] s is h = is
listed (call ∷ calls) s is h = listed calls (after call s) (step s is call h.0) h.1
