-- The three lists after each call: whose cards they have, and of which sizes.
use Rattle.std.proofs.Common.{◌≡◌, ℕ, true, false, cond, Option, Some, None, refl, sym, subst, inl, inr, arith, eq-eqb, ne_eqb}
use Rattle.std.proofs.lemmas.Bool.{cases_Bool}
use Rattle.flash_names.specs.declared.place.ItemId.{ItemId}
use Rattle.flash_lru.specs.declared.segment.Segment.{Segment}
use Rattle.flash_lru.specs.declared.segment.Segment.TheVariants.{Hot, Warm, Cold}
use Rattle.flash_lru.specs.declared.card.Card.{Card}
use Rattle.flash_lru.specs.declared.card.Move.{Move}
use Rattle.flash_lru.specs.Card.{is_of, idle}
use Rattle.flash_lru.specs.Lists.{SegmentLists, cards_of, HasCard}
use Rattle.flash_lru.specs.Moves.{without, moved, removed, changed}
use Rattle.flash_lru.specs.Ends.{last_card}
use Rattle.flash_lru.specs.Juggle.{exceeds, goes_to, from_full, from_cold, next_move}
use Rattle.flash_items.specs.ItemsState.{ItemMap, size_at, AreSized}
use Rattle.flash_items.proofs.CardLists.{count_cons, count_without_same, count_without, count_change, SameElse, sized_without, sized_last}

-- the three lists have the sizes of their items
pub record AllSized (items : ItemMap) (lists : SegmentLists) : Type 0 where
  pub hot : AreSized items lists.hot
  pub warm : AreSized items lists.warm
  pub cold : AreSized items lists.cold

pub cards_removed_same : (id : ItemId) (lists : SegmentLists) → cards_of id (removed id lists) ≡ 0
cards_removed_same id lists = omega (arith, count_without_same id lists.hot, count_without_same id lists.warm, count_without_same id lists.cold)

pub cards_removed : (id other : ItemId) (lists : SegmentLists) → (other.key ≡ id.key → ⊥) → cards_of other (removed id lists) ≡ cards_of other lists
cards_removed id other lists n = omega (arith, count_without id other lists.hot n, count_without id other lists.warm n, count_without id other lists.cold n)

not_of : (id other : ItemId) (size : ℕ) → (other.key ≡ id.key → ⊥) → is_of other (idle id size) ≡ false
not_of id other size n = ne_eqb id.key other.key (λ e. n (sym e))

pub cards_moved_else : (segment : Segment) (id other : ItemId) (size : ℕ) (lists : SegmentLists) → (other.key ≡ id.key → ⊥) → cards_of other (moved segment id size lists) ≡ cards_of other lists
cards_moved_else Hot id other size lists n = omega (arith, cards_removed id other lists n, count_cons other (idle id size) (without id lists.hot) false (not_of id other size n))
cards_moved_else Warm id other size lists n = omega (arith, cards_removed id other lists n, count_cons other (idle id size) (without id lists.warm) false (not_of id other size n))
cards_moved_else Cold id other size lists n = omega (arith, cards_removed id other lists n, count_cons other (idle id size) (without id lists.cold) false (not_of id other size n))

pub cards_moved_here : (segment : Segment) (id : ItemId) (size : ℕ) (lists : SegmentLists) → HasCard (moved segment id size lists) id
cards_moved_here Hot id size lists = omega (arith, count_cons id (idle id size) (without id lists.hot) true (eq-eqb id.key id.key refl))
cards_moved_here Warm id size lists = omega (arith, count_cons id (idle id size) (without id lists.warm) true (eq-eqb id.key id.key refl))
cards_moved_here Cold id size lists = omega (arith, count_cons id (idle id size) (without id lists.cold) true (eq-eqb id.key id.key refl))

pub cards_changed : (id other : ItemId) (change : Card → Card) → ((card : Card) → (change card).item.key ≡ card.item.key) → (lists : SegmentLists) → cards_of other (changed id change lists) ≡ cards_of other lists
cards_changed id other change keeps lists = omega (arith, count_change id other change keeps lists.hot, count_change id other change keeps lists.warm, count_change id other change keeps lists.cold)

pub moved_sized : (segment : Segment) (old new : ItemMap) (id : ItemId) (size : ℕ) (lists : SegmentLists) → SameElse old new id.key → size_at new id.key ≡ Some size → AllSized old lists → AllSized new (moved segment id size lists)
moved_sized Hot old new id size lists same now sized = record {
  hot = (now, sized_without old new id same lists.hot sized.hot);
  warm = sized_without old new id same lists.warm sized.warm;
  cold = sized_without old new id same lists.cold sized.cold;
}
moved_sized Warm old new id size lists same now sized = record {
  hot = sized_without old new id same lists.hot sized.hot;
  warm = (now, sized_without old new id same lists.warm sized.warm);
  cold = sized_without old new id same lists.cold sized.cold;
}
moved_sized Cold old new id size lists same now sized = record {
  hot = sized_without old new id same lists.hot sized.hot;
  warm = sized_without old new id same lists.warm sized.warm;
  cold = (now, sized_without old new id same lists.cold sized.cold);
}

-- the card that moves has its item's size
full_sized : (items : ItemMap) (last : Option Card) → ((card : Card) → last ≡ Some card → size_at items card.item.key ≡ Some card.size) → (move : Move) → from_full last ≡ Some move → size_at items move.card.item.key ≡ Some move.card.size
full_sized items None sized move is = absurd (cc)
full_sized items (Some card) sized move is =
    let e : (let m : Move = record { card = card; to = goes_to card.active } in m) ≡ move = cc in
    subst (λ (m : Move). size_at items m.card.item.key ≡ Some m.card.size) e (sized card refl)

cold_sized : (items : ItemMap) (last : Option Card) → ((card : Card) → last ≡ Some card → size_at items card.item.key ≡ Some card.size) → (move : Move) → from_cold last ≡ Some move → size_at items move.card.item.key ≡ Some move.card.size
cold_sized items None sized move is = absurd (cc)
cold_sized items (Some card) sized move is = elim (cases_Bool card.active) [
  | inl on ↦
      (let some : Some (let m : Move = record { card = card; to = Warm } in m) ≡ Some move = subst (λ b. cond b (Some (let m : Move = record { card = card; to = Warm } in m)) None ≡ Some move) on is in
      let e : (let m : Move = record { card = card; to = Warm } in m) ≡ move = cc in
      subst (λ (m : Move). size_at items m.card.item.key ≡ Some m.card.size) e (sized card refl))
  | inr off ↦
      (let some : None ≡ Some move = subst (λ b. cond b (Some (let m : Move = record { card = card; to = Warm } in m)) None ≡ Some move) off is in absurd (cc))
]

start_none : (items : ItemMap) (card : Card) → None ≡ Some card → size_at items card.item.key ≡ Some card.size
start_none items card e = absurd (cc)

pub move_sized : (items : ItemMap) (lists : SegmentLists) → AllSized items lists → (move : Move) → next_move lists ≡ Some move → size_at items move.card.item.key ≡ Some move.card.size
move_sized items lists sized move is =
    elim (cases_Bool (exceeds 20 lists lists.hot)) [
      | inl hot ↦ full_sized items (last_card lists.hot) (λ card last. sized_last items None lists.hot card (start_none items) sized.hot last) move
          (subst (λ b. cond b (from_full (last_card lists.hot)) (cond (exceeds 40 lists lists.warm) (from_full (last_card lists.warm)) (from_cold (last_card lists.cold))) ≡ Some move) hot is)
      | inr few ↦
          (let rest : cond (exceeds 40 lists lists.warm) (from_full (last_card lists.warm)) (from_cold (last_card lists.cold)) ≡ Some move =
          subst (λ b. cond b (from_full (last_card lists.hot)) (cond (exceeds 40 lists lists.warm) (from_full (last_card lists.warm)) (from_cold (last_card lists.cold))) ≡ Some move) few is in
          elim (cases_Bool (exceeds 40 lists lists.warm)) [
            | inl warm ↦ full_sized items (last_card lists.warm) (λ card last. sized_last items None lists.warm card (start_none items) sized.warm last) move
                (subst (λ b. cond b (from_full (last_card lists.warm)) (from_cold (last_card lists.cold)) ≡ Some move) warm rest)
            | inr cool ↦ cold_sized items (last_card lists.cold) (λ card last. sized_last items None lists.cold card (start_none items) sized.cold last) move
                (subst (λ b. cond b (from_full (last_card lists.warm)) (from_cold (last_card lists.cold)) ≡ Some move) cool rest)
          ])
    ]
