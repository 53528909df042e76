-- The next move by key is that by id.
use Rattle.std.proofs.Common.{◌≡◌, ◌+◌, Bool, true, false, cond, List, [], ◌∷◌, map, Option, Some, None, option_map, refl, sym, ◌∙◌, ap, subst, arith}
use Rattle.std.specs.Prelude.{nat_lt, ◌*◌, ◌/◌}
use Rattle.std.specs.List.{last_or}
use Rattle.std.specs.FinMap.{get}
use Rattle.std.proofs.lemmas.List.Sums.{sum_by-cons}
use Rattle.flash_lru.specs.declared.segment.Segment.TheVariants.{Warm}
use Rattle.flash_lru.specs.declared.card.Card.{Card}
use Rattle.flash_lru.specs.declared.card.Move.{Move}
use Rattle.flash_lru.specs.Lists as lru
use Rattle.flash_lru.specs.Ends as ends
use Rattle.flash_lru.specs.Juggle as juggle
use Rattle.flash_items.specs.ItemsState.{ItemMap, ItemsState}
use Rattle.flash_items.specs.Law.{IsInStep}
use Rattle.flash_index.specs.KeyLists.{KeyCard}
use Rattle.flash_index.specs.KeyEnds.{last_card}
use Rattle.flash_index.specs.KeyJuggle.{KeyMove, bytes, bytes_of, exceeds, from_full, from_cold, next_move, with_move}
use Rattle.flash_index.specs.Seen.{card_seen, lists_seen}
use Rattle.flash_index.proofs.Lookups.{none_some}
use Rattle.flash_index.proofs.Passing.{last_passes}
use Rattle.flash_index.proofs.SeenCards.{IsCarded, AllCarded, key_seen, tested_named, moved_seen}

module _ (items : ItemMap) where
  bytes_seen : (cards : List Card) → bytes (map (card_seen items) cards) ≡ juggle.bytes cards
  bytes_seen [] = refl
  bytes_seen (card ∷ cards) =
      sum_by-cons (λ (c : KeyCard). c.size) (card_seen items card) (map (card_seen items) cards)
      ∙ ap (λ n. card.size + n) (bytes_seen cards)
      ∙ sym (sum_by-cons (λ (c : Card). c.size) card cards)

  pub load_seen : (lists : lru.SegmentLists) → bytes_of (lists_seen items lists) ≡ juggle.load_of lists
  load_seen lists = omega (arith, bytes_seen lists.hot, bytes_seen lists.warm, bytes_seen lists.cold)

  last_from_seen : (first : Option Card) (cards : List Card) → last_or (option_map (card_seen items) first) (map (card_seen items) cards) ≡ option_map (card_seen items) (last_or first cards)
  last_from_seen first [] = refl
  last_from_seen first (card ∷ cards) = last_from_seen (Some card) cards

  last_seen : (cards : List Card) → last_card (map (card_seen items) cards) ≡ option_map (card_seen items) (ends.last_card cards)
  last_seen cards = last_from_seen None cards

  -- a move of a card, by its key
  abbrev pub move_seen : Move → KeyMove
  move_seen move = record { card = card_seen items move.card; to = move.to }

  full_seen : (last : Option Card) → from_full (option_map (card_seen items) last) ≡ option_map move_seen (juggle.from_full last)
  full_seen None = refl
  full_seen (Some card) = refl

  cold_seen : (last : Option Card) → from_cold (option_map (card_seen items) last) ≡ option_map move_seen (juggle.from_cold last)
  cold_seen None = refl
  cold_seen (Some card) = by card.active where
    by : (b : Bool) → cond b (Some (let m : KeyMove = record { card = card_seen items card; to = Warm } in m)) None ≡ option_map move_seen (cond b (Some (let m : Move = record { card = card; to = Warm } in m)) None)
    by true = refl
    by false = refl

  first_seen : (b : Bool) (x y : Option KeyMove) (u v : Option Move) → x ≡ option_map move_seen u → y ≡ option_map move_seen v → cond b x y ≡ option_map move_seen (cond b u v)
  first_seen true x y u v p q = p
  first_seen false x y u v p q = q

  pub next_seen : (lists : lru.SegmentLists) → next_move lists.memory (lists_seen items lists) ≡ option_map move_seen (juggle.next_move lists)
  next_seen lists =
      ap (λ n. cond (nat_lt (lists.memory * 20 / 100) n) (from_full (last_card (map (card_seen items) lists.hot))) (cond (exceeds lists.memory 40 (map (card_seen items) lists.warm)) (from_full (last_card (map (card_seen items) lists.warm))) (from_cold (last_card (map (card_seen items) lists.cold))))) (bytes_seen lists.hot)
      ∙ ap (λ n. cond (juggle.exceeds 20 lists lists.hot) (from_full (last_card (map (card_seen items) lists.hot))) (cond (nat_lt (lists.memory * 40 / 100) n) (from_full (last_card (map (card_seen items) lists.warm))) (from_cold (last_card (map (card_seen items) lists.cold))))) (bytes_seen lists.warm)
      ∙ first_seen (juggle.exceeds 20 lists lists.hot) _ _ (juggle.from_full (ends.last_card lists.hot)) _
      (ap from_full (last_seen lists.hot) ∙ full_seen (ends.last_card lists.hot))
      (first_seen (juggle.exceeds 40 lists lists.warm) _ _ (juggle.from_full (ends.last_card lists.warm)) (juggle.from_cold (ends.last_card lists.cold))
      (ap from_full (last_seen lists.warm) ∙ full_seen (ends.last_card lists.warm))
      (ap from_cold (last_seen lists.cold) ∙ cold_seen (ends.last_card lists.cold)))

-- the card that moves is one of the lists
module _ (s : ItemsState) (all : AllCarded s) where
  full_carded : (last : Option Card) → ((card : Card) → last ≡ Some card → IsCarded s card) → (move : Move) → juggle.from_full last ≡ Some move → IsCarded s move.card
  full_carded None has move is = absurd (none_some move is)
  full_carded (Some card) has move is =
      let e : (let m : Move = record { card = card; to = juggle.goes_to card.active } in m) ≡ move = cc in
      subst (λ (m : Move). IsCarded s m.card) e (has card refl)

  cold_carded : (last : Option Card) → ((card : Card) → last ≡ Some card → IsCarded s card) → (move : Move) → juggle.from_cold last ≡ Some move → IsCarded s move.card
  cold_carded None has move is = absurd (none_some move is)
  cold_carded (Some card) has move is = by card.active is where
    by : (b : Bool) → cond b (Some (let m : Move = record { card = card; to = Warm } in m)) None ≡ Some move → IsCarded s move.card
    by true on = let e : (let m : Move = record { card = card; to = Warm } in m) ≡ move = cc in subst (λ (m : Move). IsCarded s m.card) e (has card refl)
    by false off = absurd (none_some move off)

  first_carded : (b : Bool) (one other : Option Move) → ((move : Move) → one ≡ Some move → IsCarded s move.card) → ((move : Move) → other ≡ Some move → IsCarded s move.card) → (move : Move) → cond b one other ≡ Some move → IsCarded s move.card
  first_carded true one other p q = p
  first_carded false one other p q = q

  move_carded : (move : Move) → juggle.next_move s.lists ≡ Some move → IsCarded s move.card
  move_carded =
      first_carded (juggle.exceeds 20 s.lists s.lists.hot) (juggle.from_full (ends.last_card s.lists.hot)) _
      (full_carded (ends.last_card s.lists.hot) (λ card. last_passes (IsCarded s) s.lists.hot card all.hot))
      (first_carded (juggle.exceeds 40 s.lists s.lists.warm) (juggle.from_full (ends.last_card s.lists.warm)) (juggle.from_cold (ends.last_card s.lists.cold))
      (full_carded (ends.last_card s.lists.warm) (λ card. last_passes (IsCarded s) s.lists.warm card all.warm))
      (cold_carded (ends.last_card s.lists.cold) (λ card. last_passes (IsCarded s) s.lists.cold card all.cold)))

  with_move_by : IsInStep s → (o : Option Move) → ((move : Move) → o ≡ Some move → IsCarded s move.card)
      → lists_seen s.items (juggle.with_move o s.lists) ≡ with_move (option_map (move_seen s.items) o) (lists_seen s.items s.lists)
  with_move_by step None has = refl
  with_move_by step (Some move) has =
      let card = has move refl in
      let key = (card_seen s.items move.card).key in
      moved_seen s s.items move.card.item key (λ n _. refl) move.to move.card.size refl
      (tested_named s step move.card.item key (ap (get s.ids) (key_seen s move.card card) ∙ card.named))

  pub juggled_seen : IsInStep s → lists_seen s.items (juggle.with_move (juggle.next_move s.lists) s.lists) ≡ with_move (next_move s.lists.memory (lists_seen s.items s.lists)) (lists_seen s.items s.lists)
  juggled_seen step =
      with_move_by step (juggle.next_move s.lists) move_carded
      ∙ ap (λ (o : Option KeyMove). with_move o (lists_seen s.items s.lists)) (sym (next_seen s.items s.lists))
