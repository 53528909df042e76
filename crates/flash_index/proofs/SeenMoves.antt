-- The next item to move by id is that by key.
use Rattle.std.proofs.Common.{◌≡◌, ℕ, Bool, true, false, cond, List, [], ◌∷◌, ◌++◌, map, Option, Some, None, option_map, refl, sym, ◌∙◌, ap, subst}
use Rattle.std.specs.Prelude.{reverse}
use Rattle.std.specs.List.{AllByRecursion, find}
use Rattle.std.specs.Option.{option_or}
use Rattle.std.specs.FinMap.{get}
use Rattle.flash_names.specs.declared.place.ItemId.{ItemId}
use Rattle.flash_lru.specs.declared.card.Card.{Card}
use Rattle.flash_items.specs.ItemsState.{ItemsState}
use Rattle.flash_machine.specs.Cache.{Items}
use Rattle.flash_index.specs.declared.move_rule.MoveRule.{MoveRule}
use Rattle.flash_index.specs.KeyLists.{KeyCard, KeyLists}
use Rattle.flash_index.specs.NextToMove.{some_may_move, next_key_to_move}
use Rattle.flash_index.specs.Walk.{last_passing, is_moving, card_may_move}
use Rattle.flash_index.specs.IndexState.{AreNamed}
use Rattle.flash_index.specs.Seen.{card_seen, lists_seen, items_seen, seen}
use Rattle.flash_index.proofs.LastPassing.{mapped_or, find_append, find_reversed, find_mapped}
use Rattle.flash_index.proofs.SeenItems.{get_named}
use Rattle.flash_index.proofs.SeenCards.{IsCarded, AllCarded, key_seen}
use Rattle.flash_index.proofs.SeenEnds.{either_named, card_named}

-- whether the card's item may move
abbrev key_card_may_move : MoveRule → Items → KeyCard → Bool
key_card_may_move rule items card = some_may_move rule card.key (get items card.key)

-- the search over the keys is that over the lists, from their last cards
next_by_lists : (rule : MoveRule) (items : Items) (lists : KeyLists)
    → next_key_to_move rule items lists ≡ (let test = key_card_may_move rule items in option_map (λ (card : KeyCard). card.key) (option_or (last_passing test lists.cold) (option_or (last_passing test lists.warm) (last_passing test lists.hot))))
next_by_lists rule items lists =
    let test = key_card_may_move rule items in
    let cold = find_reversed test lists.cold in
    let warm = find_reversed test lists.warm in
    let hot = find_reversed test lists.hot in
    find_mapped (λ (card : KeyCard). card.key) (λ key. some_may_move rule key (get items key)) (reverse lists.cold ++ (reverse lists.warm ++ reverse lists.hot))
    ∙ ap (option_map (λ (card : KeyCard). card.key))
    (find_append test (reverse lists.cold) (reverse lists.warm ++ reverse lists.hot)
    ∙ ap (option_or (find test (reverse lists.cold))) (find_append test (reverse lists.warm) (reverse lists.hot))
    ∙ (λ i. option_or (cold i) (option_or (warm i) (hot i))))

module _ (s : ItemsState) (all : AllCarded s) (rule : MoveRule) where
  -- a card passes by its id as by its key
  passes_alike : (card : Card) → IsCarded s card → card_may_move rule s.items card ≡ key_card_may_move rule (items_seen s) (card_seen s.items card)
  passes_alike card has =
      ap (is_moving rule) has.at
      ∙ sym (ap (some_may_move rule has.item.key) (get_named s card.item.key has.item.key has.item has.named has.at))
      ∙ ap (λ k. some_may_move rule k (get (items_seen s) k)) (sym (key_seen s card has))

  -- the item that the search gives, and the key
  abbrev id_of : Option Card → Option ItemId
  id_of card = option_map (λ (c : Card). c.item) card

  abbrev key_of : Option KeyCard → Option (List ℕ)
  key_of card = option_map (λ (c : KeyCard). c.key) card

  one_named : (card : Card) → IsCarded s card → (b : Bool) → AreNamed (seen s) (id_of (cond b (Some card) None)) (key_of (cond b (Some (card_seen s.items card)) None))
  one_named card has true = card_named s all card has
  one_named card has false = tt

  either_by : (a b : Option Card) (x y : Option KeyCard) → AreNamed (seen s) (id_of a) (key_of x) → AreNamed (seen s) (id_of b) (key_of y) → AreNamed (seen s) (id_of (option_or a b)) (key_of (option_or x y))
  either_by a b x y first second =
      subst (λ o. AreNamed (seen s) o (key_of (option_or x y))) (sym (mapped_or (λ (c : Card). c.item) a b))
      (subst (λ o. AreNamed (seen s) (option_or (id_of a) (id_of b)) o) (sym (mapped_or (λ (c : KeyCard). c.key) x y))
      (either_named s all (id_of a) (id_of b) (key_of x) (key_of y) first second))

  passing_named : (cards : List Card) → AllByRecursion (IsCarded s) cards
      → AreNamed (seen s) (id_of (last_passing (card_may_move rule s.items) cards)) (key_of (last_passing (key_card_may_move rule (items_seen s)) (map (card_seen s.items) cards)))
  passing_named [] has = tt
  passing_named (card ∷ cards) has =
      let test = card_may_move rule s.items in
      let other = key_card_may_move rule (items_seen s) in
      let see = card_seen s.items in
      either_by (last_passing test cards) (cond (test card) (Some card) None) (last_passing other (map see cards)) (cond (other (see card)) (Some (see card)) None)
      (passing_named cards has.1)
      (subst (λ b. AreNamed (seen s) (id_of (cond (test card) (Some card) None)) (key_of (cond b (Some (see card)) None))) (passes_alike card has.0)
      (one_named card has.0 (test card)))

  pub next_named : AreNamed (seen s) (let test = card_may_move rule s.items in option_map (λ (card : Card). card.item) (option_or (last_passing test s.lists.cold) (option_or (last_passing test s.lists.warm) (last_passing test s.lists.hot))))
      (next_key_to_move rule (items_seen s) (lists_seen s.items s.lists))
  next_named =
      let test = card_may_move rule s.items in
      let other = key_card_may_move rule (items_seen s) in
      let see = card_seen s.items in
      subst (λ k. AreNamed (seen s) (id_of (option_or (last_passing test s.lists.cold) (option_or (last_passing test s.lists.warm) (last_passing test s.lists.hot)))) k)
      (sym (next_by_lists rule (items_seen s) (lists_seen s.items s.lists)))
      (either_by (last_passing test s.lists.cold) _ (last_passing other (map see s.lists.cold)) _ (passing_named s.lists.cold all.cold)
      (either_by (last_passing test s.lists.warm) (last_passing test s.lists.hot) (last_passing other (map see s.lists.warm)) (last_passing other (map see s.lists.hot)) (passing_named s.lists.warm all.warm) (passing_named s.lists.hot all.hot)))
