-- The lists by key have each key of an item once, with the item's size.
use Rattle.std.proofs.Common.{◌≡◌, ℕ, false, cond, List, [], ◌∷◌, map, count_by, Option, Some, None, IsSome, is_some, option_map, refl, sym, ◌∙◌, ap, subst, arith}
use Rattle.std.specs.Prelude.{◌<◌}
use Rattle.std.specs.List.{AllByRecursion}
use Rattle.std.specs.FinMap.{get}
use Rattle.flash_names.specs.declared.place.ItemId.{ItemId}
use Rattle.flash_lru.specs.declared.card.Card.{Card}
use Rattle.flash_lru.specs.Lists as lru
use Rattle.flash_lru.specs.Juggle as juggle
use Rattle.flash_items.specs.declared.item.Item.{Item}
use Rattle.flash_items.specs.ItemsState.{ItemsState, item_at}
use Rattle.flash_items.specs.Law.{IsInStep}
use Rattle.flash_machine.specs.Load.{item_load, load_of}
use Rattle.flash_index.specs.KeyLists.{is_of, cards_of}
use Rattle.flash_index.specs.Listed.{IsSized, IsListed}
use Rattle.flash_index.specs.Seen.{card_seen, lists_seen, items_seen}
use Rattle.flash_index.proofs.Lookups.{none_some, other_key}
use Rattle.flash_index.proofs.KeyCards.{count_cons}
use Rattle.flash_index.proofs.LoadLemmas.{load_listed}
use Rattle.flash_index.proofs.SeenItems.{is_there, get_named, load_known}
use Rattle.flash_index.proofs.SeenCards.{IsCarded, all_carded, key_seen, tested_named, cards_seen}
use Rattle.flash_index.proofs.SeenJuggle.{load_seen}

module _ (s : ItemsState) (step : IsInStep s) where
  sized_card : (card : Card) → IsCarded s card → IsSized (items_seen s) (card_seen s.items card)
  sized_card card has =
      subst (λ k. option_map (item_load k) (get (items_seen s) k) ≡ Some card.size) (sym (key_seen s card has))
      (ap (option_map (item_load has.item.key)) (get_named s card.item.key has.item.key has.item has.named has.at)
      ∙ ap (λ n. Some n) (load_known has.item ∙ has.size))

  sized_cards : (cards : List Card) → AllByRecursion (IsCarded s) cards → AllByRecursion (IsSized (items_seen s)) (map (card_seen s.items) cards)
  sized_cards [] all = tt
  sized_cards (card ∷ cards) all = (sized_card card all.0, sized_cards cards all.1)

  -- a key without an id has no card
  no_cards : (key : List ℕ) → get s.ids key ≡ None → (cards : List Card) → AllByRecursion (IsCarded s) cards → count_by (is_of key) (map (card_seen s.items) cards) ≡ 0
  no_cards key none [] all = refl
  no_cards key none (card ∷ cards) all =
      let apart : key ≡ (card_seen s.items card).key → ⊥ = λ same.
      none_some card.item.key (sym none ∙ ap (get s.ids) (same ∙ key_seen s card all.0) ∙ all.0.named) in
      omega (arith, count_cons key (card_seen s.items card) (map (card_seen s.items) cards) false (other_key key (card_seen s.items card).key apart), no_cards key none cards all.1)

  some_of : (o : Option Item) (item : Item) → o ≡ Some item → IsSome o
  some_of o item is = subst (λ (p : Option Item). IsSome p) (sym is) refl

  one_by : (key : List ℕ) (o : Option ℕ) → get s.ids key ≡ o → cards_of key (lists_seen s.items s.lists) ≡ cond (is_some o) 1 0
  one_by key None is =
      let all = all_carded s step in
      omega (arith, no_cards key is s.lists.hot all.hot, no_cards key is s.lists.warm all.warm, no_cards key is s.lists.cold all.cold)
  one_by key (Some n) is =
      let id : ItemId = record { key = n } in
      let found = step.item_found key n is in
      let some : 0 < lru.cards_of id s.lists = (step.carded id).1 (some_of (item_at s id) found.0 found.1) in
      omega (arith, some, step.once id, cards_seen s id key (tested_named s step id key is))

  pub listed_seen : IsListed (items_seen s) (lists_seen s.items s.lists)
  listed_seen =
      let all = all_carded s step in
      record {
        one = λ key. one_by key (get s.ids key) refl ∙ ap (λ b. cond b 1 0) (sym (is_there s key));
        hot = sized_cards s.lists.hot all.hot;
        warm = sized_cards s.lists.warm all.warm;
        cold = sized_cards s.lists.cold all.cold;
      }

  pub load_is : juggle.load_of s.lists ≡ load_of (items_seen s)
  load_is = sym (load_seen s.items s.lists) ∙ sym (load_listed (items_seen s) (lists_seen s.items s.lists) listed_seen)
