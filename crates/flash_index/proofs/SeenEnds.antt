-- The last ids and the ids before others are those of the keys.
use Rattle.std.proofs.Common.{ℕ, Bool, true, false, cond, List, [], ◌∷◌, map, Option, Some, None, option_map, ◌∙◌, ap, subst}
use Rattle.std.specs.List.{AllByRecursion, last_or}
use Rattle.std.specs.Option.{option_or}
use Rattle.std.specs.FinMap.{get}
use Rattle.flash_names.specs.declared.place.ItemId.{ItemId}
use Rattle.flash_lru.specs.declared.segment.Segment.{Segment}
use Rattle.flash_lru.specs.declared.segment.Segment.TheVariants.{Hot, Warm, Cold}
use Rattle.flash_lru.specs.declared.card.Card.{Card}
use Rattle.flash_lru.specs.Card as lru_card
use Rattle.flash_lru.specs.Lists as lru
use Rattle.flash_lru.specs.Ends as ends
use Rattle.flash_items.specs.ItemsState.{ItemsState}
use Rattle.flash_index.specs.KeyLists.{KeyCard, list_of}
use Rattle.flash_index.specs.KeyEnds.{last_key, last_out, before_from, before}
use Rattle.flash_index.specs.IndexState.{Names, AreNamed}
use Rattle.flash_index.specs.Seen.{card_seen, lists_seen, seen}
use Rattle.flash_index.proofs.SeenCards.{IsCarded, AllCarded, key_seen, IsTested, AllTested}

module _ (s : ItemsState) (all : AllCarded s) where
  pub either_named : (a b : Option ItemId) (x y : Option (List ℕ)) → AreNamed (seen s) a x → AreNamed (seen s) b y → AreNamed (seen s) (option_or a b) (option_or x y)
  either_named None b None y p q = q
  either_named (Some id) b (Some key) y p q = p
  either_named None b (Some key) y p q = absurd p
  either_named (Some id) b None y p q = absurd p

  cond_named : (t : Bool) (a b : Option ItemId) (x y : Option (List ℕ)) → AreNamed (seen s) a x → AreNamed (seen s) b y → AreNamed (seen s) (cond t a b) (cond t x y)
  cond_named true a b x y p q = p
  cond_named false a b x y p q = q

  pub card_named : (card : Card) → IsCarded s card → Names (seen s) card.item (card_seen s.items card).key
  card_named card has = ap (get s.ids) (key_seen s card has) ∙ has.named

  last_from_named : (first : Option Card) (cards : List Card) → AreNamed (seen s) (option_map (λ (c : Card). c.item) first) (option_map (λ (c : KeyCard). c.key) (option_map (card_seen s.items) first)) → AllByRecursion (IsCarded s) cards
      → AreNamed (seen s) (option_map (λ (c : Card). c.item) (last_or first cards)) (option_map (λ (c : KeyCard). c.key) (last_or (option_map (card_seen s.items) first) (map (card_seen s.items) cards)))
  last_from_named first [] named has = named
  last_from_named first (card ∷ cards) named has = last_from_named (Some card) cards (card_named card has.0) has.1

  last_named : (cards : List Card) → AllByRecursion (IsCarded s) cards → AreNamed (seen s) (ends.last_item cards) (last_key (map (card_seen s.items) cards))
  last_named cards has = last_from_named None cards tt has

  pub last_of_named : (segment : Segment) → AreNamed (seen s) (ends.last_item (lru.list_of segment s.lists)) (last_key (list_of segment (lists_seen s.items s.lists)))
  last_of_named Hot = last_named s.lists.hot all.hot
  last_of_named Warm = last_named s.lists.warm all.warm
  last_of_named Cold = last_named s.lists.cold all.cold

  pub last_out_named : AreNamed (seen s) (ends.last_out s.lists) (last_out (lists_seen s.items s.lists))
  last_out_named =
      either_named (ends.last_item s.lists.cold) _ (last_key (map (card_seen s.items) s.lists.cold)) _ (last_of_named Cold)
      (either_named (ends.last_item s.lists.warm) (ends.last_item s.lists.hot) (last_key (map (card_seen s.items) s.lists.warm)) (last_key (map (card_seen s.items) s.lists.hot)) (last_of_named Warm) (last_of_named Hot))

  module _ (id : ItemId) (key : List ℕ) (tests : AllTested s id key) where
    before_from_named : (previous : Option ItemId) (q : Option (List ℕ)) (cards : List Card) → AreNamed (seen s) previous q → AllByRecursion (IsCarded s) cards → AllByRecursion (IsTested s id key) cards
        → AreNamed (seen s) (ends.before_from previous id cards) (before_from q key (map (card_seen s.items) cards))
    before_from_named previous q [] named has test = tt
    before_from_named previous q (card ∷ cards) named has test =
        let rest = before_from_named (Some card.item) (Some (card_seen s.items card).key) cards (card_named card has.0) has.1 test.1 in
        subst (λ b. AreNamed (seen s) (cond (lru_card.is_of id card) previous (ends.before_from (Some card.item) id cards)) (cond b q (before_from (Some (card_seen s.items card).key) key (map (card_seen s.items) cards)))) test.0
        (cond_named (lru_card.is_of id card) previous (ends.before_from (Some card.item) id cards) q (before_from (Some (card_seen s.items card).key) key (map (card_seen s.items) cards)) named rest)

    pub before_named : AreNamed (seen s) (ends.before id s.lists) (before key (lists_seen s.items s.lists))
    before_named =
        either_named (ends.before_from None id s.lists.hot) _ (before_from None key (map (card_seen s.items) s.lists.hot)) _ (before_from_named None None s.lists.hot tt all.hot tests.hot)
        (either_named (ends.before_from None id s.lists.warm) (ends.before_from None id s.lists.cold) (before_from None key (map (card_seen s.items) s.lists.warm)) (before_from None key (map (card_seen s.items) s.lists.cold))
        (before_from_named None None s.lists.warm tt all.warm tests.warm) (before_from_named None None s.lists.cold tt all.cold tests.cold))
