-- The lists by key are those by id, with each id's key.
use Rattle.std.proofs.Common.{◌≡◌, ℕ, ◌+◌, Bool, true, false, cond, not, List, [], ◌∷◌, map, count_by, Option, Some, None, option_map, refl, sym, ◌∙◌, ap, inl, inr, arith, eq-eqb, ne_eqb}
use Rattle.std.specs.List.{AllByRecursion}
use Rattle.std.specs.FinMap.{get}
use Rattle.std.specs.Str.{bytes_eq}
use Rattle.std.proofs.lemmas.Bool.{cases_eq}
use Rattle.std.proofs.lemmas.List.Sums.{sum_by-cons}
use Rattle.flash_names.specs.declared.place.ItemId.{ItemId}
use Rattle.flash_lru.specs.declared.segment.Segment.{Segment}
use Rattle.flash_lru.specs.declared.segment.Segment.TheVariants.{Hot, Warm, Cold}
use Rattle.flash_lru.specs.declared.card.Card.{Card}
use Rattle.flash_lru.specs.Card as lru_card
use Rattle.flash_lru.specs.Lists as lru
use Rattle.flash_lru.specs.Moves as lru_moves
use Rattle.flash_items.specs.declared.item.Item.{Item}
use Rattle.flash_items.specs.Item.{item_size}
use Rattle.flash_items.specs.ItemsState.{ItemMap, ItemsState, item_at, AreSized}
use Rattle.flash_items.specs.Law.{IsInStep}
use Rattle.flash_index.specs.KeyLists.{KeyCard, is_of, idle, cards_of, without, removed, moved, touched, resized}
use Rattle.flash_index.specs.Seen.{key_or, card_seen, lists_seen}
use Rattle.flash_index.proofs.Lookups.{none_some, key_itself, other_key}
use Rattle.flash_index.proofs.Passing.{all_by}
use Rattle.flash_index.proofs.KeyCards.{changed, count_cons}

pub one_value : {X : Type 0} (o : Option X) (x y : X) → o ≡ Some x → o ≡ Some y → x ≡ y
one_value {X} o x y ex ey = (let e : Some x ≡ Some y = sym ex ∙ ey in cc)

-- the card's id has an item, whose key has this id
pub record IsCarded (s : ItemsState) (card : Card) : Type 0 where
  pub item : Item
  pub at : get s.items card.item.key ≡ Some item
  pub named : get s.ids item.key ≡ Some card.item.key
  pub size : item_size item ≡ card.size

-- so do all cards of the lists
pub record AllCarded (s : ItemsState) : Type 0 where
  pub hot : AllByRecursion (IsCarded s) s.lists.hot
  pub warm : AllByRecursion (IsCarded s) s.lists.warm
  pub cold : AllByRecursion (IsCarded s) s.lists.cold

module _ (s : ItemsState) (step : IsInStep s) where
  card_by : (card : Card) (o : Option Item) → get s.items card.item.key ≡ o → option_map item_size o ≡ Some card.size → IsCarded s card
  card_by card None at size = absurd (none_some card.size size)
  card_by card (Some item) at size = record { item = item; at = at; named = step.key_found card.item.key item at; size = cc }

  cards_by : (cards : List Card) → AreSized s.items cards → AllByRecursion (IsCarded s) cards
  cards_by [] sized = tt
  cards_by (card ∷ cards) sized = (card_by card (get s.items card.item.key) refl sized.0, cards_by cards sized.1)

  pub all_carded : AllCarded s
  all_carded = record {
    hot = cards_by s.lists.hot step.sized.0;
    warm = cards_by s.lists.warm step.sized.1;
    cold = cards_by s.lists.cold step.sized.2;
  }

-- the key of a card
pub key_seen : (s : ItemsState) (card : Card) (has : IsCarded s card) → (card_seen s.items card).key ≡ has.item.key
key_seen s card has = ap key_or has.at

-- the test of a card by the id is that by the key
abbrev pub IsTested : ItemsState → ItemId → List ℕ → Card → Type 0
IsTested s id key card = lru_card.is_of id card ≡ is_of key (card_seen s.items card)

pub record AllTested (s : ItemsState) (id : ItemId) (key : List ℕ) : Type 0 where
  pub hot : AllByRecursion (IsTested s id key) s.lists.hot
  pub warm : AllByRecursion (IsTested s id key) s.lists.warm
  pub cold : AllByRecursion (IsTested s id key) s.lists.cold

all_tested : (s : ItemsState) (id : ItemId) (key : List ℕ) → AllCarded s → ((card : Card) → IsCarded s card → IsTested s id key card) → AllTested s id key
all_tested s id key all test = record {
  hot = all_by (IsCarded s) (IsTested s id key) test s.lists.hot all.hot;
  warm = all_by (IsCarded s) (IsTested s id key) test s.lists.warm all.warm;
  cold = all_by (IsCarded s) (IsTested s id key) test s.lists.cold all.cold;
}

module _ (s : ItemsState) (step : IsInStep s) (id : ItemId) (key : List ℕ) where
  both_true : (card : Card) (has : IsCarded s card) → has.item.key ≡ key → lru_card.is_of id card ≡ true → IsTested s id key card
  both_true card has same is = is ∙ sym (ap (bytes_eq key) (key_seen s card has ∙ same) ∙ key_itself key)

  both_false : (card : Card) (has : IsCarded s card) → (key ≡ has.item.key → ⊥) → lru_card.is_of id card ≡ false → IsTested s id key card
  both_false card has apart is = is ∙ sym (ap (bytes_eq key) (key_seen s card has) ∙ other_key key has.item.key apart)

  -- the key has the id
  test_named : get s.ids key ≡ Some id.key → (card : Card) → IsCarded s card → IsTested s id key card
  test_named named card has = elim (cases_eq card.item.key id.key) [
    | inl at ↦
        (let found = step.item_found key id.key named in
        let same : has.item ≡ found.0 = one_value (get s.items id.key) has.item found.0 (ap (get s.items) (sym at) ∙ has.at) found.1 in
        both_true card has (ap (λ (i : Item). i.key) same ∙ found.2) (eq-eqb card.item.key id.key at))
    | inr apart ↦
        both_false card has (λ same. apart (one_value (get s.ids key) card.item.key id.key (ap (get s.ids) same ∙ has.named) named)) (ne_eqb card.item.key id.key apart)
  ]

  pub tested_named : get s.ids key ≡ Some id.key → AllTested s id key
  tested_named named = all_tested s id key (all_carded s step) (test_named named)

  -- there is neither the key nor the id
  test_new : get s.ids key ≡ None → item_at s id ≡ None → (card : Card) → IsCarded s card → IsTested s id key card
  test_new absent fresh card has =
      both_false card has (λ same. none_some card.item.key (sym absent ∙ ap (get s.ids) same ∙ has.named))
      (ne_eqb card.item.key id.key (λ at. none_some has.item (sym fresh ∙ ap (get s.items) (sym at) ∙ has.at)))

  pub tested_new : get s.ids key ≡ None → item_at s id ≡ None → AllTested s id key
  tested_new absent fresh = all_tested s id key (all_carded s step) (test_new absent fresh)

  -- no other key has the id
  pub only_named : get s.ids key ≡ Some id.key → (q : List ℕ) → (q ≡ key → ⊥) → get s.ids q ≡ Some id.key → ⊥
  only_named named q apart other =
      let one = step.item_found key id.key named in
      let two = step.item_found q id.key other in
      apart (sym two.2 ∙ ap (λ (i : Item). i.key) (one_value (get s.items id.key) two.0 one.0 two.1 one.1) ∙ one.2)

  pub only_new : item_at s id ≡ None → (q : List ℕ) → (q ≡ key → ⊥) → get s.ids q ≡ Some id.key → ⊥
  only_new fresh q apart other = let two = step.item_found q id.key other in none_some two.0 (sym fresh ∙ two.1)

-- the items are the same but for this id's
abbrev pub SameItems : ItemMap → ItemMap → ItemId → Type 0
SameItems old new id = (n : ℕ) → (n ≡ id.key → ⊥) → get new n ≡ get old n

module _ (s : ItemsState) (new : ItemMap) (id : ItemId) (key : List ℕ) (else : SameItems s.items new id) where
  without_step : (card : Card) (cards : List Card) (rest : List KeyCard) (b : Bool) → lru_card.is_of id card ≡ b → map (card_seen new) cards ≡ rest
      → map (card_seen new) (cond (not b) (card ∷ cards) cards) ≡ cond (not b) (card_seen s.items card ∷ rest) rest
  without_step card cards rest true is same = same
  without_step card cards rest false is same =
      let apart : card.item.key ≡ id.key → ⊥ = λ at. (let both : true ≡ false = sym (eq-eqb card.item.key id.key at) ∙ is in absurd (cc both)) in
      let first : card_seen new card ≡ card_seen s.items card = ap (λ (o : Option Item). let c : KeyCard = record { key = key_or o; size = card.size; active = card.active } in c) (else card.item.key apart) in
      ap (λ c. c ∷ map (card_seen new) cards) first ∙ ap (λ l. card_seen s.items card ∷ l) same

  without_seen : (cards : List Card) → AllByRecursion (IsTested s id key) cards → map (card_seen new) (lru_moves.without id cards) ≡ without key (map (card_seen s.items) cards)
  without_seen [] all = refl
  without_seen (card ∷ cards) all =
      without_step card (lru_moves.without id cards) (without key (map (card_seen s.items) cards)) (lru_card.is_of id card) refl (without_seen cards all.1)
      ∙ ap (λ b. cond (not b) (card_seen s.items card ∷ without key (map (card_seen s.items) cards)) (without key (map (card_seen s.items) cards))) all.0

  pub removed_seen : AllTested s id key → lists_seen new (lru_moves.removed id s.lists) ≡ removed key (lists_seen s.items s.lists)
  removed_seen all =
      let hot = without_seen s.lists.hot all.hot in
      let warm = without_seen s.lists.warm all.warm in
      let cold = without_seen s.lists.cold all.cold in
      λ i. record { hot = hot i; warm = warm i; cold = cold i }

  pub moved_seen : (segment : Segment) (size : ℕ) → key_or (get new id.key) ≡ key → AllTested s id key → lists_seen new (lru_moves.moved segment id size s.lists) ≡ moved segment key size (lists_seen s.items s.lists)
  moved_seen Hot size this all = let rest = removed_seen all in λ i. record { hot = idle (this i) size ∷ (rest i).hot; warm = (rest i).warm; cold = (rest i).cold }
  moved_seen Warm size this all = let rest = removed_seen all in λ i. record { hot = (rest i).hot; warm = idle (this i) size ∷ (rest i).warm; cold = (rest i).cold }
  moved_seen Cold size this all = let rest = removed_seen all in λ i. record { hot = (rest i).hot; warm = (rest i).warm; cold = idle (this i) size ∷ (rest i).cold }

module _ (s : ItemsState) (id : ItemId) (key : List ℕ) where
  change_step : (card : Card) (b : Bool) (f : Card → Card) (g : KeyCard → KeyCard) → card_seen s.items (f card) ≡ g (card_seen s.items card) → card_seen s.items (cond b (f card) card) ≡ cond b (g (card_seen s.items card)) (card_seen s.items card)
  change_step card true f g same = same
  change_step card false f g same = refl

  -- the id's card is changed where it is
  change_seen : (f : Card → Card) (g : KeyCard → KeyCard) → ((card : Card) → card_seen s.items (f card) ≡ g (card_seen s.items card)) → (cards : List Card) → AllByRecursion (IsTested s id key) cards
      → map (card_seen s.items) (lru_moves.with_change id f cards) ≡ map (λ c. cond (is_of key c) (g c) c) (map (card_seen s.items) cards)
  change_seen f g same [] all = refl
  change_seen f g same (card ∷ cards) all =
      let first : card_seen s.items (cond (lru_card.is_of id card) (f card) card) ≡ cond (is_of key (card_seen s.items card)) (g (card_seen s.items card)) (card_seen s.items card) =
      change_step card (lru_card.is_of id card) f g (same card) ∙ ap (λ b. cond b (g (card_seen s.items card)) (card_seen s.items card)) all.0 in
      let rest = change_seen f g same cards all.1 in λ i. first i ∷ rest i

  changed_seen : (f : Card → Card) (g : KeyCard → KeyCard) → ((card : Card) → card_seen s.items (f card) ≡ g (card_seen s.items card)) → AllTested s id key
      → lists_seen s.items (lru_moves.changed id f s.lists) ≡ changed key g (lists_seen s.items s.lists)
  changed_seen f g same all =
      let hot = change_seen f g same s.lists.hot all.hot in
      let warm = change_seen f g same s.lists.warm all.warm in
      let cold = change_seen f g same s.lists.cold all.cold in
      λ i. record { hot = hot i; warm = warm i; cold = cold i }

  pub touched_seen : AllTested s id key → lists_seen s.items (lru_moves.touched id s.lists) ≡ touched key (lists_seen s.items s.lists)
  touched_seen all = changed_seen (λ card. record card { active = true }) (λ card. record card { active = true }) (λ _. refl) all

  pub resized_seen : (size : ℕ) → AllTested s id key → lists_seen s.items (lru_moves.resized id size s.lists) ≡ resized key size (lists_seen s.items s.lists)
  resized_seen size all = changed_seen (λ card. record card { size = size }) (λ card. record card { size = size }) (λ _. refl) all

  count_seen : (cards : List Card) → AllByRecursion (IsTested s id key) cards → count_by (is_of key) (map (card_seen s.items) cards) ≡ count_by (lru_card.is_of id) cards
  count_seen [] all = refl
  count_seen (card ∷ cards) all =
      count_cons key (card_seen s.items card) (map (card_seen s.items) cards) (lru_card.is_of id card) (sym all.0)
      ∙ ap (λ n. cond (lru_card.is_of id card) 1 0 + n) (count_seen cards all.1)
      ∙ sym (sum_by-cons (λ (c : Card). cond (lru_card.is_of id c) 1 0) card cards)

  pub cards_seen : AllTested s id key → cards_of key (lists_seen s.items s.lists) ≡ lru.cards_of id s.lists
  cards_seen all = omega (arith, count_seen s.lists.hot all.hot, count_seen s.lists.warm all.warm, count_seen s.lists.cold all.cold)

-- a card is seen by its key alone
same_cards : (old new : ItemMap) → ((n : ℕ) → key_or (get new n) ≡ key_or (get old n)) → (cards : List Card) → map (card_seen new) cards ≡ map (card_seen old) cards
same_cards old new keys [] = refl
same_cards old new keys (card ∷ cards) =
    let key = keys card.item.key in
    let rest = same_cards old new keys cards in
    λ i. (let c : KeyCard = record { key = key i; size = card.size; active = card.active } in c) ∷ rest i

pub same_lists : (old new : ItemMap) (lists : lru.SegmentLists) → ((n : ℕ) → key_or (get new n) ≡ key_or (get old n)) → lists_seen new lists ≡ lists_seen old lists
same_lists old new lists keys =
    let hot = same_cards old new keys lists.hot in
    let warm = same_cards old new keys lists.warm in
    let cold = same_cards old new keys lists.cold in
    λ i. record { hot = hot i; warm = warm i; cold = cold i }
