-- The sizes of the cards after each change of the items and the lists.
use Rattle.std.proofs.Common.{◌≡◌, ℕ, true, false, cond, not, Bool, List, [], ◌∷◌, count_by, Option, Some, None, option_map, refl, sym, ◌∙◌, ap, subst, inl, inr, arith}
use Rattle.std.specs.List.{AllByRecursion}
use Rattle.std.specs.FinMap.{get, insert, remove}
use Rattle.std.specs.Str.{bytes_eq}
use Rattle.std.proofs.lemmas.Bool.{cases_Bool}
use Rattle.flash_lru.specs.declared.segment.Segment.{Segment}
use Rattle.flash_lru.specs.declared.segment.Segment.TheVariants.{Hot, Warm, Cold}
use Rattle.flash_lru.specs.Juggle.{goes_to}
use Rattle.flash_machine.specs.Item.{Item}
use Rattle.flash_machine.specs.Cache.{Items}
use Rattle.flash_machine.specs.Load.{item_load}
use Rattle.flash_index.specs.KeyLists.{KeyCard, KeyLists, is_of, without, removed, moved, with_active, touched, with_size, resized}
use Rattle.flash_index.specs.KeyEnds.{last_card}
use Rattle.flash_index.specs.KeyJuggle.{KeyMove, exceeds, from_full, from_cold, next_move}
use Rattle.flash_index.specs.Listed.{IsSized}
use Rattle.flash_index.proofs.Lookups.{true_false, none_some, same_key, key_itself, cases_key, put_here, put_else, cut_else}
use Rattle.flash_index.proofs.Passing.{last_passes}
use Rattle.flash_index.proofs.KeyCards.{count_cons}

-- the size of the item of a key
abbrev pub size_at : Items → List ℕ → Option ℕ
size_at items key = option_map (item_load key) (get items key)

-- each card of the list has its item's size
abbrev pub AreSized : Items → List KeyCard → Type 0
AreSized items cards = AllByRecursion (IsSized items) cards

-- the three lists have the sizes of their items
pub record AllSized (items : Items) (lists : KeyLists) : Type 0 where
  pub hot : AreSized items lists.hot
  pub warm : AreSized items lists.warm
  pub cold : AreSized items lists.cold

-- sizes that are the same for every other item
abbrev pub SameElse : Items → Items → List ℕ → Type 0
SameElse old new key = (q : List ℕ) → (q ≡ key → ⊥) → size_at new q ≡ size_at old q

pub size_put : (items : Items) (key : List ℕ) (item : Item) → size_at (insert items key item) key ≡ Some (item_load key item)
size_put items key item = ap (option_map (item_load key)) (put_here items key item)

pub size_put_else : (items : Items) (key : List ℕ) (item : Item) → SameElse items (insert items key item) key
size_put_else items key item q n = ap (option_map (item_load q)) (put_else items key item q n)

pub size_cut_else : (items : Items) (key : List ℕ) → SameElse items (remove items key) key
size_cut_else items key q n = ap (option_map (item_load q)) (cut_else items key q n)

-- an item of the same size
pub size_kept : (items : Items) (key : List ℕ) (was now : Item) → get items key ≡ Some was → item_load key now ≡ item_load key was → (q : List ℕ) → size_at (insert items key now) q ≡ size_at items q
size_kept items key was now there size q = elim (cases_key q key) [
  | inl at ↦ subst (λ k. size_at (insert items key now) k ≡ size_at items k) (sym at)
      (size_put items key now ∙ ap (λ n. Some n) size ∙ sym (ap (option_map (item_load key)) there))
  | inr apart ↦ size_put_else items key now q apart
]

pub sized_same : (old new : Items) → ((q : List ℕ) → size_at new q ≡ size_at old q) → (cards : List KeyCard) → AreSized old cards → AreSized new cards
sized_same old new same [] sized = tt
sized_same old new same (card ∷ cards) sized = (same card.key ∙ sized.0, sized_same old new same cards sized.1)

-- a card of another key
pub apart_of : (key : List ℕ) (card : KeyCard) → is_of key card ≡ false → card.key ≡ key → ⊥
apart_of key card e at = true_false (sym (ap (bytes_eq key) at ∙ key_itself key) ∙ e)

pub sized_without : (old new : Items) (key : List ℕ) → SameElse old new key → (cards : List KeyCard) → AreSized old cards → AreSized new (without key cards)
sized_without old new key same [] sized = tt
sized_without old new key same (card ∷ cards) sized = elim (cases_Bool (is_of key card)) [
  | inl e ↦ subst (λ b. AreSized new (cond (not b) (card ∷ without key cards) (without key cards))) (sym e) (sized_without old new key same cards sized.1)
  | inr e ↦
      subst (λ b. AreSized new (cond (not b) (card ∷ without key cards) (without key cards))) (sym e)
      (same card.key (apart_of key card e) ∙ sized.0, sized_without old new key same cards sized.1)
]

-- cards of which none is the key's
pub sized_else : (old new : Items) (key : List ℕ) → SameElse old new key → (cards : List KeyCard) → count_by (is_of key) cards ≡ 0 → AreSized old cards → AreSized new cards
sized_else old new key same [] none sized = tt
sized_else old new key same (card ∷ cards) none sized = elim (cases_Bool (is_of key card)) [
  | inl e ↦ absurd (omega (arith, none, count_cons key card cards true e))
  | inr e ↦
      (same card.key (apart_of key card e) ∙ sized.0, sized_else old new key same cards (omega (arith, none, count_cons key card cards false e)) sized.1)
]

sized_active : (items : Items) (key : List ℕ) (cards : List KeyCard) → AreSized items cards → AreSized items (with_active key cards)
sized_active items key [] sized = tt
sized_active items key (card ∷ cards) sized =
    let first : IsSized items (cond (is_of key card) (record card { active = true }) card) = elim (cases_Bool (is_of key card)) [
      | inl e ↦ subst (λ b. IsSized items (cond b (record card { active = true }) card)) (sym e) sized.0
      | inr e ↦ subst (λ b. IsSized items (cond b (record card { active = true }) card)) (sym e) sized.0
    ] in
    (first, sized_active items key cards sized.1)

pub touched_sized : (items : Items) (key : List ℕ) (lists : KeyLists) → AllSized items lists → AllSized items (touched key lists)
touched_sized items key lists sized = record {
  hot = sized_active items key lists.hot sized.hot;
  warm = sized_active items key lists.warm sized.warm;
  cold = sized_active items key lists.cold sized.cold;
}

-- the key's card has the size of its new item
sized_anew : (items : Items) (key : List ℕ) (now : Item) (cards : List KeyCard) → AreSized items cards → AreSized (insert items key now) (with_size key (item_load key now) cards)
sized_anew items key now [] sized = tt
sized_anew items key now (card ∷ cards) sized =
    let new = insert items key now in
    let first : IsSized new (cond (is_of key card) (record card { size = item_load key now }) card) = elim (cases_Bool (is_of key card)) [
      | inl e ↦ subst (λ b. IsSized new (cond b (record card { size = item_load key now }) card)) (sym e)
          (subst (λ k. size_at new k ≡ Some (item_load key now)) (same_key key card.key e) (size_put items key now))
      | inr e ↦ subst (λ b. IsSized new (cond b (record card { size = item_load key now }) card)) (sym e)
          (size_put_else items key now card.key (apart_of key card e) ∙ sized.0)
    ] in
    (first, sized_anew items key now cards sized.1)

pub resized_sized : (items : Items) (key : List ℕ) (now : Item) (lists : KeyLists) → AllSized items lists → AllSized (insert items key now) (resized key (item_load key now) lists)
resized_sized items key now lists sized = record {
  hot = sized_anew items key now lists.hot sized.hot;
  warm = sized_anew items key now lists.warm sized.warm;
  cold = sized_anew items key now lists.cold sized.cold;
}

pub removed_sized : (old new : Items) (key : List ℕ) (lists : KeyLists) → SameElse old new key → AllSized old lists → AllSized new (removed key lists)
removed_sized old new key lists same sized = record {
  hot = sized_without old new key same lists.hot sized.hot;
  warm = sized_without old new key same lists.warm sized.warm;
  cold = sized_without old new key same lists.cold sized.cold;
}

pub moved_sized : (segment : Segment) (old new : Items) (key : List ℕ) (size : ℕ) (lists : KeyLists) → SameElse old new key → size_at new key ≡ Some size → AllSized old lists → AllSized new (moved segment key size lists)
moved_sized Hot old new key size lists same now sized =
    let rest = removed_sized old new key lists same sized in record { hot = (now, rest.hot); warm = rest.warm; cold = rest.cold }
moved_sized Warm old new key size lists same now sized =
    let rest = removed_sized old new key lists same sized in record { hot = rest.hot; warm = (now, rest.warm); cold = rest.cold }
moved_sized Cold old new key size lists same now sized =
    let rest = removed_sized old new key lists same sized in record { hot = rest.hot; warm = rest.warm; cold = (now, rest.cold) }

-- the last card of a list has its item's size
pub last_sized : (items : Items) (cards : List KeyCard) (last : KeyCard) → AreSized items cards → last_card cards ≡ Some last → IsSized items last
last_sized items cards last sized is = last_passes (IsSized items) cards last sized is

-- the card that moves has its item's size
abbrev pub MovesSized : Items → Option KeyMove → Type 0
MovesSized items o = (move : KeyMove) → o ≡ Some move → IsSized items move.card

full_sized : (items : Items) (last : Option KeyCard) → ((card : KeyCard) → last ≡ Some card → IsSized items card) → MovesSized items (from_full last)
full_sized items None sized move is = absurd (none_some move is)
full_sized items (Some card) sized move is =
    let e : (let m : KeyMove = record { card = card; to = goes_to card.active } in m) ≡ move = cc in
    subst (λ (m : KeyMove). IsSized items m.card) e (sized card refl)

cold_sized : (items : Items) (last : Option KeyCard) → ((card : KeyCard) → last ≡ Some card → IsSized items card) → MovesSized items (from_cold last)
cold_sized items None sized move is = absurd (none_some move is)
cold_sized items (Some card) sized move is = by card.active is where
  by : (b : Bool) → cond b (Some (let m : KeyMove = record { card = card; to = Warm } in m)) None ≡ Some move → IsSized items move.card
  by true on = let e : (let m : KeyMove = record { card = card; to = Warm } in m) ≡ move = cc in subst (λ (m : KeyMove). IsSized items m.card) e (sized card refl)
  by false off = absurd (none_some move off)

first_sized : (items : Items) (b : Bool) (one other : Option KeyMove) → MovesSized items one → MovesSized items other → MovesSized items (cond b one other)
first_sized items true one other p q = p
first_sized items false one other p q = q

pub move_sized : (items : Items) (memory : ℕ) (lists : KeyLists) → AllSized items lists → MovesSized items (next_move memory lists)
move_sized items memory lists sized =
    first_sized items (exceeds memory 20 lists.hot) (from_full (last_card lists.hot)) _
    (full_sized items (last_card lists.hot) (λ card. last_sized items lists.hot card sized.hot))
    (first_sized items (exceeds memory 40 lists.warm) (from_full (last_card lists.warm)) (from_cold (last_card lists.cold))
    (full_sized items (last_card lists.warm) (λ card. last_sized items lists.warm card sized.warm))
    (cold_sized items (last_card lists.cold) (λ card. last_sized items lists.cold card sized.cold)))
