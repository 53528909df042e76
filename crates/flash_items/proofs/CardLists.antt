-- The lists of cards after each call: whose cards they have, and of which sizes.
use Rattle.std.proofs.Common.{◌≡◌, ℕ, ◌+◌, Bool, true, false, cond, not, eqb, List, [], ◌∷◌, count_by, Option, Some, refl, sym, ◌∙◌, ap, subst, inl, inr, arith, eqb-true, eq-eqb, ne_eqb}
use Rattle.std.specs.List.{last_or}
use Rattle.std.proofs.lemmas.Bool.{cases_Bool}
use Rattle.std.proofs.lemmas.List.Sums.{sum_by-cons}
use Rattle.flash_names.specs.declared.place.ItemId.{ItemId}
use Rattle.flash_lru.specs.declared.card.Card.{Card}
use Rattle.flash_lru.specs.Card.{is_of}
use Rattle.flash_lru.specs.Moves.{without, with_change}
use Rattle.flash_items.specs.ItemsState.{ItemMap, size_at, AreSized}

true_false : true ≡ false → ⊥
true_false e = cc

pub count_cons : (id : ItemId) (card : Card) (cards : List Card) (b : Bool) → is_of id card ≡ b → count_by (is_of id) (card ∷ cards) ≡ cond b 1 0 + count_by (is_of id) cards
count_cons id card cards b e = sum_by-cons (λ (c : Card). cond (is_of id c) 1 0) card cards ∙ ap (λ t. cond t 1 0 + count_by (is_of id) cards) e

-- the cards of other items
pub count_without_same : (id : ItemId) (cards : List Card) → count_by (is_of id) (without id cards) ≡ 0
count_without_same id [] = refl
count_without_same id (card ∷ cards) = elim (cases_Bool (is_of id card)) [
  | inl e ↦ ap (λ b. count_by (is_of id) (cond (not b) (card ∷ without id cards) (without id cards))) e ∙ count_without_same id cards
  | inr e ↦
      ap (λ b. count_by (is_of id) (cond (not b) (card ∷ without id cards) (without id cards))) e
      ∙ count_cons id card (without id cards) false e ∙ omega (arith, count_without_same id cards)
]

not_both : (id other : ItemId) (card : Card) → (other.key ≡ id.key → ⊥) → is_of id card ≡ true → is_of other card ≡ false
not_both id other card n e = ne_eqb card.item.key other.key (λ same. n (sym same ∙ eqb-true card.item.key id.key e))

pub count_without : (id other : ItemId) (cards : List Card) → (other.key ≡ id.key → ⊥) → count_by (is_of other) (without id cards) ≡ count_by (is_of other) cards
count_without id other [] n = refl
count_without id other (card ∷ cards) n = elim (cases_Bool (is_of id card)) [
  | inl e ↦
      ap (λ b. count_by (is_of other) (cond (not b) (card ∷ without id cards) (without id cards))) e
      ∙ count_without id other cards n ∙ omega (arith, count_cons other card cards false (not_both id other card n e))
  | inr e ↦
      ap (λ b. count_by (is_of other) (cond (not b) (card ∷ without id cards) (without id cards))) e
      ∙ count_cons other card (without id cards) (is_of other card) refl
      ∙ ap (λ k. cond (is_of other card) 1 0 + k) (count_without id other cards n)
      ∙ sym (count_cons other card cards (is_of other card) refl)
]

pub count_change : (id other : ItemId) (change : Card → Card) → ((card : Card) → (change card).item.key ≡ card.item.key) → (cards : List Card) → count_by (is_of other) (with_change id change cards) ≡ count_by (is_of other) cards
count_change id other change keeps [] = refl
count_change id other change keeps (card ∷ cards) =
    let now : Card = cond (is_of id card) (change card) card in
    let same : is_of other (cond (is_of id card) (change card) card) ≡ is_of other card = elim (cases_Bool (is_of id card)) [
      | inl e ↦ ap (λ b. is_of other (cond b (change card) card)) e ∙ ap (λ k. eqb k other.key) (keeps card)
      | inr e ↦ ap (λ b. is_of other (cond b (change card) card)) e
    ] in
    count_cons other (cond (is_of id card) (change card) card) (with_change id change cards) (is_of other card) same
    ∙ ap (λ k. cond (is_of other card) 1 0 + k) (count_change id other change keeps cards)
    ∙ sym (count_cons other card cards (is_of other card) refl)

-- sizes that are the same for every other item
abbrev pub SameElse : ItemMap → ItemMap → ℕ → Type 0
SameElse old new number = (n : ℕ) → (n ≡ number → ⊥) → size_at new n ≡ size_at old n

pub sized_without : (old new : ItemMap) (id : ItemId) → SameElse old new id.key → (cards : List Card) → AreSized old cards → AreSized new (without id cards)
sized_without old new id same [] sized = tt
sized_without old new id same (card ∷ cards) sized = elim (cases_Bool (is_of id card)) [
  | inl e ↦ subst (λ b. AreSized new (cond (not b) (card ∷ without id cards) (without id cards))) (sym e) (sized_without old new id same cards sized.1)
  | inr e ↦
      subst (λ b. AreSized new (cond (not b) (card ∷ without id cards) (without id cards))) (sym e)
      (same card.item.key (λ at. true_false (sym (eq-eqb card.item.key id.key at) ∙ e)) ∙ sized.0, sized_without old new id same cards sized.1)
]

pub sized_same : (old new : ItemMap) → ((n : ℕ) → size_at new n ≡ size_at old n) → (cards : List Card) → AreSized old cards → AreSized new cards
sized_same old new same [] sized = tt
sized_same old new same (card ∷ cards) sized = (same card.item.key ∙ sized.0, sized_same old new same cards sized.1)

-- the item's card gets the size that the item has now
pub sized_resized : (old new : ItemMap) (id : ItemId) (size : ℕ) → SameElse old new id.key → size_at new id.key ≡ Some size → (cards : List Card) → AreSized old cards → AreSized new (with_change id (λ card. record card { size = size }) cards)
sized_resized old new id size same now [] sized = tt
sized_resized old new id size same now (card ∷ cards) sized = elim (cases_Bool (is_of id card)) [
  | inl e ↦
      (let first : size_at new (cond (is_of id card) (record card { size = size }) card).item.key ≡ Some (cond (is_of id card) (record card { size = size }) card).size =
      subst (λ b. size_at new (cond b (record card { size = size }) card).item.key ≡ Some (cond b (record card { size = size }) card).size) (sym e)
      (ap (size_at new) (eqb-true card.item.key id.key e) ∙ now) in
      (first, sized_resized old new id size same now cards sized.1))
  | inr e ↦
      (let first : size_at new (cond (is_of id card) (record card { size = size }) card).item.key ≡ Some (cond (is_of id card) (record card { size = size }) card).size =
      subst (λ b. size_at new (cond b (record card { size = size }) card).item.key ≡ Some (cond b (record card { size = size }) card).size) (sym e)
      (same card.item.key (λ at. true_false (sym (eq-eqb card.item.key id.key at) ∙ e)) ∙ sized.0) in
      (first, sized_resized old new id size same now cards sized.1))
]

pub sized_touched : (items : ItemMap) (id : ItemId) (cards : List Card) → AreSized items cards → AreSized items (with_change id (λ card. record card { active = true }) cards)
sized_touched items id [] sized = tt
sized_touched items id (card ∷ cards) sized =
    let first : size_at items (cond (is_of id card) (record card { active = true }) card).item.key ≡ Some (cond (is_of id card) (record card { active = true }) card).size = elim (cases_Bool (is_of id card)) [
      | inl e ↦ subst (λ b. size_at items (cond b (record card { active = true }) card).item.key ≡ Some (cond b (record card { active = true }) card).size) (sym e) sized.0
      | inr e ↦ subst (λ b. size_at items (cond b (record card { active = true }) card).item.key ≡ Some (cond b (record card { active = true }) card).size) (sym e) sized.0
    ] in
    (first, sized_touched items id cards sized.1)

-- the last card of a list has its item's size
pub sized_last : (items : ItemMap) (first : Option Card) (cards : List Card) (last : Card) → ((card : Card) → first ≡ Some card → size_at items card.item.key ≡ Some card.size) → AreSized items cards → last_or first cards ≡ Some last → size_at items last.item.key ≡ Some last.size
sized_last items first [] last start sized is = start last is
sized_last items first (card ∷ cards) last start sized is =
    sized_last items (Some card) cards last (λ c same. (let e : card ≡ c = cc in subst (λ (d : Card). size_at items d.item.key ≡ Some d.size) e sized.0)) sized.1 is
