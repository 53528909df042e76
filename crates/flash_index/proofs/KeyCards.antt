-- How many cards a key has after each change of the lists.
use Rattle.std.proofs.Common.{◌≡◌, ℕ, ◌+◌, Bool, true, false, cond, not, List, [], ◌∷◌, map, count_by, refl, sym, ◌∙◌, ap, inl, inr, arith}
use Rattle.std.specs.Str.{bytes_eq}
use Rattle.std.proofs.lemmas.Bool.{cases_Bool}
use Rattle.std.proofs.lemmas.List.Sums.{sum_by-cons}
use Rattle.flash_lru.specs.declared.segment.Segment.{Segment}
use Rattle.flash_lru.specs.declared.segment.Segment.TheVariants.{Hot, Warm, Cold}
use Rattle.flash_index.specs.KeyLists.{KeyCard, KeyLists, is_of, idle, cards_of, without, removed, moved, touched, resized}
use Rattle.flash_index.proofs.Lookups.{same_key, key_itself, other_key}

-- the key's card is changed where it is
abbrev pub changed : List ℕ → (KeyCard → KeyCard) → KeyLists → KeyLists
changed key change lists = record {
  hot = map (λ card. cond (is_of key card) (change card) card) lists.hot;
  warm = map (λ card. cond (is_of key card) (change card) card) lists.warm;
  cold = map (λ card. cond (is_of key card) (change card) card) lists.cold;
}

pub count_cons : (key : List ℕ) (card : KeyCard) (cards : List KeyCard) (b : Bool) → is_of key card ≡ b → count_by (is_of key) (card ∷ cards) ≡ cond b 1 0 + count_by (is_of key) cards
count_cons key card cards b e = sum_by-cons (λ (c : KeyCard). cond (is_of key c) 1 0) card cards ∙ ap (λ t. cond t 1 0 + count_by (is_of key) cards) e

not_both : (key other : List ℕ) (card : KeyCard) → (other ≡ key → ⊥) → is_of key card ≡ true → is_of other card ≡ false
not_both key other card n e = other_key other card.key (λ same. n (same ∙ sym (same_key key card.key e)))

pub count_without_same : (key : List ℕ) (cards : List KeyCard) → count_by (is_of key) (without key cards) ≡ 0
count_without_same key [] = refl
count_without_same key (card ∷ cards) = elim (cases_Bool (is_of key card)) [
  | inl e ↦ ap (λ b. count_by (is_of key) (cond (not b) (card ∷ without key cards) (without key cards))) e ∙ count_without_same key cards
  | inr e ↦
      ap (λ b. count_by (is_of key) (cond (not b) (card ∷ without key cards) (without key cards))) e
      ∙ count_cons key card (without key cards) false e ∙ omega (arith, count_without_same key cards)
]

pub count_without : (key other : List ℕ) (cards : List KeyCard) → (other ≡ key → ⊥) → count_by (is_of other) (without key cards) ≡ count_by (is_of other) cards
count_without key other [] n = refl
count_without key other (card ∷ cards) n = elim (cases_Bool (is_of key card)) [
  | inl e ↦
      ap (λ b. count_by (is_of other) (cond (not b) (card ∷ without key cards) (without key cards))) e
      ∙ count_without key other cards n ∙ omega (arith, count_cons other card cards false (not_both key other card n e))
  | inr e ↦
      ap (λ b. count_by (is_of other) (cond (not b) (card ∷ without key cards) (without key cards))) e
      ∙ count_cons other card (without key cards) (is_of other card) refl
      ∙ ap (λ k. cond (is_of other card) 1 0 + k) (count_without key other cards n)
      ∙ sym (count_cons other card cards (is_of other card) refl)
]

-- a change of the key's card that keeps its key
count_changed : (key other : List ℕ) (change : KeyCard → KeyCard) → ((card : KeyCard) → (change card).key ≡ card.key) → (cards : List KeyCard) → count_by (is_of other) (map (λ card. cond (is_of key card) (change card) card) cards) ≡ count_by (is_of other) cards
count_changed key other change kept [] = refl
count_changed key other change kept (card ∷ cards) =
    let same : is_of other (cond (is_of key card) (change card) card) ≡ is_of other card = elim (cases_Bool (is_of key card)) [
      | inl e ↦ ap (λ b. is_of other (cond b (change card) card)) e ∙ ap (bytes_eq other) (kept card)
      | inr e ↦ ap (λ b. is_of other (cond b (change card) card)) e
    ] in
    count_cons other (cond (is_of key card) (change card) card) (map (λ c. cond (is_of key c) (change c) c) cards) (is_of other card) same
    ∙ ap (λ k. cond (is_of other card) 1 0 + k) (count_changed key other change kept cards)
    ∙ sym (count_cons other card cards (is_of other card) refl)

pub cards_removed_same : (key : List ℕ) (lists : KeyLists) → cards_of key (removed key lists) ≡ 0
cards_removed_same key lists = omega (arith, count_without_same key lists.hot, count_without_same key lists.warm, count_without_same key lists.cold)

pub cards_removed : (key other : List ℕ) (lists : KeyLists) → (other ≡ key → ⊥) → cards_of other (removed key lists) ≡ cards_of other lists
cards_removed key other lists n = omega (arith, count_without key other lists.hot n, count_without key other lists.warm n, count_without key other lists.cold n)

cards_changed : (key other : List ℕ) (change : KeyCard → KeyCard) → ((card : KeyCard) → (change card).key ≡ card.key) → (lists : KeyLists)
    → cards_of other (changed key change lists) ≡ cards_of other lists
cards_changed key other change kept lists =
    omega (arith, count_changed key other change kept lists.hot, count_changed key other change kept lists.warm, count_changed key other change kept lists.cold)

pub cards_touched : (key other : List ℕ) (lists : KeyLists) → cards_of other (touched key lists) ≡ cards_of other lists
cards_touched key other lists = cards_changed key other (λ card. record card { active = true }) (λ _. refl) lists

pub cards_resized : (key other : List ℕ) (size : ℕ) (lists : KeyLists) → cards_of other (resized key size lists) ≡ cards_of other lists
cards_resized key other size lists = cards_changed key other (λ card. record card { size = size }) (λ _. refl) lists

pub cards_moved_else : (segment : Segment) (key other : List ℕ) (size : ℕ) (lists : KeyLists) → (other ≡ key → ⊥) → cards_of other (moved segment key size lists) ≡ cards_of other lists
cards_moved_else Hot key other size lists n = omega (arith, cards_removed key other lists n, count_cons other (idle key size) (without key lists.hot) false (other_key other key n))
cards_moved_else Warm key other size lists n = omega (arith, cards_removed key other lists n, count_cons other (idle key size) (without key lists.warm) false (other_key other key n))
cards_moved_else Cold key other size lists n = omega (arith, cards_removed key other lists n, count_cons other (idle key size) (without key lists.cold) false (other_key other key n))

pub cards_moved_here : (segment : Segment) (key : List ℕ) (size : ℕ) (lists : KeyLists) → cards_of key (moved segment key size lists) ≡ 1
cards_moved_here Hot key size lists = omega (arith, cards_removed_same key lists, count_cons key (idle key size) (without key lists.hot) true (key_itself key))
cards_moved_here Warm key size lists = omega (arith, cards_removed_same key lists, count_cons key (idle key size) (without key lists.warm) true (key_itself key))
cards_moved_here Cold key size lists = omega (arith, cards_removed_same key lists, count_cons key (idle key size) (without key lists.cold) true (key_itself key))
