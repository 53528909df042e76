-- There are as many keys as items.
use Rattle.std.proofs.Common.{◌≡◌, ℕ, suc, ◌+◌, ◌-◌, Bool, true, false, cond, eqb, List, [], ◌∷◌, ◌++◌, map, length, count_by, Option, Some, None, IsSome, is_some, refl, sym, ◌∙◌, ap, inl, inr, arith}
use Rattle.std.specs.Prelude.{◌<◌, ◌≤◌}
use Rattle.std.specs.Ordering.{nat_cmp, eq_by_cmp}
use Rattle.std.specs.declared.cmp.Ordering.{Ordering}
use Rattle.std.specs.Cmp.{IsTotalOrder, nat_cmp_total}
use Rattle.std.specs.Cmp.Lexicographic.{nat_list_cmp_total}
use Rattle.std.proofs.lemmas.Bool.{cases_eq}
use Rattle.std.proofs.lemmas.Cmp.{eq_by_cmp_equiv}
use Rattle.std.proofs.lemmas.Bool.Decides.{nat_tests}
use Rattle.std.proofs.lemmas.List.Sums.{sum_by-cons, sum_by-append}
use Rattle.std.proofs.lemmas.List.{length-append, length-map}
use Rattle.std.specs.FinMap as finite
use Rattle.flash_names.specs.declared.place.ItemId.{ItemId}
use Rattle.flash_lru.specs.declared.card.Card.{Card}
use Rattle.flash_lru.specs.Card as lru_card
use Rattle.flash_lru.specs.Lists as lru
use Rattle.flash_items.specs.declared.item.Item.{Item}
use Rattle.flash_items.specs.ItemsState.{ItemsState, item_at}
use Rattle.flash_items.specs.Law.{IsInStep}
use Rattle.flash_index.specs.KeyLists.{KeyCard, KeyLists, is_of}
use Rattle.flash_index.specs.Seen.{card_seen, lists_seen, items_seen}
use Rattle.flash_index.proofs.Lookups.{order, tied}
use Rattle.flash_index.proofs.InStep.{listed_seen}

-- 1 where there is something
abbrev one_if : {X : Type 0} → Option X → ℕ
one_if o = cond (is_some o) 1 0

none_of : {X : Type 0} (p : Option X) → (let n : ℕ = 0 in n) ≡ one_if p → p ≡ None
none_of None e = refl
none_of (Some x) e = absurd (omega (arith, e))

-- a list that counts each key of a map once, without an element and its key
fewer_by : {X : Type 0} (n : ℕ) (found : Option X) (b : Bool) → cond b 1 0 + n ≡ one_if found → n ≡ one_if (cond b None found)
fewer_by n None true e = absurd (omega (arith, e))
fewer_by n (Some x) true e = omega (arith, e)
fewer_by n None false e = omega (arith, e)
fewer_by n (Some x) false e = omega (arith, e)

one_more : (n m : ℕ) → (n ≡ 0 → ⊥) → n - 1 ≡ m → n ≡ suc m
one_more n m some e = elim (cases_eq n 0) [ inl none ↦ absurd (some none) | inr more ↦ omega (arith, more, e) ]

-- a map whose every key has one element of a list is as long as the list
module _ {K X C : Type 0} (R : K → K → Ordering) (o : IsTotalOrder R) (anti : finite.IsAntisymmetric R) (key_of : C → K) (test : K → C → Bool) (is : (k : K) (c : C) → test k c ≡ eq_by_cmp R k (key_of c)) where
  -- the first element's key is in the map
  first_there : (m : finite.FinMap R X) (c : C) (cs : List C) → ((k : K) → count_by (test k) (c ∷ cs) ≡ one_if (finite.get m k)) → is_some (finite.get m (key_of c)) ≡ true
  first_there m c cs each =
      by (finite.get m (key_of c))
      (sym (sum_by-cons (λ (x : C). cond (test (key_of c) x) 1 0) c cs ∙ ap (λ b. cond b 1 0 + count_by (test (key_of c)) cs) (is (key_of c) c ∙ (eq_by_cmp_equiv o).refl (key_of c))) ∙ each (key_of c))
    where
      by : (p : Option X) → 1 + count_by (test (key_of c)) cs ≡ one_if p → is_some p ≡ true
      by None e = absurd (omega (arith, e))
      by (Some x) e = refl

  pub as_long : (cs : List C) (m : finite.FinMap R X) → ((k : K) → count_by (test k) cs ≡ one_if (finite.get m k)) → finite.len m ≡ length cs
  as_long [] m each =
      ap finite.len (finite.same_map o anti m finite.empty (λ q. none_of (finite.get m q) (each q) ∙ sym (finite.get-empty R q))) ∙ finite.len-empty R X
  as_long (c ∷ cs) m each =
      let there = first_there m c cs each in
      let some : finite.len m ≡ 0 → ⊥ = λ none.
      (let e : true ≡ false = sym there ∙ ap (λ (q : finite.FinMap R X). is_some (finite.get q (key_of c))) (finite.empty_of_len m none) ∙ ap (λ (p : Option X). is_some p) (finite.get-empty R (key_of c)) in cc) in
      let rest : finite.len (finite.remove m (key_of c)) ≡ length cs = as_long cs (finite.remove m (key_of c)) (λ k.
      fewer_by (count_by (test k) cs) (finite.get m k) (eq_by_cmp R k (key_of c))
      (sym (sum_by-cons (λ (x : C). cond (test k x) 1 0) c cs ∙ ap (λ b. cond b 1 0 + count_by (test k) cs) (is k c)) ∙ each k)
      ∙ ap (λ (p : Option X). one_if p) (sym (finite.get-remove o m (key_of c) k))) in
      let less : finite.len (finite.remove m (key_of c)) ≡ finite.len m - 1 = finite.len-remove o m (key_of c) ∙ ap (λ b. cond b (finite.len m - 1) (finite.len m)) there in
      one_more (finite.len m) (length cs) some (sym less ∙ rest)

id_tied : (id : ℕ) (card : Card) → eqb card.item.key id ≡ eq_by_cmp nat_cmp id card.item.key
id_tied id card = grind (arith, nat_tests)

once : (p : Option Item) (n : ℕ) → (0 < n → IsSome p) → (IsSome p → 0 < n) → n ≤ 1 → n ≡ one_if p
once None n there card most = elim (cases_eq n 0) [
  | inl none ↦ none
  | inr more ↦ (let some : IsSome (let p : Option Item = None in p) = there (omega (arith, more)) in absurd (cc some))
]
once (Some item) n there card most = omega (arith, card refl, most)

-- the cards of the three lists
abbrev cards_by_id : lru.SegmentLists → List Card
cards_by_id lists = lists.hot ++ (lists.warm ++ lists.cold)

abbrev cards_by_key : KeyLists → List KeyCard
cards_by_key lists = lists.hot ++ (lists.warm ++ lists.cold)

module _ (s : ItemsState) (step : IsInStep s) where
  items_long : finite.len s.items ≡ length (cards_by_id s.lists)
  items_long = as_long nat_cmp nat_cmp_total finite.nat_cmp-IsAntisymmetric (λ (c : Card). c.item.key) (λ n. lru_card.is_of (record { key = n })) id_tied (cards_by_id s.lists) s.items (λ n.
      (let id : ItemId = record { key = n } in
      let f : Card → ℕ = λ c. cond (lru_card.is_of id c) 1 0 in
      let here = once (item_at s id) (lru.cards_of id s.lists) (step.carded id).0 (step.carded id).1 (step.once id) in
      omega (arith, here, sum_by-append f s.lists.hot (s.lists.warm ++ s.lists.cold), sum_by-append f s.lists.warm s.lists.cold)))

  keys_long : finite.len (items_seen s) ≡ length (cards_by_key (lists_seen s.items s.lists))
  keys_long =
      let lists = lists_seen s.items s.lists in
      as_long order nat_list_cmp_total (finite.slice_cmp-IsAntisymmetric finite.nat_cmp-IsAntisymmetric) (λ (c : KeyCard). c.key) is_of (λ key card. sym (tied key card.key)) (cards_by_key lists) (items_seen s) (λ key.
      (let f : KeyCard → ℕ = λ c. cond (is_of key c) 1 0 in
      omega (arith, (listed_seen s step).one key, sum_by-append f lists.hot (lists.warm ++ lists.cold), sum_by-append f lists.warm lists.cold)))

  pub len_is : finite.len s.items ≡ finite.len (items_seen s)
  len_is =
      let see = card_seen s.items in
      let l = s.lists in
      omega (
        arith,
        items_long,
        keys_long,
        length-append l.hot (l.warm ++ l.cold),
        length-append l.warm l.cold,
        length-append (map see l.hot) (map see l.warm ++ map see l.cold),
        length-append (map see l.warm) (map see l.cold),
        length-map l.hot see,
        length-map l.warm see,
        length-map l.cold see,
      )
