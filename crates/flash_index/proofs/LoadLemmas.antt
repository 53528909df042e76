-- The load of the items is the sum of their cards' sizes.
use Rattle.std.proofs.Common.{◌≡◌, ℕ, ◌+◌, true, false, cond, List, [], ◌∷◌, ◌++◌, length, count_by, Option, Some, None, is_some, option_map, refl, sym, ◌∙◌, ap, subst, inl, inr, arith}
use Rattle.std.specs.Ordering.{is_eq}
use Rattle.std.specs.declared.cmp.Ordering.{Ordering}
use Rattle.std.specs.declared.cmp.Ordering.TheVariants.{Less, Equal, Greater}
use Rattle.std.specs.Cmp.Lexicographic.{nat_list_cmp_total}
use Rattle.std.specs.FinMap as map
use Rattle.std.proofs.lemmas.List.Sums.{sum_by-cons, sum_by-append}
use Rattle.flash_machine.specs.Item.{Item}
use Rattle.flash_machine.specs.Cache.{Items}
use Rattle.flash_machine.specs.Load.{item_load, total, load_of}
use Rattle.flash_index.specs.KeyLists.{KeyCard, KeyLists, is_of}
use Rattle.flash_index.specs.KeyJuggle.{bytes, bytes_of}
use Rattle.flash_index.specs.Listed.{IsListed}
use Rattle.flash_index.proofs.Lookups.{order, none_some, key_itself, cases_key, other_key, put_here, put_else, cut_here, cut_else, same_by_keys}
use Rattle.flash_index.proofs.KeyCards.{count_cons}
use Rattle.flash_index.proofs.KeySizes.{AreSized, size_cut_else, sized_else}

-- what an entry counts
abbrev counted : List ℕ × Item → ℕ
counted entry = item_load entry.0 entry.1

abbrev by_order : {A : Type 0} → Ordering → A → A → A → A
by_order Less a b c = a
by_order Equal a b c = b
by_order Greater a b c = c

-- the sum with an entry whose key is new
total_put : (key : List ℕ) (item : Item) (es : List (List ℕ × Item)) → map.find order key es ≡ None → total counted (map.put order key item es) ≡ item_load key item + total counted es
total_put key item [] none = refl
total_put key item (e ∷ es) none = by (order key e.0) none (total_put key item es) where
  by : (r : Ordering) → cond (is_eq r) (Some e.1) (map.find order key es) ≡ None
      → (map.find order key es ≡ None → total counted (map.put order key item es) ≡ item_load key item + total counted es)
      → total counted (by_order r ((key, item) ∷ e ∷ es) ((e.0, item) ∷ es) (e ∷ map.put order key item es)) ≡ item_load key item + (counted e + total counted es)
  by Less missed rest = refl
  by Equal missed rest = absurd (none_some e.1 (sym missed))
  by Greater missed rest = omega (arith, rest missed)

load_put : (items : Items) (key : List ℕ) (item : Item) → map.get items key ≡ None → load_of (map.insert items key item) ≡ item_load key item + load_of items
load_put items key item none =
    ap (total counted) (map.entries-insert nat_list_cmp_total items key item)
    ∙ total_put key item (map.entries items) (sym (map.get-entries items key) ∙ none)

put_back : (items : Items) (key : List ℕ) (item : Item) → map.get items key ≡ Some item → map.insert (map.remove items key) key item ≡ items
put_back items key item there = same_by_keys _ _ (λ q. elim (cases_key q key) [
  | inl at ↦ subst (λ k. map.get (map.insert (map.remove items key) key item) k ≡ map.get items k) (sym at) (put_here (map.remove items key) key item ∙ sym there)
  | inr apart ↦ put_else (map.remove items key) key item q apart ∙ cut_else items key q apart
])

-- the load without an item of the map
load_cut : (items : Items) (key : List ℕ) (item : Item) → map.get items key ≡ Some item → load_of items ≡ item_load key item + load_of (map.remove items key)
load_cut items key item there = sym (ap load_of (put_back items key item there)) ∙ load_put (map.remove items key) key item (cut_here items key)

no_load : (items : Items) → ((key : List ℕ) → map.get items key ≡ None) → load_of items ≡ 0
no_load items none =
    let same : items ≡ map.empty = same_by_keys items map.empty (λ q. none q ∙ sym (map.get-empty order q)) in
    by (map.entries items) (sym (map.len-entries items) ∙ ap map.len same ∙ map.len-empty order Item)
  where
    by : (es : List (List ℕ × Item)) → length es ≡ 0 → total counted es ≡ 0
    by [] empty = refl
    by (e ∷ es) empty = absurd (omega (arith, empty))

-- one where there is an item
abbrev pub one_if : Option Item → ℕ
one_if o = cond (is_some o) 1 0

none_counted : (o : Option Item) → 0 ≡ one_if o → o ≡ None
none_counted None e = refl
none_counted (Some item) e = absurd (omega (arith, e))

-- each key that has an item has one card in the list
abbrev AreOnce : Items → List KeyCard → Type 0
AreOnce items cards = (key : List ℕ) → count_by (is_of key) cards ≡ one_if (map.get items key)

load_of_list : (cards : List KeyCard) (items : Items) → AreOnce items cards → AreSized items cards → load_of items ≡ bytes cards
load_of_list [] items once sized = no_load items (λ key. none_counted (map.get items key) (once key))
load_of_list (card ∷ cards) items once sized = by (map.get items card.key) refl (load_of_list cards (map.remove items card.key)) where
  by : (o : Option Item) → map.get items card.key ≡ o
      → (AreOnce (map.remove items card.key) cards → AreSized (map.remove items card.key) cards → load_of (map.remove items card.key) ≡ bytes cards)
      → load_of items ≡ bytes (card ∷ cards)
  by None there shorter = absurd (none_some card.size (sym (ap (option_map (item_load card.key)) there) ∙ sized.0))
  by (Some item) there shorter =
      let size : Some (item_load card.key item) ≡ Some card.size = sym (ap (option_map (item_load card.key)) there) ∙ sized.0 in
      let rest = map.remove items card.key in
      let none : count_by (is_of card.key) cards ≡ 0 =
      omega (arith, count_cons card.key card cards true (key_itself card.key), once card.key, ap one_if there) in
      let fewer : AreOnce rest cards = λ key. elim (cases_key key card.key) [
        | inl at ↦ subst (λ k. count_by (is_of k) cards ≡ one_if (map.get rest k)) (sym at) (none ∙ sym (ap one_if (cut_here items card.key)))
        | inr apart ↦
            omega (arith, count_cons key card cards false (other_key key card.key apart), once key, ap one_if (cut_else items card.key key apart))
      ] in
      let less = shorter fewer (sized_else items rest card.key (size_cut_else items card.key) cards none sized.1) in
      let same : item_load card.key item ≡ card.size = cc in
      omega (arith, load_cut items card.key item there, less, same, sum_by-cons (λ (c : KeyCard). c.size) card cards)

joined : (items : Items) (xs ys : List KeyCard) → AreSized items xs → AreSized items ys → AreSized items (xs ++ ys)
joined items [] ys a b = b
joined items (x ∷ xs) ys a b = (a.0, joined items xs ys a.1 b)

-- the three lists as one
pub load_listed : (items : Items) (lists : KeyLists) → IsListed items lists → load_of items ≡ bytes_of lists
load_listed items lists listed =
    let all = lists.hot ++ (lists.warm ++ lists.cold) in
    let once : AreOnce items all = λ key.
    (let f : KeyCard → ℕ = λ c. cond (is_of key c) 1 0 in
    omega (arith, listed.one key, sum_by-append f lists.hot (lists.warm ++ lists.cold), sum_by-append f lists.warm lists.cold)) in
    let size : KeyCard → ℕ = λ c. c.size in
    let whole = load_of_list all items once (joined items lists.hot (lists.warm ++ lists.cold) listed.hot (joined items lists.warm lists.cold listed.warm listed.cold)) in
    omega (arith, whole, sum_by-append size lists.hot (lists.warm ++ lists.cold), sum_by-append size lists.warm lists.cold)
