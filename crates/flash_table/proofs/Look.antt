-- What is found for a key among the pairs of a list, before and after an element of the list is set.
use Rattle.std.proofs.Common.{◌≡◌, ◌≢◌, ℕ, zero, suc, ◌<◌, Bool, true, false, cond, List, [], ◌∷◌, ◌++◌, length, get_or, set, length-set, Option, Some, None, ◌⊎◌, inl, inr, refl, sym, ◌∙◌, ap, arith}
use Rattle.std.specs.Ordering.{eq_by_cmp, is_eq}
use Rattle.std.specs.Cmp.{IsTotalOrder, Equal-is}
use Rattle.std.specs.FinMap as finite
use Rattle.std.specs.FinMap.{IsAntisymmetric}
use Rattle.std.proofs.lemmas.Cmp.{tied_itself}
use Rattle.std.specs.Option.{unwrap_or}
use Rattle.std.specs.declared.cmp.Ordering.{Ordering}
use Rattle.std.proofs.lemmas.List.{get_or-set_other}
use Rattle.flash_table.specs.Pairs.{in_front, pairs}

some_none : {X : Type 0} (x : X) → Some x ≡ None → ⊥
some_none x is = cc

true_false : true ≡ false → ⊥
true_false is = cc

suc_zero : (i : ℕ) → suc i ≡ zero → ⊥
suc_zero i is = omega (arith, is)

zero_suc : (i : ℕ) → zero ≡ suc i → ⊥
zero_suc i is = omega (arith, is)

less_one : (i j : ℕ) → suc i ≡ suc j → i ≡ j
less_one i j is = omega (arith, is)

module _ {K : Type 0} {R : K → K → Ordering} (order : IsTotalOrder R) (same : IsAntisymmetric R) where
  pub equal_is : (q k : K) → eq_by_cmp R q k ≡ true → q ≡ k
  equal_is q k is = same q k ((Equal-is (R q k)).0 is)

  equal_self : (q : K) → eq_by_cmp R q q ≡ true
  equal_self q = ap is_eq (tied_itself order q)

  module _ {X : Type 0} where
    -- what is found first, or else later
    unfoldable pub found : Option (K × X) → K → Option X → Option X
    found None q later = later
    found (Some pair) q later = cond (eq_by_cmp R q pair.0) (Some pair.1) later

    find_in_front : (first : Option (K × X)) (rest : List (K × X)) (q : K) → finite.find R q (in_front first rest) ≡ found first q (finite.find R q rest)
    unfolding found
    find_in_front None rest q = refl
    find_in_front (Some pair) rest q = refl

    -- ---- one element

    passes : (first : Option (K × X)) (q : K) (later : Option X) → ((x : X) → first ≡ Some (q, x) → ⊥) → found first q later ≡ later
    unfolding found
    passes None q later other = refl
    passes (Some pair) q later other =
        elim (eq_by_cmp R q pair.0) as (λ b. eq_by_cmp R q pair.0 ≡ b → cond b (Some pair.1) later ≡ later) [
          | true ↦ λ is. absurd (other pair.1 (ap (λ (k : K). Some (k, pair.1)) (sym (equal_is q pair.0 is))))
          | false ↦ λ is. refl
        ] refl

    here : (q : K) (x : X) (later : Option X) → found (Some (q, x)) q later ≡ Some x
    unfolding found
    here q x later = ap (λ (b : Bool). cond b (Some x) later) (equal_self q)

    none_later : (first : Option (K × X)) (q : K) (later : Option X) → found first q later ≡ None → later ≡ None
    unfolding found
    none_later None q later none = none
    none_later (Some pair) q later none =
        elim (eq_by_cmp R q pair.0) as (λ b. cond b (Some pair.1) later ≡ None → later ≡ None) [
          | true ↦ λ is. absurd (some_none pair.1 is)
          | false ↦ λ is. is
        ] none

    -- two that differ change places
    turns : (first : Option (K × X)) (q k : K) (v later next : Option X) → ((x : X) → first ≡ Some (k, x) → ⊥) → next ≡ cond (eq_by_cmp R q k) v later → found first q next ≡ cond (eq_by_cmp R q k) v (found first q later)
    unfolding found
    turns None q k v later next other is = is
    turns (Some pair) q k v later next other is =
        elim (eq_by_cmp R q pair.0) as (λ b. eq_by_cmp R q pair.0 ≡ b → cond b (Some pair.1) next ≡ cond (eq_by_cmp R q k) v (cond b (Some pair.1) later)) [
          | true ↦ λ one. elim (eq_by_cmp R q k) as (λ b. eq_by_cmp R q k ≡ b → Some pair.1 ≡ cond b v (Some pair.1)) [
            | true ↦ λ two. absurd (other pair.1 (ap (λ (j : K). Some (j, pair.1)) (sym (equal_is q pair.0 one) ∙ equal_is q k two)))
            | false ↦ λ two. refl
          ] refl
          | false ↦ λ one. is
        ] refl

    emptied : (q key : K) (v : X) (later : Option X) → (q ≡ key → later ≡ None) → later ≡ cond (eq_by_cmp R q key) None (cond (eq_by_cmp R q key) (Some v) later)
    emptied q key v later none =
        elim (eq_by_cmp R q key) as (λ b. eq_by_cmp R q key ≡ b → later ≡ cond b None (cond b (Some v) later)) [
          | true ↦ λ is. none (equal_is q key is)
          | false ↦ λ is. refl
        ] refl

    module _ {E : Type 0} where
      unfoldable pub look : (E → Option (K × X)) → List E → K → Option X
      look pair_of [] q = None
      look pair_of (e ∷ rest) q = found (pair_of e) q (look pair_of rest q)

      pub find_pairs : (pair_of : E → Option (K × X)) (es : List E) (q : K) → finite.find R q (pairs pair_of es) ≡ look pair_of es q
      unfolding look
      find_pairs pair_of [] q = refl
      find_pairs pair_of (e ∷ rest) q = find_in_front (pair_of e) (pairs pair_of rest) q ∙ ap (found (pair_of e) q) (find_pairs pair_of rest q)

      -- ---- the whole list

      module _ (pair_of : E → Option (K × X)) (d : E) (blank : pair_of d ≡ None) where
        -- the key is nowhere
        abbrev pub IsNowhere : List E → K → Type 0
        IsNowhere es q = (i : ℕ) (x : X) → pair_of (get_or es i d) ≡ Some (q, x) → ⊥

        -- the key is at no index but this one
        abbrev pub IsOnlyAt : List E → K → ℕ → Type 0
        IsOnlyAt es q k = (i : ℕ) (x : X) → pair_of (get_or es i d) ≡ Some (q, x) → i ≡ k

        pub look_nowhere : (es : List E) (q : K) → IsNowhere es q → look pair_of es q ≡ None
        unfolding look
        look_nowhere [] q none = refl
        look_nowhere (e ∷ rest) q none = passes (pair_of e) q (look pair_of rest q) (none zero) ∙ look_nowhere rest q (λ i. none (suc i))

        pub nowhere_look : (es : List E) (q : K) → look pair_of es q ≡ None → IsNowhere es q
        unfolding look
        nowhere_look [] q none i x is = some_none (q, x) (sym is ∙ blank)
        nowhere_look (e ∷ rest) q none zero x is = some_none x (sym (ap (λ (o : Option (K × X)). found o q (look pair_of rest q)) is ∙ here q x (look pair_of rest q)) ∙ none)
        nowhere_look (e ∷ rest) q none (suc i) x is = nowhere_look rest q (none_later (pair_of e) q (look pair_of rest q) none) i x is

        pub look_at : (es : List E) (k : ℕ) (q : K) (x : X) → pair_of (get_or es k d) ≡ Some (q, x) → IsOnlyAt es q k → look pair_of es q ≡ Some x
        unfolding look
        look_at [] k q x is only = absurd (some_none (q, x) (sym is ∙ blank))
        look_at (e ∷ rest) zero q x is only = ap (λ (o : Option (K × X)). found o q (look pair_of rest q)) is ∙ here q x (look pair_of rest q)
        look_at (e ∷ rest) (suc k) q x is only =
            passes (pair_of e) q (look pair_of rest q) (λ y at. zero_suc k (only zero y at))
            ∙ look_at rest k q x is (λ i y at. less_one i k (only (suc i) y at))

        pub look_put : (es : List E) (k : ℕ) (e : E) (key : K) (v : X) (q : K) → k < length es → pair_of (get_or es k d) ≡ None → pair_of e ≡ Some (key, v) → IsNowhere es key
            → look pair_of (set es k e) q ≡ cond (eq_by_cmp R q key) (Some v) (look pair_of es q)
        unfolding look found
        look_put [] k e key v q inside empty is none = absurd (omega arith)
        look_put (old ∷ rest) zero e key v q inside empty is none =
            ap (λ (o : Option (K × X)). found o q (look pair_of rest q)) is
            ∙ ap (λ (o : Option (K × X)). cond (eq_by_cmp R q key) (Some v) (found o q (look pair_of rest q))) (sym empty)
        look_put (old ∷ rest) (suc k) e key v q inside empty is none =
            turns (pair_of old) q key (Some v) (look pair_of rest q) (look pair_of (set rest k e) q) (none zero)
            (look_put rest k e key v q (omega arith) empty is (λ i. none (suc i)))

        pub look_clear : (es : List E) (k : ℕ) (e : E) (key : K) (v : X) (q : K) → pair_of (get_or es k d) ≡ Some (key, v) → pair_of e ≡ None → IsOnlyAt es key k
            → look pair_of (set es k e) q ≡ cond (eq_by_cmp R q key) None (look pair_of es q)
        unfolding look found
        look_clear [] k e key v q is empty only = absurd (some_none (key, v) (sym is ∙ blank))
        look_clear (old ∷ rest) zero e key v q is empty only =
            ap (λ (o : Option (K × X)). found o q (look pair_of rest q)) empty
            ∙ emptied q key v (look pair_of rest q) (λ e. ap (look pair_of rest) e ∙ look_nowhere rest key (λ i y at. suc_zero i (only (suc i) y at)))
            ∙ ap (λ (o : Option (K × X)). cond (eq_by_cmp R q key) None (found o q (look pair_of rest q))) (sym is)
        look_clear (old ∷ rest) (suc k) e key v q is empty only =
            turns (pair_of old) q key None (look pair_of rest q) (look pair_of (set rest k e) q) (λ y at. zero_suc k (only zero y at))
            (look_clear rest k e key v q is empty (λ i y at. less_one i k (only (suc i) y at)))

        found_first : (o : Option (K × X)) (q : K) (x : X) (later : Option X) → found o q later ≡ Some x → (o ≡ Some (q, x)) ⊎ (later ≡ Some x)
        unfolding found
        found_first None q x later is = inr is
        found_first (Some pair) q x later is =
            elim (eq_by_cmp R q pair.0) as (λ b. eq_by_cmp R q pair.0 ≡ b → cond b (Some pair.1) later ≡ Some x → (Some pair ≡ Some (q, x)) ⊎ (later ≡ Some x)) [
              | true ↦ λ same is. inl (ap (λ (k : K). Some (k, pair.1)) (sym (equal_is q pair.0 same)) ∙ ap (λ (y : X). Some (q, y)) (ap (λ (o : Option X). unwrap_or o x) is))
              | false ↦ λ same is. inr is
            ] refl is

        -- the index of what is found
        pub look_found : (es : List E) (q : K) (x : X) → look pair_of es q ≡ Some x → (k : ℕ) × (k < length es) × (pair_of (get_or es k d) ≡ Some (q, x))
        unfolding look
        look_found [] q x is = absurd (some_none x (sym is))
        look_found (e ∷ rest) q x is =
            elim (found_first (pair_of e) q x (look pair_of rest q) is) [
              | inl here ↦ (0, omega arith, here)
              | inr later ↦ let at = look_found rest q x later in (suc at.0, omega (arith, at.1), at.2)
            ]

        again : (q key : K) (v : X) (later : Option X) → (q ≡ key → later ≡ Some v) → cond (eq_by_cmp R q key) (Some v) (cond (eq_by_cmp R q key) None later) ≡ later
        again q key v later some =
            elim (eq_by_cmp R q key) as (λ b. eq_by_cmp R q key ≡ b → cond b (Some v) (cond b None later) ≡ later) [
              | true ↦ λ is. sym (some (equal_is q key is))
              | false ↦ λ is. refl
            ] refl

        -- an element with a pair goes to the index of one without
        pub look_moved : (es : List E) (k l : ℕ) (key : K) (v : X) (q : K) → l < length es → l ≢ k → pair_of (get_or es k d) ≡ Some (key, v) → pair_of (get_or es l d) ≡ None → IsOnlyAt es key k
            → look pair_of (set (set es k d) l (get_or es k d)) q ≡ look pair_of es q
        look_moved es k l key v q inside apart is empty only =
            let cleared = λ (p : K). look_clear es k d key v p is blank only in
            let gone : look pair_of (set es k d) key ≡ None = cleared key ∙ ap (λ (b : Bool). cond b None (look pair_of es key)) (equal_self key) in
            look_put (set es k d) l (get_or es k d) key v q (omega (arith, length-set es k d, inside)) (ap pair_of (get_or-set_other es k l d d apart) ∙ empty) is (nowhere_look (set es k d) key gone)
            ∙ ap (cond (eq_by_cmp R q key) (Some v)) (cleared q)
            ∙ again q key v (look pair_of es q) (λ e. ap (look pair_of es) e ∙ look_at es k key v is only)

      pub look_same : (f g : E → Option (K × X)) (d : E) (es : List E) (q : K) → ((i : ℕ) → f (get_or es i d) ≡ g (get_or es i d)) → look f es q ≡ look g es q
      unfolding look
      look_same f g d [] q same_pairs = refl
      look_same f g d (e ∷ rest) q same_pairs =
          ap (λ (o : Option (K × X)). found o q (look f rest q)) (same_pairs zero) ∙ ap (found (g e) q) (look_same f g d rest q (λ i. same_pairs (suc i)))

      pub look_blank : (pair_of : E → Option (K × X)) (d : E) (es blanks : List E) (q : K) → ((i : ℕ) → pair_of (get_or blanks i d) ≡ None) → look pair_of (es ++ blanks) q ≡ look pair_of es q
      unfolding look found
      look_blank pair_of d [] [] q none = refl
      look_blank pair_of d [] (b ∷ blanks) q none = ap (λ (o : Option (K × X)). found o q (look pair_of blanks q)) (none zero) ∙ look_blank pair_of d [] blanks q (λ i. none (suc i))
      look_blank pair_of d (e ∷ rest) blanks q none = ap (found (pair_of e) q) (look_blank pair_of d rest blanks q none)
