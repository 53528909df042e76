-- A label that no item has counts no records.
use Rattle.std.proofs.Common.{◌≡◌, ℕ, Bool, true, false, T, ◌&&◌, List, [], ◌∷◌, None, Some, cond, refl, sym, ◌∙◌, ap, arith}
use Rattle.std.specs.Ordering.{is_eq, is_lt}
use Rattle.std.specs.declared.cmp.Ordering.{Ordering}
use Rattle.std.specs.declared.cmp.Ordering.TheVariants.{Less, Equal, Greater}
use Rattle.std.specs.Cmp.Lexicographic.{nat_list_cmp_total}
use Rattle.std.specs.FinMap as finite
use Rattle.std.proofs.lemmas.Cmp.{tied_itself}
use Rattle.flash_machine.specs.Item.{Item}
use Rattle.flash_machine.specs.Cache.{Items}
use Rattle.flash_machine.specs.Load.{total}
use Rattle.flash_machine.proofs.Totals.{order}

-- the first of two tests that both pass, and the second
one : (a b : Bool) → T (a && b) → T a
one true b p = tt
one false b p = p

two : (a b : Bool) → T (a && b) → T b
two true b p = p
two false b p = absurd p

less : (o : Ordering) → T (is_lt o) → o ≡ Less
less Less p = refl
less Equal p = absurd p
less Greater p = absurd p

-- whether a key is below all keys of a list
abbrev below_all : List ℕ → List (List ℕ × Item) → Bool
below_all key [] = true
below_all key (e ∷ es) = is_lt (order key e.0) && below_all key es

-- what is found behind the first entry is found among all
module _ (key : List ℕ) (item : Item) (es : List (List ℕ × Item)) where
  behind_by : (q : List ℕ) (found : Item) (o : Ordering) → order q key ≡ o → T (below_all key es) → finite.find order q es ≡ Some found → cond (is_eq o) (Some item) (finite.find order q es) ≡ Some found
  behind_by q found Less at below is = is
  behind_by q found Greater at below is = is
  behind_by q found Equal at below is =
      let same : q ≡ key = finite.slice_cmp-IsAntisymmetric finite.nat_cmp-IsAntisymmetric q key at in
      absurd (cc (sym (missed es below) ∙ sym (ap (λ (k : List ℕ). finite.find order k es) same) ∙ is))
    where
      missed : (es : List (List ℕ × Item)) → T (below_all key es) → finite.find order key es ≡ None
      missed [] below = refl
      missed (e ∷ es) below =
          ap (λ r. cond (is_eq r) (Some e.1) (finite.find order key es)) (less _ (one _ _ below)) ∙ missed es (two _ _ below)

module _ (count : List ℕ × Item → ℕ) where
  none_of : (es : List (List ℕ × Item)) → T (finite.is_sorted order es) → ((key : List ℕ) (item : Item) → finite.find order key es ≡ Some item → count (key, item) ≡ 0) → total count es ≡ 0
  none_of [] sorted none = refl
  none_of (e ∷ es) sorted none =
      let here : finite.find order e.0 (e ∷ es) ≡ Some e.1 = ap (λ r. cond (is_eq r) (Some e.1) (finite.find order e.0 es)) (tied_itself nat_list_cmp_total e.0) in
      let first = none e.0 e.1 here in
      let rest : total count es ≡ 0 = none_of es (two (below_all e.0 es) (finite.is_sorted order es) sorted) (λ key item is. none key item (behind_by e.0 e.1 es key item (order key e.0) refl (one (below_all e.0 es) (finite.is_sorted order es) sorted) is)) in
      omega (arith, first, rest)

  -- where no item counts, all together count nothing
  pub none_counts : (items : Items) → ((key : List ℕ) (item : Item) → finite.get items key ≡ Some item → count (key, item) ≡ 0) → total count (finite.entries items) ≡ 0
  none_counts items none = none_of (finite.entries items) (finite.entries_sorted items) (λ key item is. none key item (finite.get-entries items key ∙ is))
