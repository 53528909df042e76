-- Sums over the items of a cache, with an item put in or taken out.
use Rattle.std.proofs.Common.{◌≡◌, ℕ, ◌+◌, Bool, true, false, T, ◌&&◌, List, [], ◌∷◌, Option, None, Some, cond, refl, sym, ◌∙◌, ap, subst, arith}
use Rattle.std.specs.Prelude.{length}
use Rattle.std.specs.Ordering.{nat_cmp, eq_by_cmp, is_eq, is_lt}
use Rattle.std.specs.declared.cmp.Ordering.{Ordering}
use Rattle.std.specs.declared.cmp.Ordering.TheVariants.{Less, Equal, Greater}
use Rattle.std.specs.Cmp.Lexicographic.{slice_cmp, nat_list_cmp_total}
use Rattle.std.specs.Cmp.{Equal-is}
use Rattle.std.proofs.lemmas.Cmp.{tied_itself}
use Rattle.std.specs.FinMap as map
use Rattle.flash_machine.specs.Item.{Item}
use Rattle.flash_machine.specs.Cache.{Items}
use Rattle.flash_machine.specs.Load.{total}
use Rattle.flash_machine.specs.Followed.{counted}

-- the order of the keys
abbrev pub order : List ℕ → List ℕ → Ordering
order = slice_cmp nat_cmp

first : (a b : Bool) → T (a && b) → T a
first true b p = tt
first false b p = p

second : (a b : Bool) → T (a && b) → T b
second true b p = p
second false b p = absurd p

less : (o : Ordering) → T (is_lt o) → o ≡ Less
less Less p = refl
less Equal p = absurd p
less Greater p = absurd p

-- whether a key is below all keys of a list
abbrev below_all : List ℕ → List (List ℕ × Item) → Bool
below_all key [] = true
below_all key (e ∷ es) = is_lt (order key e.0) && below_all key es

missed : (key : List ℕ) (es : List (List ℕ × Item)) → T (below_all key es) → map.find order key es ≡ None
missed key [] below = refl
missed key (e ∷ es) below =
    ap (λ r. cond (is_eq r) (Some e.1) (map.find order key es)) (less _ (first _ _ below)) ∙ missed key es (second _ _ below)

lower : (key other : List ℕ) (es : List (List ℕ × Item)) → order key other ≡ Less → T (below_all other es) → T (below_all key es)
lower key other [] is below = tt
lower key other (e ∷ es) is below =
    let one : T (is_lt (order key e.0)) = subst (λ r. T (is_lt r)) (sym (nat_list_cmp_total.trans key other e.0 is (less _ (first _ _ below)))) tt in
    let rest = lower key other es is (second _ _ below) in
    both (is_lt (order key e.0)) (below_all key es) one rest
  where
    both : (a b : Bool) → T a → T b → T (a && b)
    both true b p q = q
    both false b p q = p

abbrev pub by_order : {A : Type 0} → Ordering → A → A → A → A
by_order Less a b c = a
by_order Equal a b c = b
by_order Greater a b c = c

same_key : (one other : List ℕ) → order one other ≡ Equal → one ≡ other
same_key = map.slice_cmp-IsAntisymmetric map.nat_cmp-IsAntisymmetric

-- what is under keys that tie
tied : (items : Items) (key q : List ℕ) → eq_by_cmp order q key ≡ true → map.get items key ≡ map.get items q
tied items key q same = map.get_tied nat_list_cmp_total items q key ((Equal-is (order q key)).0 same)

module _ (items : Items) (key : List ℕ) where
  none_by : (b : Bool) (q : List ℕ) → eq_by_cmp order q key ≡ b → map.get items key ≡ None → cond b None (map.get items q) ≡ map.get items q
  none_by true q same none = sym none ∙ tied items key q same
  none_by false q apart none = refl

  -- taking out what isn't there changes nothing
  pub none_removed : map.get items key ≡ None → map.remove items key ≡ items
  none_removed none = map.same_map nat_list_cmp_total (map.slice_cmp-IsAntisymmetric map.nat_cmp-IsAntisymmetric) (map.remove items key) items
      (λ q. map.get-remove nat_list_cmp_total items key q ∙ none_by (eq_by_cmp order q key) q refl none)

  back_by : (item : Item) (b : Bool) (q : List ℕ) → eq_by_cmp order q key ≡ b → map.get items key ≡ Some item → cond b (Some item) (cond b None (map.get items q)) ≡ map.get items q
  back_by item true q same there = sym there ∙ tied items key q same
  back_by item false q apart there = refl

  -- an item that is taken out and put back
  pub put_back : (item : Item) → map.get items key ≡ Some item → map.insert (map.remove items key) key item ≡ items
  put_back item there = map.same_map nat_list_cmp_total (map.slice_cmp-IsAntisymmetric map.nat_cmp-IsAntisymmetric) (map.insert (map.remove items key) key item) items
      (λ q. map.get-insert nat_list_cmp_total (map.remove items key) key item q
      ∙ ap (cond (eq_by_cmp order q key) (Some item)) (map.get-remove nat_list_cmp_total items key q)
      ∙ back_by item (eq_by_cmp order q key) q refl there)

  pub removed_there : map.get (map.remove items key) key ≡ None
  removed_there = map.get-remove nat_list_cmp_total items key key ∙ ap (λ r. cond (is_eq r) None (map.get items key)) (tied_itself nat_list_cmp_total key)

module _ (count : List ℕ × Item → ℕ) where
  total_put : (key : List ℕ) (item : Item) (es : List (List ℕ × Item)) → T (map.is_sorted order es)
      → total count (map.put order key item es) + counted count key (map.find order key es) ≡ total count es + count (key, item)
  total_put key item [] sorted = omega arith
  total_put key item (e ∷ es) sorted = by_case (order key e.0) refl (total_put key item es (second _ _ sorted))
    where
      by_case : (r : Ordering) → order key e.0 ≡ r
          → (total count (map.put order key item es) + counted count key (map.find order key es) ≡ total count es + count (key, item))
          → total count (by_order r ((key, item) ∷ e ∷ es) ((e.0, item) ∷ es) (e ∷ map.put order key item es)) + counted count key (cond (is_eq r) (Some e.1) (map.find order key es))
          ≡ count e + total count es + count (key, item)
      by_case Less is rest =
          let none = missed key es (lower key e.0 es is (first _ _ sorted)) in
          ap (λ found. count (key, item) + (count e + total count es) + counted count key found) none ∙ omega arith
      by_case Equal is rest =
          ap (λ k. count (e.0, item) + total count es + count (k, e.1)) (same_key key e.0 is)
          ∙ omega arith
          ∙ ap (λ k. count e + total count es + count (k, item)) (sym (same_key key e.0 is))
      by_case Greater is rest = omega (arith, rest)

  -- the sum with an item put in: what was under its key doesn't count any more
  pub total_insert : (items : Items) (key : List ℕ) (item : Item)
      → total count (map.entries (map.insert items key item)) + counted count key (map.get items key) ≡ total count (map.entries items) + count (key, item)
  total_insert items key item =
      ap (λ es. total count es + counted count key (map.get items key)) (map.entries-insert nat_list_cmp_total items key item)
      ∙ ap (λ found. total count (map.put order key item (map.entries items)) + counted count key found) (map.get-entries items key)
      ∙ total_put key item (map.entries items) (map.entries_sorted items)

  -- the sum without the item under a key
  pub total_remove : (items : Items) (key : List ℕ)
      → total count (map.entries (map.remove items key)) + counted count key (map.get items key) ≡ total count (map.entries items)
  total_remove items key = by_found (map.get items key) refl
    where
      by_found : (found : Option Item) → map.get items key ≡ found
          → total count (map.entries (map.remove items key)) + counted count key found ≡ total count (map.entries items)
      by_found None there = ap (λ (m : Items). total count (map.entries m) + 0) (none_removed items key there) ∙ omega arith
      by_found (Some item) there =
          let without = map.remove items key in
          let back = total_insert without key item in
          let same = ap (λ (m : Items). total count (map.entries m) + counted count key (map.get without key)) (put_back items key item there) in
          let none = ap (counted count key) (removed_there items key) in omega (arith, back, same, none)

-- the empty map has no entries
pub no_entries : map.entries (map.empty {X = Item} {R = order}) ≡ []
no_entries = of_none (map.entries (map.empty {X = Item} {R = order})) (sym (map.len-entries (map.empty {X = Item} {R = order})) ∙ map.len-empty order Item)
  where
    of_none : (es : List (List ℕ × Item)) → length es ≡ 0 → es ≡ []
    of_none [] none = refl
    of_none (e ∷ es) none = absurd (omega (arith, none))

-- and no sum
pub total_none : (count : List ℕ × Item → ℕ) → total count (map.entries (map.empty {X = Item} {R = order})) ≡ 0
total_none count = ap (total count) no_entries
