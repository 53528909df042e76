-- A key is put into an empty slot, under an id that named nothing before.
use Rattle.std.proofs.Common.{◌≡◌, ℕ, ◌<◌, cond, List, length, set, ◌⊎◌, inl, inr, Option, Some, None, sym, ap, subst, ◌∙◌}
use Rattle.std.specs.Option.{unwrap_or}
use Rattle.std.specs.Ordering.{nat_cmp, eq_by_cmp}
use Rattle.std.specs.Cmp.{nat_cmp_total}
use Rattle.std.specs.Cmp.Lexicographic.{slice_cmp, nat_list_cmp_total}
use Rattle.std.specs.FinMap as finite
use Rattle.std.specs.FinMap.{nat_cmp-IsAntisymmetric}
use Rattle.flash_keys.specs.Classes.{Classes}
use Rattle.flash_keys.specs.Names.{named, NamesOnly}
use Rattle.flash_table.specs.declared.entry.Entry.{Entry}
use Rattle.flash_table.specs.Entries.{vacant, entry_at}
use Rattle.flash_table.specs.Held.{key_and_item, id_and_key, HasKey, IsRight, IsSound}
use Rattle.flash_table.specs.Maps.{items_in, keys_in}
use Rattle.flash_table.proofs.Held.{empty_pair, vacant_pair, full_pair, id_is, same_pair, updated}
use Rattle.flash_table.proofs.Look.{nowhere_look, look_put, look_same}
use Rattle.flash_table.proofs.Maps.{bytes_same, get_items, get_keys}

module _ (store next : Classes) (es : List Entry) (sound : IsSound store es) (e : Entry) (key : List ℕ) (k : ℕ)
    (fresh : named store e.id.number ≡ None) (names : NamesOnly store next e.id.number (Some key)) (has : HasKey next e key)
    (inside : k < length es) (empty : (entry_at es k).tag ≡ 0) (absent : finite.get (items_in store es) key ≡ None) where
  names_as_before : (i : ℕ) → IsRight store (entry_at es i) → ((entry_at es i).tag ≡ 0) ⊎ (named next (entry_at es i).id.number ≡ named store (entry_at es i).id.number)
  names_as_before i (inl none) = inl none
  names_as_before i (inr has_key) =
      let is = has_key.1.names in
      inr (names.others (entry_at es i).id.number (λ same. let no : named store (entry_at es i).id.number ≡ None = ap (named store) same ∙ fresh in cc))

  pub pairs_as_before : (i : ℕ) → (key_and_item next (entry_at es i) ≡ key_and_item store (entry_at es i)) × (id_and_key next (entry_at es i) ≡ id_and_key store (entry_at es i))
  pairs_as_before i =
      elim (names_as_before i (sound.right i)) [
        | inl none ↦
            let now = empty_pair next (entry_at es i) none in
            let before = empty_pair store (entry_at es i) none in (now.0 ∙ sym before.0, now.1 ∙ sym before.1)
        | inr same ↦ same_pair store next (entry_at es i) same
      ]

  not_there : (i x : ℕ) → key_and_item store (entry_at es i) ≡ Some (key, x) → ⊥
  not_there = nowhere_look nat_list_cmp_total bytes_same (key_and_item store) vacant (vacant_pair store).0 es key (sym (get_items store es key) ∙ absent)

  not_there_now : (i x : ℕ) → key_and_item next (entry_at es i) ≡ Some (key, x) → ⊥
  not_there_now i x is = not_there i x (sym (pairs_as_before i).0 ∙ is)

  id_not_there : (i : ℕ) (q : List ℕ) → id_and_key next (entry_at es i) ≡ Some (e.id.number, q) → ⊥
  id_not_there i q is =
      let at = id_is store (entry_at es i) e.id.number q (sound.right i) (sym (pairs_as_before i).1 ∙ is) in
      let some = at.0.names in
      let none : named store (entry_at es i).id.number ≡ None = ap (named store) at.1 ∙ fresh in
      cc

  pub items_are : items_in next (set es k e) ≡ finite.insert (items_in store es) key e.item
  items_are =
      finite.same_map nat_list_cmp_total bytes_same (items_in next (set es k e)) (finite.insert (items_in store es) key e.item)
      (λ q. get_items next (set es k e) q
      ∙ look_put nat_list_cmp_total bytes_same (key_and_item next) vacant (vacant_pair next).0 es k e key e.item q inside (empty_pair next (entry_at es k) empty).0 (full_pair next e key has).0 not_there_now
      ∙ ap (cond (eq_by_cmp (slice_cmp nat_cmp) q key) (Some e.item)) (look_same nat_list_cmp_total bytes_same (key_and_item next) (key_and_item store) vacant es q (λ i. (pairs_as_before i).0) ∙ sym (get_items store es q))
      ∙ sym (finite.get-insert nat_list_cmp_total (items_in store es) key e.item q))

  pub keys_are : keys_in next (set es k e) ≡ finite.insert (keys_in store es) e.id.number key
  keys_are =
      finite.same_map nat_cmp_total nat_cmp-IsAntisymmetric (keys_in next (set es k e)) (finite.insert (keys_in store es) e.id.number key)
      (λ q. get_keys next (set es k e) q
      ∙ look_put nat_cmp_total nat_cmp-IsAntisymmetric (id_and_key next) vacant (vacant_pair next).1 es k e e.id.number key q inside (empty_pair next (entry_at es k) empty).1 (full_pair next e key has).1 id_not_there
      ∙ ap (cond (eq_by_cmp nat_cmp q e.id.number) (Some key)) (look_same nat_cmp_total nat_cmp-IsAntisymmetric (id_and_key next) (id_and_key store) vacant es q (λ i. (pairs_as_before i).1) ∙ sym (get_keys store es q))
      ∙ sym (finite.get-insert nat_cmp_total (keys_in store es) e.id.number key q))

  -- ---- the slots stay sound

  right_before : (i : ℕ) → IsRight store (entry_at es i) → IsRight next (entry_at es i)
  right_before i (inl none) = inl none
  right_before i (inr has_key) =
      let is = has_key.1.names in
      elim (names_as_before i (inr has_key)) [
        | inl none ↦ inl none
        | inr same ↦ inr (has_key.0, record { names = same ∙ is; tagged = has_key.1.tagged })
      ]

  right_now : (i : ℕ) → IsRight next (entry_at (set es k e) i)
  right_now i =
      elim (updated es k e i inside) [
        | inl here ↦ subst (IsRight next) (sym here.1) (inr (key, has))
        | inr away ↦ subst (IsRight next) (sym away.1) (right_before i (sound.right i))
      ]

  -- where a pair is found: at the index that was set, with the key, or where it was before
  pub came : (i : ℕ) (q : List ℕ) (x : ℕ) → key_and_item next (entry_at (set es k e) i) ≡ Some (q, x) → ((i ≡ k) × (q ≡ key)) ⊎ (key_and_item store (entry_at es i) ≡ Some (q, x))
  came i q x is =
      elim (updated es k e i inside) [
        | inl here ↦
            let both : ◌≡◌ {A = Option (List ℕ × ℕ)} (Some (key, e.item)) (Some (q, x)) = sym (full_pair next e key has).0 ∙ ap (key_and_item next) (sym here.1) ∙ is in
            inl (here.0, sym (ap (λ (o : Option (List ℕ × ℕ)). (unwrap_or o (q, x)).0) both))
        | inr away ↦ inr (sym (pairs_as_before i).0 ∙ ap (key_and_item next) (sym away.1) ∙ is)
      ]

  once_now : (i j : ℕ) (q : List ℕ) (x y : ℕ) → key_and_item next (entry_at (set es k e) i) ≡ Some (q, x) → key_and_item next (entry_at (set es k e) j) ≡ Some (q, y) → i ≡ j
  once_now i j q x y one other =
      elim (came i q x one) [
        | inl here ↦ elim (came j q y other) [
          | inl too ↦ here.0 ∙ sym too.0
          | inr before ↦ absurd (not_there j y (subst (λ (p : List ℕ). key_and_item store (entry_at es j) ≡ Some (p, y)) here.1 before))
        ]
        | inr before ↦ elim (came j q y other) [
          | inl here ↦ absurd (not_there i x (subst (λ (p : List ℕ). key_and_item store (entry_at es i) ≡ Some (p, x)) here.1 before))
          | inr too ↦ sound.once i j q x y before too
        ]
      ]

  pub sound_now : IsSound next (set es k e)
  sound_now = record { right = right_now; once = once_now }
