-- A slot with a key is emptied, and then the key's id names nothing.
use Rattle.std.proofs.Common.{◌≡◌, ◌≢◌, ℕ, ◌<◌, cond, List, length, set, ◌⊎◌, inl, inr, Option, Some, None, sym, ap, subst, ◌∙◌}
use Rattle.std.specs.Option.{unwrap_or}
use Rattle.std.specs.Ordering.{nat_cmp, eq_by_cmp}
use Rattle.std.specs.Cmp.{nat_cmp_total}
use Rattle.std.specs.Cmp.Lexicographic.{slice_cmp, nat_list_cmp_total}
use Rattle.std.specs.FinMap as finite
use Rattle.std.specs.FinMap.{nat_cmp-IsAntisymmetric}
use Rattle.flash_keys.specs.Classes.{Classes}
use Rattle.flash_keys.specs.Names.{named, NamesOnly}
use Rattle.flash_table.specs.declared.entry.Entry.{Entry}
use Rattle.flash_table.specs.Entries.{vacant, entry_at}
use Rattle.flash_table.specs.Held.{key_and_item, id_and_key, HasKey, IsRight, IsSound}
use Rattle.flash_table.specs.Maps.{items_in, keys_in}
use Rattle.flash_table.proofs.Held.{empty_pair, vacant_pair, full_pair, id_is, same_pair, updated}
use Rattle.flash_table.proofs.Look.{look_clear, look_same}
use Rattle.flash_table.proofs.Maps.{bytes_same, get_items, get_keys}

-- the key of an entry is one
one_key : (store : Classes) (e : Entry) (one other : List ℕ) → named store e.id.number ≡ Some one → named store e.id.number ≡ Some other → one ≡ other
one_key store e one other is too = ap (λ (o : Option (List ℕ)). unwrap_or o one) (sym is ∙ too)

module _ (store next : Classes) (es : List Entry) (sound : IsSound store es) (k : ℕ) (key : List ℕ) (inside : k < length es)
    (has : HasKey store (entry_at es k) key) (names : NamesOnly store next (entry_at es k).id.number None) where
  only_key : (i x : ℕ) → key_and_item store (entry_at es i) ≡ Some (key, x) → i ≡ k
  only_key i x is = sound.once i k key x (entry_at es k).item is (full_pair store (entry_at es k) key has).0

  only_same : (i : ℕ) (q : List ℕ) → HasKey store (entry_at es i) q → (entry_at es i).id.number ≡ (entry_at es k).id.number → i ≡ k
  only_same i q other same =
      let keys : q ≡ key = one_key store (entry_at es k) q key (ap (named store) (sym same) ∙ other.names) has.names in
      only_key i (entry_at es i).item (subst (λ (p : List ℕ). key_and_item store (entry_at es i) ≡ Some (p, (entry_at es i).item)) keys (full_pair store (entry_at es i) q other).0)

  only_id : (i : ℕ) (q : List ℕ) → id_and_key store (entry_at es i) ≡ Some ((entry_at es k).id.number, q) → i ≡ k
  only_id i q is =
      let at = id_is store (entry_at es i) (entry_at es k).id.number q (sound.right i) is in
      only_same i q at.0 at.1

  others : (i : ℕ) → i ≢ k → IsRight store (entry_at es i) → ((entry_at es i).tag ≡ 0) ⊎ ((key : List ℕ) × HasKey store (entry_at es i) key × (named next (entry_at es i).id.number ≡ named store (entry_at es i).id.number))
  others i away (inl none) = inl none
  others i away (inr other) = inr (other.0, other.1, names.others (entry_at es i).id.number (λ same. away (only_same i other.0 other.1 same)))

  pairs_away : (i : ℕ) → i ≢ k → (key_and_item next (entry_at es i) ≡ key_and_item store (entry_at es i)) × (id_and_key next (entry_at es i) ≡ id_and_key store (entry_at es i))
  pairs_away i away =
      elim (others i away (sound.right i)) [
        | inl none ↦
            let now = empty_pair next (entry_at es i) none in
            let before = empty_pair store (entry_at es i) none in (now.0 ∙ sym before.0, now.1 ∙ sym before.1)
        | inr other ↦ same_pair store next (entry_at es i) other.2
      ]

  pub pairs_now : (i : ℕ) → (key_and_item next (entry_at (set es k vacant) i) ≡ key_and_item store (entry_at (set es k vacant) i)) × (id_and_key next (entry_at (set es k vacant) i) ≡ id_and_key store (entry_at (set es k vacant) i))
  pairs_now i =
      elim (updated es k vacant i inside) [
        | inl here ↦ (
          ap (key_and_item next) here.1 ∙ (vacant_pair next).0 ∙ sym (ap (key_and_item store) here.1 ∙ (vacant_pair store).0),
          ap (id_and_key next) here.1 ∙ (vacant_pair next).1 ∙ sym (ap (id_and_key store) here.1 ∙ (vacant_pair store).1),
        )
        | inr away ↦ (
          ap (key_and_item next) away.1 ∙ (pairs_away i away.0).0 ∙ sym (ap (key_and_item store) away.1),
          ap (id_and_key next) away.1 ∙ (pairs_away i away.0).1 ∙ sym (ap (id_and_key store) away.1),
        )
      ]

  pub items_are : items_in next (set es k vacant) ≡ finite.remove (items_in store es) key
  items_are =
      finite.same_map nat_list_cmp_total bytes_same (items_in next (set es k vacant)) (finite.remove (items_in store es) key)
      (λ q. get_items next (set es k vacant) q
      ∙ look_same nat_list_cmp_total bytes_same (key_and_item next) (key_and_item store) vacant (set es k vacant) q (λ i. (pairs_now i).0)
      ∙ look_clear nat_list_cmp_total bytes_same (key_and_item store) vacant (vacant_pair store).0 es k vacant key (entry_at es k).item q (full_pair store (entry_at es k) key has).0 (vacant_pair store).0 only_key
      ∙ ap (cond (eq_by_cmp (slice_cmp nat_cmp) q key) None) (sym (get_items store es q))
      ∙ sym (finite.get-remove nat_list_cmp_total (items_in store es) key q))

  pub keys_are : keys_in next (set es k vacant) ≡ finite.remove (keys_in store es) (entry_at es k).id.number
  keys_are =
      finite.same_map nat_cmp_total nat_cmp-IsAntisymmetric (keys_in next (set es k vacant)) (finite.remove (keys_in store es) (entry_at es k).id.number)
      (λ q. get_keys next (set es k vacant) q
      ∙ look_same nat_cmp_total nat_cmp-IsAntisymmetric (id_and_key next) (id_and_key store) vacant (set es k vacant) q (λ i. (pairs_now i).1)
      ∙ look_clear nat_cmp_total nat_cmp-IsAntisymmetric (id_and_key store) vacant (vacant_pair store).1 es k vacant (entry_at es k).id.number key q (full_pair store (entry_at es k) key has).1 (vacant_pair store).1 only_id
      ∙ ap (cond (eq_by_cmp nat_cmp q (entry_at es k).id.number) None) (sym (get_keys store es q))
      ∙ sym (finite.get-remove nat_cmp_total (keys_in store es) (entry_at es k).id.number q))

  -- ---- the slots stay sound

  right_away : (i : ℕ) → i ≢ k → IsRight next (entry_at es i)
  right_away i away =
      elim (others i away (sound.right i)) [
        | inl none ↦ inl none
        | inr other ↦ inr (other.0, record { names = other.2 ∙ other.1.names; tagged = other.1.tagged })
      ]

  right_now : (i : ℕ) → IsRight next (entry_at (set es k vacant) i)
  right_now i =
      elim (updated es k vacant i inside) [
        | inl here ↦ inl (ap (λ (e : Entry). e.tag) here.1)
        | inr away ↦ subst (IsRight next) (sym away.1) (right_away i away.0)
      ]

  -- a pair that is found was there before
  pub came : (i : ℕ) (q : List ℕ) (x : ℕ) → key_and_item next (entry_at (set es k vacant) i) ≡ Some (q, x) → key_and_item store (entry_at es i) ≡ Some (q, x)
  came i q x is =
      elim (updated es k vacant i inside) [
        | inl here ↦ let no : key_and_item next (entry_at (set es k vacant) i) ≡ None = ap (key_and_item next) here.1 ∙ (vacant_pair next).0 in cc
        | inr away ↦ sym (pairs_away i away.0).0 ∙ ap (key_and_item next) (sym away.1) ∙ is
      ]

  pub sound_now : IsSound next (set es k vacant)
  sound_now = record { right = right_now; once = λ i j q x y one other. sound.once i j q x y (came i q x one) (came j q y other) }
