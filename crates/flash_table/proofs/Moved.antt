-- An entry goes from its slot to an empty one.
use Rattle.std.proofs.Common.{◌≡◌, ◌≢◌, ℕ, ◌<◌, List, length, set, length-set, ◌⊎◌, inl, inr, Option, Some, None, sym, ap, subst, ◌∙◌, arith}
use Rattle.std.specs.Option.{unwrap_or}
use Rattle.std.specs.Cmp.{nat_cmp_total}
use Rattle.std.specs.Cmp.Lexicographic.{nat_list_cmp_total}
use Rattle.std.specs.FinMap as finite
use Rattle.std.specs.FinMap.{nat_cmp-IsAntisymmetric}
use Rattle.flash_keys.specs.Classes.{Classes}
use Rattle.flash_keys.specs.Names.{named}
use Rattle.flash_table.specs.declared.entry.Entry.{Entry}
use Rattle.flash_table.specs.Entries.{vacant, entry_at}
use Rattle.flash_table.specs.Held.{key_and_item, id_and_key, HasKey, IsRight, IsSound}
use Rattle.flash_table.specs.Maps.{items_in, keys_in}
use Rattle.flash_table.proofs.Held.{empty_pair, vacant_pair, full_pair, id_is, updated}
use Rattle.flash_table.proofs.Look.{look_moved}
use Rattle.flash_table.proofs.Maps.{bytes_same, get_items, get_keys}

module _ (store : Classes) (es : List Entry) (sound : IsSound store es) (k l : ℕ) (key : List ℕ) (k_inside : k < length es) (inside : l < length es)
    (has : HasKey store (entry_at es k) key) (empty : (entry_at es l).tag ≡ 0) where
  abbrev pub moved : List Entry
  moved = set (set es k vacant) l (entry_at es k)

  apart : l ≢ k
  apart same = omega (arith, ap (λ (i : ℕ). (entry_at es i).tag) same, empty, has.tagged)

  only : (i x : ℕ) → key_and_item store (entry_at es i) ≡ Some (key, x) → i ≡ k
  only i x is = sound.once i k key x (entry_at es k).item is (full_pair store (entry_at es k) key has).0

  only_id : (i : ℕ) (q : List ℕ) → id_and_key store (entry_at es i) ≡ Some ((entry_at es k).id.number, q) → i ≡ k
  only_id i q is =
      let at = id_is store (entry_at es i) (entry_at es k).id.number q (sound.right i) is in
      let keys : q ≡ key =
      ap (λ (o : Option (List ℕ)). unwrap_or o q) (sym (ap (named store) (sym at.1) ∙ at.0.names) ∙ has.names) in
      only i (entry_at es i).item (subst (λ (p : List ℕ). key_and_item store (entry_at es i) ≡ Some (p, (entry_at es i).item)) keys (full_pair store (entry_at es i) q at.0).0)

  pub items_are : items_in store moved ≡ items_in store es
  items_are =
      finite.same_map nat_list_cmp_total bytes_same (items_in store moved) (items_in store es)
      (λ q. get_items store moved q
      ∙ look_moved nat_list_cmp_total bytes_same (key_and_item store) vacant (vacant_pair store).0 es k l key (entry_at es k).item q inside apart (full_pair store (entry_at es k) key has).0 (empty_pair store (entry_at es l) empty).0 only
      ∙ sym (get_items store es q))

  pub keys_are : keys_in store moved ≡ keys_in store es
  keys_are =
      finite.same_map nat_cmp_total nat_cmp-IsAntisymmetric (keys_in store moved) (keys_in store es)
      (λ q. get_keys store moved q
      ∙ look_moved nat_cmp_total nat_cmp-IsAntisymmetric (id_and_key store) vacant (vacant_pair store).1 es k l (entry_at es k).id.number key q inside apart (full_pair store (entry_at es k) key has).1 (empty_pair store (entry_at es l) empty).1 only_id
      ∙ sym (get_keys store es q))

  -- what a slot has after the move: the entry, nothing, or what it had
  slots : (i : ℕ) → ((i ≡ l) × (entry_at moved i ≡ entry_at es k)) ⊎ (entry_at moved i ≡ vacant) ⊎ ((i ≢ l) × (i ≢ k) × (entry_at moved i ≡ entry_at es i))
  slots i =
      elim (updated (set es k vacant) l (entry_at es k) i (omega (arith, length-set es k vacant, inside))) [
        | inl here ↦ inl here
        | inr away ↦ elim (updated es k vacant i k_inside) [
          | inl cleared ↦ inr (inl (away.1 ∙ cleared.1))
          | inr other ↦ inr (inr (away.0, other.0, away.1 ∙ other.1))
        ]
      ]

  right_now : (i : ℕ) → IsRight store (entry_at moved i)
  right_now i =
      elim (slots i) [
        | inl here ↦ subst (IsRight store) (sym here.1) (sound.right k)
        | inr rest ↦ elim rest [
          | inl none ↦ inl (ap (λ (e : Entry). e.tag) none)
          | inr other ↦ subst (IsRight store) (sym other.2) (sound.right i)
        ]
      ]

  -- where a pair is found: in the slot that the entry went to, or where it was before
  pub came : (i : ℕ) (q : List ℕ) (x : ℕ) → key_and_item store (entry_at moved i) ≡ Some (q, x) → ((i ≡ l) × (q ≡ key)) ⊎ ((i ≢ l) × (key_and_item store (entry_at es i) ≡ Some (q, x)))
  came i q x is =
      elim (slots i) [
        | inl here ↦
            let both : ◌≡◌ {A = Option (List ℕ × ℕ)} (Some (key, (entry_at es k).item)) (Some (q, x)) = sym (full_pair store (entry_at es k) key has).0 ∙ ap (key_and_item store) (sym here.1) ∙ is in
            inl (here.0, sym (ap (λ (o : Option (List ℕ × ℕ)). (unwrap_or o (q, x)).0) both))
        | inr rest ↦ elim rest [
          | inl none ↦ let no : key_and_item store (entry_at moved i) ≡ None = ap (key_and_item store) none ∙ (vacant_pair store).0 in cc
          | inr other ↦ inr (other.0, ap (key_and_item store) (sym other.2) ∙ is)
        ]
      ]

  -- the key is in no slot but the one that it went to
  elsewhere : (i x : ℕ) → i ≢ l → key_and_item store (entry_at moved i) ≡ Some (key, x) → ⊥
  elsewhere i x away is =
      elim (slots i) [
        | inl here ↦ away here.0
        | inr rest ↦ elim rest [
          | inl none ↦ let no : key_and_item store (entry_at moved i) ≡ None = ap (key_and_item store) none ∙ (vacant_pair store).0 in cc
          | inr other ↦ other.1 (only i x (ap (key_and_item store) (sym other.2) ∙ is))
        ]
      ]

  once_now : (i j : ℕ) (q : List ℕ) (x y : ℕ) → key_and_item store (entry_at moved i) ≡ Some (q, x) → key_and_item store (entry_at moved j) ≡ Some (q, y) → i ≡ j
  once_now i j q x y one other =
      elim (came i q x one) [
        | inl here ↦ elim (came j q y other) [
          | inl too ↦ here.0 ∙ sym too.0
          | inr before ↦ absurd (elsewhere j y before.0 (subst (λ (p : List ℕ). key_and_item store (entry_at moved j) ≡ Some (p, y)) here.1 other))
        ]
        | inr before ↦ elim (came j q y other) [
          | inl here ↦ absurd (elsewhere i x before.0 (subst (λ (p : List ℕ). key_and_item store (entry_at moved i) ≡ Some (p, x)) here.1 one))
          | inr too ↦ sound.once i j q x y before.1 too.1
        ]
      ]

  pub sound_now : IsSound store moved
  sound_now = record { right = right_now; once = once_now }
