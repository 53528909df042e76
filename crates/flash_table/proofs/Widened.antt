-- An empty group more in a chain.
use Rattle.std.proofs.Common.{◌≡◌, ℕ, zero, suc, ◌+◌, ◌<◌, List, [], ◌∷◌, ◌++◌, length, set, length-set, length-append, inl, inr, Option, Some, None, refl, sym, ap, subst, ◌∙◌, arith}
use Rattle.std.specs.Cmp.{IsTotalOrder, nat_cmp_total}
use Rattle.std.specs.Cmp.Lexicographic.{nat_list_cmp_total}
use Rattle.std.specs.FinMap as finite
use Rattle.std.specs.FinMap.{nat_cmp-IsAntisymmetric, IsAntisymmetric}
use Rattle.std.specs.declared.cmp.Ordering.{Ordering}
use Rattle.std.proofs.lemmas.List.{append_assoc}
use Rattle.flash_keys.specs.Classes.{Classes}
use Rattle.flash_names.specs.KeyHash.{hash_of}
use Rattle.flash_table.specs.declared.entry.Entry.{Entry}
use Rattle.flash_table.specs.Chains.{chain_of, HasEmpty, AreChains, IsHomed}
use Rattle.flash_table.specs.Entries.{vacant, vacants, entry_at}
use Rattle.flash_table.specs.Flat.{flat}
use Rattle.flash_table.specs.Held.{key_and_item, id_and_key, IsRight}
use Rattle.flash_table.specs.Home.{home}
use Rattle.flash_table.specs.Maps.{items_in, keys_in}
use Rattle.flash_table.proofs.ChainSlots.{past, in_flat, chain_set}
use Rattle.flash_table.proofs.Flat.{either, offset, flat_at, located}
use Rattle.flash_table.proofs.Held.{vacant_pair}
use Rattle.flash_table.proofs.Look.{look, found}
use Rattle.flash_table.proofs.Maps.{bytes_same, get_items, get_keys}

-- empty slots behind others change no entry
pub blank_at : (es blanks : List Entry) → ((i : ℕ) → entry_at blanks i ≡ vacant) → (k : ℕ) → entry_at (es ++ blanks) k ≡ entry_at es k
blank_at [] blanks none k = none k
blank_at (e ∷ es) blanks none zero = refl
blank_at (e ∷ es) blanks none (suc k) = blank_at es blanks none k

pub vacants_at : (n i : ℕ) → entry_at (vacants n) i ≡ vacant
vacants_at zero i = refl
vacants_at (suc n) zero = refl
vacants_at (suc n) (suc i) = vacants_at n i

module _ {K X : Type 0} {R : K → K → Ordering} (order : IsTotalOrder R) (same : IsAntisymmetric R) (pair_of : Entry → Option (K × X)) (blank : pair_of vacant ≡ None) where
  look_front : (es one other : List Entry) (q : K) → look order same pair_of one q ≡ look order same pair_of other q → look order same pair_of (es ++ one) q ≡ look order same pair_of (es ++ other) q
  unfolding look
  look_front [] one other q is = is
  look_front (e ∷ es) one other q is = ap (found order same (pair_of e) q) (look_front es one other q is)

  look_after : (n : ℕ) (es : List Entry) (q : K) → look order same pair_of (vacants n ++ es) q ≡ look order same pair_of es q
  unfolding look found
  look_after zero es q = refl
  look_after (suc n) es q = ap (λ (o : Option (K × X)). found order same o q (look order same pair_of (vacants n ++ es) q)) blank ∙ look_after n es q

  pub look_wider : (chains : List (List Entry)) (h n : ℕ) (q : K) → look order same pair_of (flat (set chains h (chain_of chains h ++ vacants n))) q ≡ look order same pair_of (flat chains) q
  look_wider [] h n q = refl
  look_wider (es ∷ rest) zero n q =
      ap (λ (xs : List Entry). look order same pair_of xs q) (append_assoc es (vacants n) (flat rest)) ∙ look_front es (vacants n ++ flat rest) (flat rest) q (look_after n (flat rest) q)
  look_wider (es ∷ rest) (suc h) n q = look_front es (flat (set rest h (chain_of rest h ++ vacants n))) (flat rest) q (look_wider rest h n q)

module _ (store : Classes) (chains : List (List Entry)) (are : AreChains store chains) (h : ℕ) (inside : h < length chains) where
  abbrev pub wider : List (List Entry)
  wider = set chains h (chain_of chains h ++ vacants 16)

  pub long : length wider ≡ length chains
  long = length-set chains h (chain_of chains h ++ vacants 16)

  pub items_are : items_in store (flat wider) ≡ items_in store (flat chains)
  items_are =
      finite.same_map nat_list_cmp_total bytes_same (items_in store (flat wider)) (items_in store (flat chains))
      (λ q. get_items store (flat wider) q ∙ look_wider nat_list_cmp_total bytes_same (key_and_item store) (vacant_pair store).0 chains h 16 q ∙ sym (get_items store (flat chains) q))

  pub keys_are : keys_in store (flat wider) ≡ keys_in store (flat chains)
  keys_are =
      finite.same_map nat_cmp_total nat_cmp-IsAntisymmetric (keys_in store (flat wider)) (keys_in store (flat chains))
      (λ q. get_keys store (flat wider) q ∙ look_wider nat_cmp_total nat_cmp-IsAntisymmetric (id_and_key store) (vacant_pair store).1 chains h 16 q ∙ sym (get_keys store (flat chains) q))

  pub same_at : (g i : ℕ) → entry_at (chain_of wider g) i ≡ entry_at (chain_of chains g) i
  same_at g i =
      elim (chain_set chains h (chain_of chains h ++ vacants 16) g inside) [
        | inl here ↦ ap (λ (c : List Entry). entry_at c i) here.1 ∙ blank_at (chain_of chains h) (vacants 16) (vacants_at 16) i ∙ ap (λ (f : ℕ). entry_at (chain_of chains f) i) (sym here.0)
        | inr away ↦ ap (λ (c : List Entry). entry_at c i) away.1
      ]

  homed_now : IsHomed (length wider) store wider
  homed_now g i key item is = ap (λ (n : ℕ). home n (hash_of key)) long ∙ are.homed g i key item (ap (key_and_item store) (sym (same_at g i)) ∙ is)

  right_now : (k : ℕ) → IsRight store (entry_at (flat wider) k)
  right_now k =
      elim (either k (length (flat wider))) [
        | inl low ↦
            let at = located wider k low in
            let before = in_flat chains at.0 at.1 in
            let same : entry_at (flat wider) k ≡ entry_at (flat chains) before.0 = ap (entry_at (flat wider)) at.2.sum ∙ flat_at wider at.0 at.1 vacant at.2.list at.2.inside ∙ same_at at.0 at.1 ∙ sym before.1 in
            subst (IsRight store) (sym same) (are.sound.right before.0)
        | inr over ↦ inl (ap (λ (e : Entry). e.tag) (past (flat wider) k vacant over))
      ]

  -- where a pair is: in the chain of its home, and there before
  there : (k : ℕ) (key : List ℕ) (x : ℕ) → key_and_item store (entry_at (flat wider) k) ≡ Some (key, x)
      → (i : ℕ) × (k ≡ offset wider (home (length chains) (hash_of key)) + i) × (key_and_item store (entry_at (flat chains) (offset chains (home (length chains) (hash_of key)) + i)) ≡ Some (key, x))
  there k key x is =
      elim (either k (length (flat wider))) [
        | inl low ↦
            let at = located wider k low in
            let entry : entry_at (flat wider) k ≡ entry_at (chain_of wider at.0) at.1 = ap (entry_at (flat wider)) at.2.sum ∙ flat_at wider at.0 at.1 vacant at.2.list at.2.inside in
            let pair : key_and_item store (entry_at (chain_of chains at.0) at.1) ≡ Some (key, x) = ap (key_and_item store) (sym (entry ∙ same_at at.0 at.1)) ∙ is in
            let here : home (length chains) (hash_of key) ≡ at.0 = are.homed at.0 at.1 key x pair in
            elim (either at.1 (length (chain_of chains at.0))) [
              | inl within ↦ (
                at.1,
                at.2.sum ∙ ap (λ (g : ℕ). offset wider g + at.1) (sym here),
                ap (λ (g : ℕ). key_and_item store (entry_at (flat chains) (offset chains g + at.1))) here
                    ∙ ap (key_and_item store) (flat_at chains at.0 at.1 vacant (omega (arith, at.2.list, long)) within) ∙ pair,
              )
              | inr beyond ↦ let no : key_and_item store (entry_at (chain_of chains at.0) at.1) ≡ None = ap (key_and_item store) (past (chain_of chains at.0) at.1 vacant beyond) ∙ (vacant_pair store).0 in cc
            ]
        | inr over ↦ let no : key_and_item store (entry_at (flat wider) k) ≡ None = ap (key_and_item store) (past (flat wider) k vacant over) ∙ (vacant_pair store).0 in cc
      ]

  once_now : (k j : ℕ) (key : List ℕ) (x y : ℕ) → key_and_item store (entry_at (flat wider) k) ≡ Some (key, x) → key_and_item store (entry_at (flat wider) j) ≡ Some (key, y) → k ≡ j
  once_now k j key x y one other =
      let first = there k key x one in
      let second = there j key y other in
      let same = are.sound.once (offset chains (home (length chains) (hash_of key)) + first.0) (offset chains (home (length chains) (hash_of key)) + second.0) key x y first.2 second.2 in
      omega (arith, first.1, second.1, same)

  pub are_now : AreChains store wider
  are_now = record {
    some = omega (arith, long, are.some);
    few = omega (arith, long, are.few);
    sound = record { right = right_now; once = once_now };
    homed = homed_now;
  }

  pub empty_there : HasEmpty (chain_of wider h)
  empty_there =
      elim (chain_set chains h (chain_of chains h ++ vacants 16) h inside) [
        | inl here ↦
            subst HasEmpty (sym here.1)
            (length (chain_of chains h), omega (arith, length-append (chain_of chains h) (vacants 16)), ap (λ (e : Entry). e.tag) (blank_at (chain_of chains h) (vacants 16) (vacants_at 16) (length (chain_of chains h)) ∙ past (chain_of chains h) (length (chain_of chains h)) vacant (omega arith)))
        | inr away ↦ absurd (away.0 refl)
      ]
