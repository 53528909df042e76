-- Maps by keys that are seen through the ids: what a map has under a key is what the item of the key's id gives.
use Rattle.std.proofs.Common.{◌≡◌, ℕ, List, Option, Some, None, refl, sym, ◌∙◌, ap, subst, inl, inr}
use Rattle.std.specs.Option.{option_and_then}
use Rattle.std.specs.FinMap as finite
use Rattle.flash_names.specs.declared.place.ItemId.{ItemId}
use Rattle.flash_items.specs.declared.item.Item.{Item}
use Rattle.flash_items.specs.ItemsState.{ItemMap, Ids, ItemsState}
use Rattle.flash_index.proofs.Lookups.{order, cases_key, cut_here, cut_else, same_by_keys, id_put_here, id_put_else, id_cut_else}

-- no other key has the id
abbrev pub OnlyKey : ItemsState → ItemId → List ℕ → Type 0
OnlyKey s id key = (q : List ℕ) → (q ≡ key → ⊥) → finite.get s.ids q ≡ Some id.key → ⊥

module _ {X : Type 0} (see : ItemsState → finite.FinMap order X) (of : Option Item → Option X) (sees : (s : ItemsState) (key : List ℕ) → finite.get (see s) key ≡ option_and_then (λ n. of (finite.get s.items n)) (finite.get s.ids key)) where
  -- what is seen of a key by the item of its id
  pub at_by : (s : ItemsState) (n : ℕ) (key : List ℕ) → finite.get s.ids key ≡ Some n → finite.get (see s) key ≡ of (finite.get s.items n)
  at_by s n key named = sees s key ∙ ap (option_and_then (λ m. of (finite.get s.items m))) named

  -- only the ids and the items count
  pub same_by : (a b : ItemsState) → a.ids ≡ b.ids → a.items ≡ b.items → see a ≡ see b
  same_by a b ids items = same_by_keys (see a) (see b) (λ q.
      sees a q ∙ ap (λ (m : ItemMap). option_and_then (λ n. of (finite.get m n)) (finite.get a.ids q)) items
      ∙ ap (λ (m : Ids). option_and_then (λ n. of (finite.get b.items n)) (finite.get m q)) ids ∙ sym (sees b q))

  pub none_by : (s : ItemsState) → s.ids ≡ finite.empty → see s ≡ finite.empty
  none_by s none = same_by_keys (see s) finite.empty (λ q.
      sees s q ∙ ap (λ (m : Ids). option_and_then (λ n. of (finite.get s.items n)) (finite.get m q)) none
      ∙ ap (option_and_then (λ n. of (finite.get s.items n))) (finite.get-empty order q) ∙ sym (finite.get-empty order q))

  module _ (s t : ItemsState) (id : ItemId) (key : List ℕ) where
    same_at : (q : List ℕ) → ((n : ℕ) → (n ≡ id.key → ⊥) → finite.get t.items n ≡ finite.get s.items n) → (o : Option ℕ) → (o ≡ Some id.key → ⊥)
        → option_and_then (λ n. of (finite.get t.items n)) o ≡ option_and_then (λ n. of (finite.get s.items n)) o
    same_at q else None apart = refl
    same_at q else (Some n) apart = ap of (else n (λ e. apart (ap (λ k. Some k) e)))

    else_by : OnlyKey s id key → ((n : ℕ) → (n ≡ id.key → ⊥) → finite.get t.items n ≡ finite.get s.items n) → ((q : List ℕ) → (q ≡ key → ⊥) → finite.get t.ids q ≡ finite.get s.ids q) → (q : List ℕ) → (q ≡ key → ⊥) → finite.get (see t) q ≡ finite.get (see s) q
    else_by only else ids q apart =
        sees t q ∙ ap (option_and_then (λ n. of (finite.get t.items n))) (ids q apart)
        ∙ same_at q else (finite.get s.ids q) (only q apart) ∙ sym (sees s q)

    -- an item is put under its key
    pub put_by : (item : Item) (new : finite.FinMap order X) → OnlyKey s id key → t.items ≡ finite.insert s.items id.key item → finite.get t.ids key ≡ Some id.key → ((q : List ℕ) → (q ≡ key → ⊥) → finite.get t.ids q ≡ finite.get s.ids q)
        → finite.get new key ≡ of (Some item) → ((q : List ℕ) → (q ≡ key → ⊥) → finite.get new q ≡ finite.get (see s) q) → see t ≡ new
    put_by item new only items named ids here else =
        let at : (n : ℕ) → finite.get t.items n ≡ finite.get (finite.insert s.items id.key item) n = λ n. ap (λ (m : ItemMap). finite.get m n) items in
        same_by_keys (see t) new (λ q. elim (cases_key q key) [
          | inl same ↦ subst (λ k. finite.get (see t) k ≡ finite.get new k) (sym same)
              (at_by t id.key key named ∙ ap of (at id.key ∙ id_put_here s.items id.key item) ∙ sym here)
          | inr apart ↦
              else_by only (λ n other. at n ∙ id_put_else s.items id.key item n other) ids q apart
              ∙ sym (else q apart)
        ])

    -- the item of a key is taken out
    pub cut_by : (new : finite.FinMap order X) → OnlyKey s id key → t.items ≡ finite.remove s.items id.key → t.ids ≡ finite.remove s.ids key → finite.get new key ≡ None → ((q : List ℕ) → (q ≡ key → ⊥) → finite.get new q ≡ finite.get (see s) q) → see t ≡ new
    cut_by new only items ids here else =
        let id_at : (q : List ℕ) → finite.get t.ids q ≡ finite.get (finite.remove s.ids key) q = λ q. ap (λ (m : Ids). finite.get m q) ids in
        same_by_keys (see t) new (λ q. elim (cases_key q key) [
          | inl same ↦ subst (λ k. finite.get (see t) k ≡ finite.get new k) (sym same)
              (sees t key ∙ ap (option_and_then (λ n. of (finite.get t.items n))) (id_at key ∙ cut_here s.ids key) ∙ sym here)
          | inr apart ↦
              else_by only (λ n other. ap (λ (m : ItemMap). finite.get m n) items ∙ id_cut_else s.items id.key n other)
              (λ k other. id_at k ∙ cut_else s.ids key k other) q apart
              ∙ sym (else q apart)
        ])
