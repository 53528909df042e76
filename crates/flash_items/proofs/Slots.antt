-- The map of items after a slot is filled, and after one is emptied.
use Rattle.std.proofs.Common.{◌≡◌, ℕ, List, [], Option, Some, None, IsSome, option_map, unwrap_or, get_or, set, length, refl, sym, ◌∙◌, ap, subst, inl, inr}
use Rattle.std.specs.Ordering.{nat_cmp}
use Rattle.std.proofs.lemmas.Bool.{cases_eq, cases_lt}
use Rattle.std.proofs.lemmas.List.{get_or-set_same, get_or-set_other, get_or_past}
use Rattle.std.specs.Cmp.{nat_cmp_total}
use Rattle.std.specs.FinMap.{get, insert, remove, nat_cmp-IsAntisymmetric}
use Rattle.flash_table.specs.Maps.{Keys}
use Rattle.flash_items.specs.declared.item.Item.{Item}
use Rattle.flash_items.specs.declared.item.Entry.{Entry}
use Rattle.flash_items.specs.Item.{item_size, with_key}
use Rattle.flash_items.specs.ItemsState.{ItemMap, size_at}
use Rattle.flash_items.specs.Joined.{item_of, items_in}
use Rattle.flash_items.proofs.Lookups.{insert_here, insert_else, remove_here, remove_else, nat_itself}
use Rattle.flash_items.proofs.Entries.{get_items, same_items}

pub none_some : {X : Type 0} (x : X) → None ≡ Some x → ⊥
none_some x e = cc

pub none_is_some : IsSome (let o : Option Entry = None in o) → ⊥
none_is_some some = cc

-- one slot has this now, and each other what it had
pub record Sets (old new : List (Option Entry)) (n : ℕ) (slot : Option Entry) : Type 0 where
  pub here : get_or new n None ≡ slot
  pub else : (m : ℕ) → (m ≡ n → ⊥) → get_or new m None ≡ get_or old m None

pub sets_of : (slots : List (Option Entry)) (n : ℕ) (was now : Option Entry) → get_or slots n None ≡ was → IsSome was → Sets slots (set slots n now) n now
sets_of slots n (Some e) now is some = elim (cases_lt n (length slots)) [
  | inl inside ↦ record { here = get_or-set_same slots n now None inside; else = λ m other. get_or-set_other slots n m now None other }
  | inr past ↦ absurd (none_some e (sym (get_or_past slots n None past) ∙ is))
]
sets_of slots n None now is some = absurd (none_is_some some)

-- the name of an entry has the key that it had
abbrev pub SameName : Keys → Keys → Entry → Type 0
SameName old new e = get new e.key.number ≡ get old e.key.number

same_item : (old new : Keys) (e : Entry) → SameName old new e → item_of new e ≡ item_of old e
same_item old new e same = ap (λ (o : Option (List ℕ)). with_key (unwrap_or o []) e.parts) same

module _ (old new : Keys) (slots now : List (Option Entry)) (n : ℕ) where
  kept_item : (slot : Option Entry) → ((e : Entry) → slot ≡ Some e → SameName old new e) → option_map (item_of new) slot ≡ option_map (item_of old) slot
  kept_item None same = refl
  kept_item (Some e) same = ap (λ i. Some i) (same_item old new e (same e refl))

  pub items_set : (entry : Entry) → Sets slots now n (Some entry) → ((m : ℕ) (e : Entry) → (m ≡ n → ⊥) → get_or slots m None ≡ Some e → SameName old new e) → items_in new now ≡ insert (items_in old slots) n (item_of new entry)
  items_set entry sets same = same_items _ _ (λ m. elim (cases_eq m n) [
    | inl at ↦ subst (λ k. get (items_in new now) k ≡ get (insert (items_in old slots) n (item_of new entry)) k) (sym at)
        (get_items new now n ∙ ap (option_map (item_of new)) sets.here ∙ sym (insert_here nat_cmp nat_cmp_total nat_cmp-IsAntisymmetric nat_itself (items_in old slots) n (item_of new entry)))
    | inr other ↦
        get_items new now m ∙ ap (option_map (item_of new)) (sets.else m other)
        ∙ kept_item (get_or slots m None) (λ e is. same m e other is) ∙ sym (get_items old slots m)
        ∙ sym (insert_else nat_cmp nat_cmp_total nat_cmp-IsAntisymmetric nat_itself (items_in old slots) n (item_of new entry) m other)
  ])

  pub items_cut : Sets slots now n None → ((m : ℕ) (e : Entry) → (m ≡ n → ⊥) → get_or slots m None ≡ Some e → SameName old new e) → items_in new now ≡ remove (items_in old slots) n
  items_cut sets same = same_items _ _ (λ m. elim (cases_eq m n) [
    | inl at ↦ subst (λ k. get (items_in new now) k ≡ get (remove (items_in old slots) n) k) (sym at)
        (get_items new now n ∙ ap (option_map (item_of new)) sets.here ∙ sym (remove_here nat_cmp nat_cmp_total nat_cmp-IsAntisymmetric nat_itself (items_in old slots) n))
    | inr other ↦
        get_items new now m ∙ ap (option_map (item_of new)) (sets.else m other)
        ∙ kept_item (get_or slots m None) (λ e is. same m e other is) ∙ sym (get_items old slots m)
        ∙ sym (remove_else nat_cmp nat_cmp_total nat_cmp-IsAntisymmetric nat_itself (items_in old slots) n m other)
  ])

-- the sizes after an item is set, and after one is taken away
pub size_set : (items : ItemMap) (n : ℕ) (item : Item) → size_at (insert items n item) n ≡ Some (item_size item)
size_set items n item = ap (option_map item_size) (insert_here nat_cmp nat_cmp_total nat_cmp-IsAntisymmetric nat_itself items n item)

pub size_set_else : (items : ItemMap) (n : ℕ) (item : Item) (m : ℕ) → (m ≡ n → ⊥) → size_at (insert items n item) m ≡ size_at items m
size_set_else items n item m other = ap (option_map item_size) (insert_else nat_cmp nat_cmp_total nat_cmp-IsAntisymmetric nat_itself items n item m other)

pub size_cut_else : (items : ItemMap) (n m : ℕ) → (m ≡ n → ⊥) → size_at (remove items n) m ≡ size_at items m
size_cut_else items n m other = ap (option_map item_size) (remove_else nat_cmp nat_cmp_total nat_cmp-IsAntisymmetric nat_itself items n m other)
