-- A cache's items with one put in or taken out, by what is found under each key.
use Rattle.std.proofs.Common.{◌≡◌, ◌⊎◌, ℕ, Bool, true, false, List, Option, None, Some, cond, inl, inr, refl, sym, ◌∙◌, ap}
use Rattle.std.specs.Cmp.Lexicographic.{nat_list_cmp_total}
use Rattle.std.specs.FinMap as finite
use Rattle.std.specs.Str.{bytes_eq}
use Rattle.flash_machine.specs.Item.{Item}
use Rattle.flash_machine.specs.Cache.{Items}
use Rattle.flash_index.proofs.Lookups.{same_key, tied, same_by_keys}

pub get-inserted : (m : Items) (k : List ℕ) (v : Item) (q : List ℕ) → finite.get (finite.insert m k v) q ≡ cond (bytes_eq q k) (Some v) (finite.get m q)
get-inserted m k v q = finite.get-insert nat_list_cmp_total m k v q ∙ ap (λ b. cond b (Some v) (finite.get m q)) (tied q k)

pub get-removed : (m : Items) (k q : List ℕ) → finite.get (finite.remove m k) q ≡ cond (bytes_eq q k) None (finite.get m q)
get-removed m k q = finite.get-remove nat_list_cmp_total m k q ∙ ap (λ b. cond b None (finite.get m q)) (tied q k)

-- what is under a key after a removal was there before
kept_by : (b : Bool) (found : Option Item) (item : Item) → cond b None found ≡ Some item → found ≡ Some item
kept_by true found item is = absurd (cc is)
kept_by false found item is = is

pub was_there : (m : Items) (k q : List ℕ) (item : Item) → finite.get (finite.remove m k) q ≡ Some item → finite.get m q ≡ Some item
was_there m k q item is = kept_by (bytes_eq q k) (finite.get m q) item (sym (get-removed m k q) ∙ is)

-- what is under a key after an insertion is the new item under its key, or was there before
abbrev pub IsNewOrOld : Items → List ℕ → Item → List ℕ → Item → Type 0
IsNewOrOld m k v q item = ((q ≡ k) × (item ≡ v)) ⊎ (finite.get m q ≡ Some item)

new_or_old : (m : Items) (k : List ℕ) (v : Item) (q : List ℕ) (item : Item) (b : Bool) → bytes_eq q k ≡ b → cond b (Some v) (finite.get m q) ≡ Some item → IsNewOrOld m k v q item
new_or_old m k v q item true same is = inl (same_key q k same, sym (cc is))
new_or_old m k v q item false other is = inr is

pub is_new_or_old : (m : Items) (k : List ℕ) (v : Item) (q : List ℕ) (item : Item) → finite.get (finite.insert m k v) q ≡ Some item → IsNewOrOld m k v q item
is_new_or_old m k v q item is = new_or_old m k v q item (bytes_eq q k) refl (sym (get-inserted m k v q) ∙ is)

-- an item that is put in after the key's was taken out
twice : (b : Bool) (v : Item) (found : Option Item) → cond b (Some v) (cond b None found) ≡ cond b (Some v) found
twice true v found = refl
twice false v found = refl

pub insert-removed : (m : Items) (k : List ℕ) (v : Item) → finite.insert (finite.remove m k) k v ≡ finite.insert m k v
insert-removed m k v = same_by_keys (finite.insert (finite.remove m k) k v) (finite.insert m k v) (λ q.
    get-inserted (finite.remove m k) k v q ∙ ap (cond (bytes_eq q k) (Some v)) (get-removed m k q)
    ∙ twice (bytes_eq q k) v (finite.get m q) ∙ sym (get-inserted m k v q))
