-- A table of items follows the items of a cache, with an item put in or taken out.
use Rattle.std.proofs.Common.{◌≡◌, ℕ, ◌≤◌, Bool, true, false, List, [], ◌∷◌, Option, None, Some, cond, if◌then◌else◌, refl, sym, ◌∙◌, ap, arith}
use Rattle.std.specs.Prelude.{length, Result, Ok, Err, OnErr, OnOk, IsOk}
use Rattle.std.specs.Result.{is_err}
use Rattle.std.specs.declared.cmp.Ordering.{Ordering}
use Rattle.std.specs.declared.cmp.Ordering.TheVariants.{Less, Equal, Greater}
use Rattle.std.specs.Ordering.{is_eq, match_ordering}
use Rattle.std.specs.Cmp.Lexicographic.{nat_list_cmp_total}
use Rattle.std.proofs.lemmas.Cmp.{tied_itself}
use Rattle.std.specs.FinMap as map
use Rattle.std.specs.Map.{lookup, remove_entry}
use Rattle.std.specs.BTreeMap as tree
use Rattle.std.specs.BTreeMap.{btree_map_len}
use Rattle.flash_names.specs.declared.place.Label.{Label}
use Rattle.flash_machine.specs.Item.{Item}
use Rattle.flash_machine.specs.Cache.{Items}
use Rattle.flash_machine.specs.PageLabels.{is_label}
use Rattle.flash_machine.specs.Load.{total, item_load}
use Rattle.flash_machine.specs.Followed.{counted, one_if_labelled, labelled_count, label_of_found}
use Rattle.flash_machine.specs.declared.machine.item_table.ItemTable.{ItemTable}
use Rattle.flash_machine.proofs.Totals.{order, by_order, total_remove, none_removed, put_back, removed_there}
use Rattle.flash_machine.proofs.Counted.{counted_label}

-- what is found among entries is what a look-up of a table finds there
found_is : (q : List ℕ) (es : List (List ℕ × Item)) → map.find order q es ≡ lookup (tree.is_at (order q)) es
found_is q [] = refl
found_is q (e ∷ es) = ap (cond (is_eq (order q e.0)) (Some e.1)) (found_is q es)

-- an item by its key
pub got : (table : ItemTable) (items : Items) (q : List ℕ) → map.entries items ≡ table.items.entries → map.get items q ≡ tree.get order table.items q
got table items q same = map.get-entries items q ∙ ap (map.find order q) same ∙ found_is q table.items.entries

-- how many there are
pub counted_as : (table : ItemTable) (items : Items) → map.entries items ≡ table.items.entries → map.len items ≡ btree_map_len table.items
counted_as table items same = map.len-entries items ∙ ap (λ (es : List (List ℕ × Item)). length es) same

-- an item that is put among entries
put_is : (key : List ℕ) (item : Item) (es : List (List ℕ × Item)) → map.put order key item es ≡ tree.insert_entry order es key item
put_is key item [] = refl
put_is key item (e ∷ es) = by_case (order key e.0) (put_is key item es)
  where
    by_case : (r : Ordering) → map.put order key item es ≡ tree.insert_entry order es key item
        → by_order r ((key, item) ∷ e ∷ es) ((e.0, item) ∷ es) (e ∷ map.put order key item es)
        ≡ match_ordering r ((key, item) ∷ e ∷ es) ((e.0, item) ∷ es) (e ∷ tree.insert_entry order es key item)
    by_case Less rest = refl
    by_case Equal rest = refl
    by_case Greater rest = ap (λ (fs : List (List ℕ × Item)). e ∷ fs) rest

pub put_entries : (items : Items) (key : List ℕ) (item : Item) → map.entries (map.insert items key item) ≡ tree.insert_entry order (map.entries items) key item
put_entries items key item = map.entries-insert nat_list_cmp_total items key item ∙ put_is key item (map.entries items)

-- an item that is put among entries and taken out again
taken_put : (key : List ℕ) (item : Item) (es : List (List ℕ × Item)) → map.find order key es ≡ None
    → remove_entry (tree.is_at (order key)) (map.put order key item es) ≡ es
taken_put key item [] none = ap (λ r. cond (is_eq r) [] ((key, item) ∷ [])) (tied_itself nat_list_cmp_total key)
taken_put key item (e ∷ es) none = by_case (order key e.0) refl none (taken_put key item es)
  where
    by_case : (r : Ordering) → order key e.0 ≡ r → cond (is_eq r) (Some e.1) (map.find order key es) ≡ None
        → (map.find order key es ≡ None → remove_entry (tree.is_at (order key)) (map.put order key item es) ≡ es)
        → remove_entry (tree.is_at (order key)) (by_order r ((key, item) ∷ e ∷ es) ((e.0, item) ∷ es) (e ∷ map.put order key item es)) ≡ e ∷ es
    by_case Less is none rest = ap (λ t. cond (is_eq t) (e ∷ es) ((key, item) ∷ remove_entry (tree.is_at (order key)) (e ∷ es))) (tied_itself nat_list_cmp_total key)
    by_case Equal is none rest = absurd (cc none)
    by_case Greater is none rest =
        ap (λ t. cond (is_eq t) (map.put order key item es) (e ∷ remove_entry (tree.is_at (order key)) (map.put order key item es))) is
        ∙ ap (λ (fs : List (List ℕ × Item)). e ∷ fs) (rest none)

none_taken : (key : List ℕ) (es : List (List ℕ × Item)) → map.find order key es ≡ None → remove_entry (tree.is_at (order key)) es ≡ es
none_taken key [] none = refl
none_taken key (e ∷ es) none = by_case (is_eq (order key e.0)) none (none_taken key es)
  where
    by_case : (b : Bool) → cond b (Some e.1) (map.find order key es) ≡ None → (map.find order key es ≡ None → remove_entry (tree.is_at (order key)) es ≡ es)
        → cond b es (e ∷ remove_entry (tree.is_at (order key)) es) ≡ e ∷ es
    by_case true none rest = absurd (cc none)
    by_case false none rest = ap (λ (fs : List (List ℕ × Item)). e ∷ fs) (rest none)

pub taken_entries : (items : Items) (key : List ℕ) → map.entries (map.remove items key) ≡ remove_entry (tree.is_at (order key)) (map.entries items)
taken_entries items key = by_found (map.get items key) refl
  where
    by_found : (found : Option Item) → map.get items key ≡ found → map.entries (map.remove items key) ≡ remove_entry (tree.is_at (order key)) (map.entries items)
    by_found None there =
        ap (λ (m : Items). map.entries m) (none_removed items key there)
        ∙ sym (none_taken key (map.entries items) (sym (map.get-entries items key) ∙ there))
    by_found (Some item) there =
        let without = map.remove items key in
        sym (taken_put key item (map.entries without) (sym (map.get-entries without key) ∙ removed_there items key))
        ∙ ap (λ (es : List (List ℕ × Item)). remove_entry (tree.is_at (order key)) es)
        (sym (map.entries-insert nat_list_cmp_total without key item) ∙ ap (λ (m : Items). map.entries m) (put_back items key item there))

-- what a key counts is in the sum
pub counted_within : (count : List ℕ × Item → ℕ) (items : Items) (key : List ℕ) → counted count key (map.get items key) ≤ total count (map.entries items)
counted_within count items key = omega (arith, total_remove count items key)

abbrev pub load_count : List ℕ × Item → ℕ
load_count entry = item_load entry.0 entry.1

-- the label of the key's item counts it
pub label_counts : (items : Items) (key : List ℕ) (own : Label) → label_of_found (map.get items key) ≡ Some own → is_label own (Some own) ≡ true → 1 ≤ labelled_count own items
label_counts items key own is itself =
    let within = counted_within (one_if_labelled own) items key in
    let one = counted_label own key (map.get items key) ∙ ap (λ l. if is_label own l then 1 else 0) is ∙ ap (λ b. if b then 1 else 0) itself in
    omega (arith, within, one)

-- what holds holds where there is an error
pub on_err : {T E : Type 0} (r : Result T E) {P : Type 0} → P → OnErr r P
on_err (Ok x) p = tt
on_err (Err e) p = p

-- what holds of an Ok that there is
pub from_ok : {T E : Type 0} (r : Result T E) {P : Type 0} → OnOk r P → IsOk r → P
from_ok (Ok x) p is = p
from_ok (Err e) p is = absurd (cc is)

-- what holds of an Ok holds where there is no error
pub without_err : {T E : Type 0} (r : Result T E) {P : Type 0} → is_err r ≡ false → OnOk r P → P
without_err (Ok x) none p = p
without_err (Err e) none p = absurd (cc none)
