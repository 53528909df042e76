-- The items of the entries of slots.
use Rattle.std.proofs.Common.{◌≡◌, ℕ, zero, suc, ◌+◌, ◌<◌, true, false, cond, List, [], ◌∷◌, Option, Some, None, option_map, is_some, count_by, get_or, refl, ◌∙◌, ap, arith}
use Rattle.std.specs.Ordering.{nat_cmp, eq_by_cmp}
use Rattle.std.proofs.lemmas.Bool.Decides.{nat_tests}
use Rattle.std.specs.Cmp.{nat_cmp_total}
use Rattle.std.specs.FinMap.{get, find, insert, len, contains_key, len-empty, len-insert, from_entries, get-from_entries, same_map, nat_cmp-IsAntisymmetric}
use Rattle.std.proofs.lemmas.List.Sums.{sum_by-cons}
use Rattle.flash_table.specs.Maps.{Keys}
use Rattle.flash_items.specs.declared.item.Item.{Item}
use Rattle.flash_items.specs.declared.item.Entry.{Entry}
use Rattle.flash_items.specs.ItemsState.{ItemMap}
use Rattle.flash_items.specs.Joined.{item_of, items_from, items_in}

pub same_number : (q k : ℕ) → q ≡ k → eq_by_cmp nat_cmp q k ≡ true
same_number q k e = grind (arith, nat_tests)

pub other_number : (q k : ℕ) → (q ≡ k → ⊥) → eq_by_cmp nat_cmp q k ≡ false
other_number q k n = grind (arith, nat_tests)

find_below : (keys : Keys) (k q : ℕ) (slots : List (Option Entry)) → q < k → find nat_cmp q (items_from keys k slots) ≡ None
find_below keys k q [] low = refl
find_below keys k q (None ∷ slots) low = find_below keys (k + 1) q slots (omega arith)
find_below keys k q (Some entry ∷ slots) low =
    ap (λ b. cond b (Some (item_of keys entry)) (find nat_cmp q (items_from keys (k + 1) slots))) (other_number q k (λ e. omega arith))
    ∙ find_below keys (k + 1) q slots (omega arith)

find_from : (keys : Keys) (k d : ℕ) (slots : List (Option Entry)) → find nat_cmp (k + d) (items_from keys k slots) ≡ option_map (item_of keys) (get_or slots d None)
find_from keys k d [] = refl
find_from keys k zero (None ∷ slots) = find_below keys (k + 1) (k + zero) slots (omega arith)
find_from keys k zero (Some entry ∷ slots) =
    ap (λ b. cond b (Some (item_of keys entry)) (find nat_cmp (k + zero) (items_from keys (k + 1) slots))) (same_number (k + zero) k (omega arith))
find_from keys k (suc d) (None ∷ slots) =
    let at : k + suc d ≡ k + 1 + d = omega arith in
    ap (λ q. find nat_cmp q (items_from keys (k + 1) slots)) at ∙ find_from keys (k + 1) d slots
find_from keys k (suc d) (Some entry ∷ slots) =
    let at : k + suc d ≡ k + 1 + d = omega arith in
    ap (λ b. cond b (Some (item_of keys entry)) (find nat_cmp (k + suc d) (items_from keys (k + 1) slots))) (other_number (k + suc d) k (λ e. omega arith))
    ∙ ap (λ q. find nat_cmp q (items_from keys (k + 1) slots)) at ∙ find_from keys (k + 1) d slots

-- the item of a number is its slot's
pub get_items : (keys : Keys) (slots : List (Option Entry)) (n : ℕ) → get (items_in keys slots) n ≡ option_map (item_of keys) (get_or slots n None)
get_items keys slots n =
    let at : n ≡ 0 + n = omega arith in
    get-from_entries nat_cmp_total (items_from keys 0 slots) n
    ∙ ap (λ q. find nat_cmp q (items_from keys 0 slots)) at ∙ find_from keys 0 n slots

-- two maps of items that answer alike are one
pub same_items : (a b : ItemMap) → ((n : ℕ) → get a n ≡ get b n) → a ≡ b
same_items a b alike = same_map nat_cmp_total nat_cmp-IsAntisymmetric a b alike

len_from : (keys : Keys) (k : ℕ) (slots : List (Option Entry)) → len (from_entries {R = nat_cmp} (items_from keys k slots)) ≡ count_by is_some slots
len_from keys k [] = len-empty nat_cmp Item
len_from keys k (None ∷ slots) =
    let zero : ℕ = 0 in
    let one : ℕ = 1 in
    omega (arith, len_from keys (k + 1) slots, sum_by-cons (λ (o : Option Entry). cond (is_some o) one zero) None slots)
len_from keys k (Some entry ∷ slots) =
    let zero : ℕ = 0 in
    let one : ℕ = 1 in
    let absent : contains_key (from_entries {R = nat_cmp} (items_from keys (k + 1) slots)) k ≡ false =
    ap (λ (o : Option Item). is_some o) (get-from_entries nat_cmp_total (items_from keys (k + 1) slots) k ∙ find_below keys (k + 1) k slots (omega arith)) in
    let longer : len (insert (from_entries {R = nat_cmp} (items_from keys (k + 1) slots)) k (item_of keys entry)) ≡ len (from_entries {R = nat_cmp} (items_from keys (k + 1) slots)) + 1 =
    len-insert nat_cmp_total (from_entries (items_from keys (k + 1) slots)) k (item_of keys entry)
    ∙ ap (λ b. cond b (len (from_entries {R = nat_cmp} (items_from keys (k + 1) slots))) (len (from_entries {R = nat_cmp} (items_from keys (k + 1) slots)) + 1)) absent in
    omega (arith, longer, len_from keys (k + 1) slots, sum_by-cons (λ (o : Option Entry). cond (is_some o) one zero) (Some entry) slots)

-- there are as many items as slots that are filled
pub len_items : (keys : Keys) (slots : List (Option Entry)) → len (items_in keys slots) ≡ count_by is_some slots
len_items keys slots = len_from keys 0 slots
