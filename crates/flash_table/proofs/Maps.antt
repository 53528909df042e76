-- What the maps of a table answer.
use Rattle.std.proofs.Common.{◌≡◌, ℕ, true, false, cond, List, None, refl, sym, ap, ◌∙◌}
use Rattle.std.specs.Ordering.{nat_cmp, eq_by_cmp}
use Rattle.std.specs.Cmp.{nat_cmp_total}
use Rattle.std.specs.Cmp.Lexicographic.{slice_cmp, nat_list_cmp_total}
use Rattle.std.specs.FinMap as finite
use Rattle.std.specs.FinMap.{nat_cmp-IsAntisymmetric, slice_cmp-IsAntisymmetric, IsAntisymmetric}
use Rattle.flash_keys.specs.Classes.{Classes}
use Rattle.flash_table.specs.declared.entry.Entry.{Entry}
use Rattle.flash_table.specs.Held.{key_and_item, id_and_key}
use Rattle.flash_table.specs.Maps.{Items, items_in, keys_in}
use Rattle.flash_table.specs.Pairs.{pairs}
use Rattle.flash_table.proofs.Look.{look, find_pairs, equal_is}

pub bytes_same : IsAntisymmetric (slice_cmp nat_cmp)
bytes_same = slice_cmp-IsAntisymmetric nat_cmp-IsAntisymmetric

pub get_items : (store : Classes) (es : List Entry) (q : List ℕ) → finite.get (items_in store es) q ≡ look nat_list_cmp_total bytes_same (key_and_item store) es q
unfolding items_in
get_items store es q = finite.get-from_entries nat_list_cmp_total (pairs (key_and_item store) es) q ∙ find_pairs nat_list_cmp_total bytes_same (key_and_item store) es q

pub get_keys : (store : Classes) (es : List Entry) (q : ℕ) → finite.get (keys_in store es) q ≡ look nat_cmp_total nat_cmp-IsAntisymmetric (id_and_key store) es q
unfolding keys_in
get_keys store es q = finite.get-from_entries nat_cmp_total (pairs (id_and_key store) es) q ∙ find_pairs nat_cmp_total nat_cmp-IsAntisymmetric (id_and_key store) es q

-- to remove a key that isn't there changes nothing
pub remove_absent : (m : Items) (key : List ℕ) → finite.get m key ≡ None → m ≡ finite.remove m key
remove_absent m key none =
    finite.same_map nat_list_cmp_total bytes_same m (finite.remove m key)
    (λ q. sym (finite.get-remove nat_list_cmp_total m key q
    ∙ elim (eq_by_cmp (slice_cmp nat_cmp) q key) as (λ b. eq_by_cmp (slice_cmp nat_cmp) q key ≡ b → cond b None (finite.get m q) ≡ finite.get m q) [
      | true ↦ λ is. sym (ap (finite.get m) (equal_is nat_list_cmp_total bytes_same q key is) ∙ none)
      | false ↦ λ is. refl
    ] refl))
