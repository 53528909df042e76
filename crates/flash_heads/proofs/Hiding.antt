-- Hidden items, key by key and in their order.
use Rattle.std.proofs.Common.{◌≡◌, ℕ, Bool, true, false, T, ◌&&◌, cond, List, [], ◌∷◌, map, Option, None, Some, refl, sym, ◌∙◌, ap, subst}
use Rattle.std.specs.Prelude.{length, replicate}
use Rattle.std.specs.Option.{option_map}
use Rattle.std.specs.Ordering.{eq_by_cmp, is_lt}
use Rattle.std.specs.Cmp.Lexicographic.{nat_list_cmp_total}
use Rattle.std.specs.FinMap as finite
use Rattle.std.proofs.lemmas.List.{length-replicate}
use Rattle.flash_names.specs.declared.place.Label.{Label}
use Rattle.flash_machine.specs.Item.{Item}
use Rattle.flash_machine.specs.Cache.{Items}
use Rattle.flash_machine.proofs.Totals.{order}
use Rattle.flash_heads.specs.Heads.{hidden_value, hidden, hidden_items}

-- a value keeps its length, and is hidden once
pub value_length : (label : Option Label) (value : List ℕ) → length (hidden_value label value) ≡ length value
value_length None value = refl
value_length (Some label) value = length-replicate {A = ℕ} (length value) 0

value_once : (label : Option Label) (value : List ℕ) → hidden_value label (hidden_value label value) ≡ hidden_value label value
value_once None value = refl
value_once (Some label) value = ap (λ (n : ℕ). replicate n 0) (length-replicate {A = ℕ} (length value) 0)

pub once : (item : Item) → hidden (hidden item) ≡ hidden item
once item = ap (λ (value : List ℕ). record item { value = value }) (value_once item.label item.value)

-- an item in memory is known
pub here_is : (item : Item) → item.label ≡ None → hidden item ≡ item
here_is item here = ap (λ (label : Option Label). record item { value = hidden_value label item.value }) here

-- an entry with its item hidden
abbrev pub head : List ℕ × Item → List ℕ × Item
head e = (e.0, hidden e.1)

abbrev pub Entries : Type 0
Entries = List (List ℕ × Item)

-- whether a key is below all keys of a list
abbrev below_all : List ℕ → Entries → Bool
below_all key [] = true
below_all key (e ∷ es) = is_lt (order key e.0) && below_all key es

below_hidden : (key : List ℕ) (es : Entries) → below_all key (map head es) ≡ below_all key es
below_hidden key [] = refl
below_hidden key (e ∷ es) = ap (λ b. is_lt (order key e.0) && b) (below_hidden key es)

-- the keys rise as they did
sorted_hidden : (es : Entries) → finite.is_sorted order (map head es) ≡ finite.is_sorted order es
sorted_hidden [] = refl
sorted_hidden (e ∷ es) =
    ap (λ b. b && finite.is_sorted order (map head es)) (below_hidden e.0 es)
    ∙ ap (λ b. below_all e.0 es && b) (sorted_hidden es)

rising : (items : Items) → T (finite.is_sorted order (map head (finite.entries items)))
rising items = subst T (sym (sorted_hidden (finite.entries items))) (finite.entries_sorted items)

pub entries_hidden : (items : Items) → finite.entries (hidden_items items) ≡ map head (finite.entries items)
unfolding hidden_items
entries_hidden items = finite.entries-from_sorted order (map head (finite.entries items)) (rising items)

found_step : (b : Bool) (e : List ℕ × Item) (found known : Option Item) → known ≡ option_map hidden found → cond b (Some (hidden e.1)) known ≡ option_map hidden (cond b (Some e.1) found)
found_step true e found known is = refl
found_step false e found known is = is

find_hidden : (key : List ℕ) (es : Entries) → finite.find order key (map head es) ≡ option_map hidden (finite.find order key es)
find_hidden key [] = refl
find_hidden key (e ∷ es) =
    found_step (eq_by_cmp order key e.0) e (finite.find order key es) (finite.find order key (map head es)) (find_hidden key es)

pub get_hidden : (items : Items) (key : List ℕ) → finite.get (hidden_items items) key ≡ option_map hidden (finite.get items key)
get_hidden items key =
    finite.get-entries (hidden_items items) key
    ∙ ap (λ (es : Entries). finite.find order key es) (entries_hidden items)
    ∙ find_hidden key (finite.entries items)
    ∙ ap (option_map hidden) (sym (finite.get-entries items key))

-- items are the same where each key has the same
pub same_items : (one other : Items) → ((key : List ℕ) → finite.get one key ≡ finite.get other key) → one ≡ other
same_items one other alike =
    finite.same_map nat_list_cmp_total (finite.slice_cmp-IsAntisymmetric finite.nat_cmp-IsAntisymmetric) one other alike

put_step : (b : Bool) (item : Item) (found : Option Item) → option_map hidden (cond b (Some item) found) ≡ cond b (Some (hidden item)) (option_map hidden found)
put_step true item found = refl
put_step false item found = refl

pub put_hidden : (items : Items) (key : List ℕ) (item : Item) → hidden_items (finite.insert items key item) ≡ finite.insert (hidden_items items) key (hidden item)
put_hidden items key item = same_items (hidden_items (finite.insert items key item)) (finite.insert (hidden_items items) key (hidden item)) (λ q.
    get_hidden (finite.insert items key item) q
    ∙ ap (option_map hidden) (finite.get-insert nat_list_cmp_total items key item q)
    ∙ put_step (eq_by_cmp order q key) item (finite.get items q)
    ∙ ap (cond (eq_by_cmp order q key) (Some (hidden item))) (sym (get_hidden items q))
    ∙ sym (finite.get-insert nat_list_cmp_total (hidden_items items) key (hidden item) q))

cut_step : (b : Bool) (found : Option Item) → option_map hidden (cond b None found) ≡ cond b None (option_map hidden found)
cut_step true found = refl
cut_step false found = refl

pub cut_hidden : (items : Items) (key : List ℕ) → hidden_items (finite.remove items key) ≡ finite.remove (hidden_items items) key
cut_hidden items key = same_items (hidden_items (finite.remove items key)) (finite.remove (hidden_items items) key) (λ q.
    get_hidden (finite.remove items key) q
    ∙ ap (option_map hidden) (finite.get-remove nat_list_cmp_total items key q)
    ∙ cut_step (eq_by_cmp order q key) (finite.get items q)
    ∙ ap (cond (eq_by_cmp order q key) None) (sym (get_hidden items q))
    ∙ sym (finite.get-remove nat_list_cmp_total (hidden_items items) key q))

once_at : (found : Option Item) → option_map hidden (option_map hidden found) ≡ option_map hidden found
once_at None = refl
once_at (Some item) = ap (λ (i : Item). Some i) (once item)

pub items_once : (items : Items) → hidden_items (hidden_items items) ≡ hidden_items items
items_once items = same_items (hidden_items (hidden_items items)) (hidden_items items) (λ q.
    get_hidden (hidden_items items) q ∙ ap (option_map hidden) (get_hidden items q) ∙ once_at (finite.get items q) ∙ sym (get_hidden items q))
