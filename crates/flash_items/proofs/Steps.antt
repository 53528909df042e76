-- The table, the entries and the lists stay joined over each call.
use Rattle.std.proofs.Common.{◌≡◌, ℕ, ◌≤◌, List, [], Option, Some, None, IsSome, ◌↔◌, get_or, length, refl, sym, ◌∙◌, ap, subst, inl, inr, arith}
use Rattle.std.specs.Ordering.{nat_cmp}
use Rattle.std.specs.Cmp.{nat_cmp_total}
use Rattle.std.specs.Cmp.Lexicographic.{slice_cmp, nat_list_cmp_total}
use Rattle.std.proofs.lemmas.Bool.{cases_eq}
use Rattle.std.specs.FinMap.{get, insert, remove, empty, get-empty, nat_cmp-IsAntisymmetric, slice_cmp-IsAntisymmetric}
use Rattle.slab.specs.Slab.{Slab}
use Rattle.slab.specs.Slab.{get as slot_at}
use Rattle.flash_names.specs.declared.place.ItemId.{ItemId}
use Rattle.flash_lru.specs.Lists.{SegmentLists, HasCard, cards_of, empty_lists}
use Rattle.flash_lru.specs.Moves.{removed}
use Rattle.flash_table.specs.Table.{TableState}
use Rattle.flash_items.specs.declared.item.Entry.{Entry}
use Rattle.flash_items.specs.ItemsState.{ItemMap, AreSized}
use Rattle.flash_items.specs.Joined.{item_of, items_in, IsNamed, IsJoined}
use Rattle.flash_items.proofs.Lookups.{cases_key, insert_here, insert_else, remove_here, remove_else, nat_itself, bytes_itself}
use Rattle.flash_items.proofs.Slots.{none_some, none_is_some, Sets, items_set, items_cut}
use Rattle.flash_items.proofs.ListSteps.{AllSized, cards_removed_same, cards_removed}

-- whose cards the lists have is the same
abbrev pub SameCards : SegmentLists → SegmentLists → Type 0
SameCards old new = (id : ItemId) → HasCard new id ↔ HasCard old id

pub some_of : {X : Type 0} (o : Option X) (x : X) → o ≡ Some x → IsSome o
some_of {X} o x e = subst (λ (z : Option X). IsSome z) (sym e) refl

pub one_value : {X : Type 0} (o : Option X) (x y : X) → o ≡ Some x → o ≡ Some y → x ≡ y
one_value {X} o x y ex ey = (let e : Some x ≡ Some y = sym ex ∙ ey in cc)

pub all_sized : (t : TableState) (entries : Slab Entry) (lists : SegmentLists) → IsJoined t entries lists → AllSized (items_in t.keys entries.slots) lists
all_sized t entries lists joined = record { hot = joined.hot; warm = joined.warm; cold = joined.cold }

-- other lists of the same items
pub joined_lists : (t : TableState) (entries : Slab Entry) (old new : SegmentLists) → IsJoined t entries old → SameCards old new → AllSized (items_in t.keys entries.slots) new → IsJoined t entries new
joined_lists t entries old new joined same sized = record {
  named = joined.named;
  kept = joined.kept;
  carded = λ id. (λ h. (joined.carded id).0 ((same id).0 h), λ s. (same id).1 ((joined.carded id).1 s));
  hot = sized.hot;
  warm = sized.warm;
  cold = sized.cold;
}

-- an entry's parts are changed
module _ (t : TableState) (entries now : Slab Entry) (old new : SegmentLists) (joined : IsJoined t entries old) (n : ℕ) (was entry : Entry) (at : slot_at entries n ≡ Some was) (sets : Sets entries.slots now.slots n (Some entry)) (name : entry.key ≡ was.key) (same : SameCards old new) where
  put_named : (m : ℕ) (e : Entry) → slot_at now m ≡ Some e → (key : List ℕ) × IsNamed t m e key
  put_named m e is = elim (cases_eq m n) [
    | inl here ↦
        (let this : entry ≡ e = one_value (slot_at now n) entry e sets.here (subst (λ k. slot_at now k ≡ Some e) here is) in
        let old_name = joined.named n was at in
        let named : IsNamed t n entry old_name.0 = record {
          name = ap (λ k. get t.keys k.number) name ∙ old_name.1.name;
          found = old_name.1.found;
          short = old_name.1.short;
        } in
        subst (λ k. (key : List ℕ) × IsNamed t k e key) (sym here) (old_name.0, subst (λ (x : Entry). IsNamed t n x old_name.0) this named))
    | inr other ↦ joined.named m e (sym (sets.else m other) ∙ is)
  ]

  put_kept : (key : List ℕ) (m : ℕ) → get t.map key ≡ Some m → (e : Entry) × (slot_at now m ≡ Some e) × (get t.keys e.key.number ≡ Some key)
  put_kept key m found = elim (cases_eq m n) [
    | inl here ↦
        (let had = joined.kept key m found in
        let this : was ≡ had.0 = one_value (slot_at entries n) was had.0 at (subst (λ k. slot_at entries k ≡ Some had.0) here had.1) in
        (entry, subst (λ k. slot_at now k ≡ Some entry) (sym here) sets.here, ap (λ k. get t.keys k.number) (name ∙ ap (λ (x : Entry). x.key) this) ∙ had.2))
    | inr other ↦ (let had = joined.kept key m found in (had.0, sets.else m other ∙ had.1, had.2))
  ]

  put_carded : (id : ItemId) → HasCard new id ↔ IsSome (slot_at now id.key)
  put_carded id = elim (cases_eq id.key n) [
    | inl here ↦
        (let some : IsSome (slot_at now id.key) = subst (λ k. IsSome (slot_at now k)) (sym here) (some_of (slot_at now n) entry sets.here) in
        let had : IsSome (slot_at entries id.key) = subst (λ k. IsSome (slot_at entries k)) (sym here) (some_of (slot_at entries n) was at) in
        (λ _. some, λ _. (same id).1 ((joined.carded id).1 had)))
    | inr other ↦ (
      λ h. subst (λ (o : Option Entry). IsSome o) (sym (sets.else id.key other)) ((joined.carded id).0 ((same id).0 h)),
      λ s. (same id).1 ((joined.carded id).1 (subst (λ (o : Option Entry). IsSome o) (sets.else id.key other) s)),
    )
  ]

  pub put_items : items_in t.keys now.slots ≡ insert (items_in t.keys entries.slots) n (item_of t.keys entry)
  put_items = items_set t.keys t.keys entries.slots now.slots n entry sets (λ m e other is. refl)

  pub joined_put : AllSized (insert (items_in t.keys entries.slots) n (item_of t.keys entry)) new → IsJoined t now new
  joined_put sized =
      let all : AllSized (items_in t.keys now.slots) new = subst (λ (i : ItemMap). AllSized i new) (sym put_items) sized in
      record { named = put_named; kept = put_kept; carded = put_carded; hot = all.hot; warm = all.warm; cold = all.cold }

-- an entry is added
module _ (t u : TableState) (entries now : Slab Entry) (old new : SegmentLists) (joined : IsJoined t entries old) (id : ItemId) (entry : Entry) (key : List ℕ) (vacant : slot_at entries id.key ≡ None) (sets : Sets entries.slots now.slots id.key (Some entry)) (free : get t.map key ≡ None) (fresh : get t.keys entry.key.number ≡ None) (map_is : u.map ≡ insert t.map key id.key) (keys_is : u.keys ≡ insert t.keys entry.key.number key) (short : length key ≤ 250) where
  found_here : get u.map key ≡ Some id.key
  found_here = ap (λ m. get m key) map_is ∙ insert_here (slice_cmp nat_cmp) nat_list_cmp_total (slice_cmp-IsAntisymmetric nat_cmp-IsAntisymmetric) bytes_itself t.map key id.key

  found_else : (q : List ℕ) → (q ≡ key → ⊥) → get u.map q ≡ get t.map q
  found_else q n = ap (λ m. get m q) map_is ∙ insert_else (slice_cmp nat_cmp) nat_list_cmp_total (slice_cmp-IsAntisymmetric nat_cmp-IsAntisymmetric) bytes_itself t.map key id.key q n

  name_here : get u.keys entry.key.number ≡ Some key
  name_here = ap (λ m. get m entry.key.number) keys_is ∙ insert_here nat_cmp nat_cmp_total nat_cmp-IsAntisymmetric nat_itself t.keys entry.key.number key

  name_else : (h : ℕ) (k : List ℕ) → get t.keys h ≡ Some k → get u.keys h ≡ get t.keys h
  name_else h k is =
      ap (λ m. get m h) keys_is
      ∙ insert_else nat_cmp nat_cmp_total nat_cmp-IsAntisymmetric nat_itself t.keys entry.key.number key h (λ e. none_some k (sym fresh ∙ ap (get t.keys) (sym e) ∙ is))

  add_named : (m : ℕ) (e : Entry) → slot_at now m ≡ Some e → (k : List ℕ) × IsNamed u m e k
  add_named m e is = elim (cases_eq m id.key) [
    | inl here ↦
        (let this : entry ≡ e = one_value (slot_at now id.key) entry e sets.here (subst (λ k. slot_at now k ≡ Some e) here is) in
        let named : IsNamed u id.key entry key = record { name = name_here; found = found_here; short = short } in
        subst (λ k. (q : List ℕ) × IsNamed u k e q) (sym here) (key, subst (λ (x : Entry). IsNamed u id.key x key) this named))
    | inr other ↦
        (let had = joined.named m e (sym (sets.else m other) ∙ is) in (
          had.0,
          record {
            name = name_else e.key.number had.0 had.1.name ∙ had.1.name;
            found = found_else had.0 (λ same. none_some m (sym free ∙ ap (get t.map) (sym same) ∙ had.1.found)) ∙ had.1.found;
            short = had.1.short;
          },
        ))
  ]

  add_kept : (q : List ℕ) (m : ℕ) → get u.map q ≡ Some m → (e : Entry) × (slot_at now m ≡ Some e) × (get u.keys e.key.number ≡ Some q)
  add_kept q m found = elim (cases_key (slice_cmp nat_cmp) (slice_cmp-IsAntisymmetric nat_cmp-IsAntisymmetric) bytes_itself q key) [
    | inl same ↦
        (let number : id.key ≡ m = one_value (get u.map key) id.key m found_here (subst (λ k. get u.map k ≡ Some m) same found) in
        (entry, subst (λ k. slot_at now k ≡ Some entry) number sets.here, name_here ∙ ap (λ k. Some k) (sym same)))
    | inr other ↦
        (let had = joined.kept q m (sym (found_else q other) ∙ found) in
        let apart : m ≡ id.key → ⊥ = λ e. none_some had.0 (sym vacant ∙ ap (slot_at entries) (sym e) ∙ had.1) in
        (had.0, sets.else m apart ∙ had.1, name_else had.0.key.number q had.2 ∙ had.2))
  ]

  pub add_items : items_in u.keys now.slots ≡ insert (items_in t.keys entries.slots) id.key (item_of u.keys entry)
  add_items = items_set t.keys u.keys entries.slots now.slots id.key entry sets (λ m e other is. (let had = joined.named m e is in name_else e.key.number had.0 had.1.name))

  pub joined_added : HasCard new id → ((other : ItemId) → (other.key ≡ id.key → ⊥) → HasCard new other ↔ HasCard old other) → AllSized (insert (items_in t.keys entries.slots) id.key (item_of u.keys entry)) new → IsJoined u now new
  joined_added card others sized =
      let all : AllSized (items_in u.keys now.slots) new = subst (λ (i : ItemMap). AllSized i new) (sym add_items) sized in
      record {
        named = add_named;
        kept = add_kept;
        carded = λ other. elim (cases_eq other.key id.key) [
          | inl here ↦ (
            λ _. subst (λ k. IsSome (slot_at now k)) (sym here) (some_of (slot_at now id.key) entry sets.here),
            λ _. subst (λ k. HasCard new (record { key = k })) (sym here) card,
          )
          | inr apart ↦ (
            λ h. subst (λ (o : Option Entry). IsSome o) (sym (sets.else other.key apart)) ((joined.carded other).0 ((others other apart).0 h)),
            λ s. (others other apart).1 ((joined.carded other).1 (subst (λ (o : Option Entry). IsSome o) (sets.else other.key apart) s)),
          )
        ];
        hot = all.hot;
        warm = all.warm;
        cold = all.cold;
      }

-- an entry is taken out
module _ (t u : TableState) (entries now : Slab Entry) (old : SegmentLists) (joined : IsJoined t entries old) (id : ItemId) (entry : Entry) (key : List ℕ) (at : slot_at entries id.key ≡ Some entry) (sets : Sets entries.slots now.slots id.key None) (name : get t.keys entry.key.number ≡ Some key) (map_is : u.map ≡ remove t.map key) (keys_is : u.keys ≡ remove t.keys entry.key.number) where
  pub found_there : get t.map key ≡ Some id.key
  found_there =
      let had = joined.named id.key entry at in
      let same : had.0 ≡ key = one_value (get t.keys entry.key.number) had.0 key had.1.name name in
      ap (get t.map) (sym same) ∙ had.1.found

  lost : get u.map key ≡ None
  lost = ap (λ m. get m key) map_is ∙ remove_here (slice_cmp nat_cmp) nat_list_cmp_total (slice_cmp-IsAntisymmetric nat_cmp-IsAntisymmetric) bytes_itself t.map key

  still_found : (q : List ℕ) → (q ≡ key → ⊥) → get u.map q ≡ get t.map q
  still_found q n = ap (λ m. get m q) map_is ∙ remove_else (slice_cmp nat_cmp) nat_list_cmp_total (slice_cmp-IsAntisymmetric nat_cmp-IsAntisymmetric) bytes_itself t.map key q n

  -- another entry's key is another one, and so is its name
  other_key_of : (m : ℕ) (q : List ℕ) → (m ≡ id.key → ⊥) → get t.map q ≡ Some m → q ≡ key → ⊥
  other_key_of m q apart found same = apart (one_value (get t.map q) m id.key found (ap (get t.map) same ∙ found_there))

  still_named : (h : ℕ) (q : List ℕ) → get t.keys h ≡ Some q → (q ≡ key → ⊥) → get u.keys h ≡ get t.keys h
  still_named h q is n =
      ap (λ m. get m h) keys_is
      ∙ remove_else nat_cmp nat_cmp_total nat_cmp-IsAntisymmetric nat_itself t.keys entry.key.number h
      (λ e. n (one_value (get t.keys h) q key is (ap (get t.keys) e ∙ name)))

  cut_named : (m : ℕ) (e : Entry) → slot_at now m ≡ Some e → (k : List ℕ) × IsNamed u m e k
  cut_named m e is = elim (cases_eq m id.key) [
    | inl here ↦ absurd (none_some e (sym sets.here ∙ subst (λ k. slot_at now k ≡ Some e) here is))
    | inr apart ↦
        (let had = joined.named m e (sym (sets.else m apart) ∙ is) in
        let other : had.0 ≡ key → ⊥ = other_key_of m had.0 apart had.1.found in (
          had.0,
          record {
            name = still_named e.key.number had.0 had.1.name other ∙ had.1.name;
            found = still_found had.0 other ∙ had.1.found;
            short = had.1.short;
          },
        ))
  ]

  cut_kept : (q : List ℕ) (m : ℕ) → get u.map q ≡ Some m → (e : Entry) × (slot_at now m ≡ Some e) × (get u.keys e.key.number ≡ Some q)
  cut_kept q m found = elim (cases_key (slice_cmp nat_cmp) (slice_cmp-IsAntisymmetric nat_cmp-IsAntisymmetric) bytes_itself q key) [
    | inl same ↦ absurd (none_some m (sym lost ∙ ap (get u.map) (sym same) ∙ found))
    | inr other ↦
        (let had = joined.kept q m (sym (still_found q other) ∙ found) in
        let apart : m ≡ id.key → ⊥ = λ e.
        (let this : had.0 ≡ entry = one_value (slot_at entries m) had.0 entry had.1 (ap (slot_at entries) e ∙ at) in
        other (one_value (get t.keys had.0.key.number) q key had.2 (ap (λ (x : Entry). get t.keys x.key.number) this ∙ name))) in
        (had.0, sets.else m apart ∙ had.1, still_named had.0.key.number q had.2 other ∙ had.2))
  ]

  pub cut_items : items_in u.keys now.slots ≡ remove (items_in t.keys entries.slots) id.key
  cut_items = items_cut t.keys u.keys entries.slots now.slots id.key sets
      (λ m e apart is. (let had = joined.named m e is in still_named e.key.number had.0 had.1.name (other_key_of m had.0 apart had.1.found)))

  pub joined_cut : AllSized (remove (items_in t.keys entries.slots) id.key) (removed id old) → IsJoined u now (removed id old)
  joined_cut sized =
      let all : AllSized (items_in u.keys now.slots) (removed id old) = subst (λ (i : ItemMap). AllSized i (removed id old)) (sym cut_items) sized in
      record {
        named = cut_named;
        kept = cut_kept;
        carded = λ other. elim (cases_eq other.key id.key) [
          | inl here ↦
              (let none : cards_of other (removed id old) ≡ 0 = subst (λ k. cards_of (record { key = k }) (removed id old) ≡ 0) (sym here) (cards_removed_same id old) in
              (λ h. absurd (omega (arith, none)), λ s. absurd (none_is_some (subst (λ (o : Option Entry). IsSome o) (ap (slot_at now) here ∙ sets.here) s))))
          | inr apart ↦
              (let same : cards_of other (removed id old) ≡ cards_of other old = cards_removed id other old apart in (
                λ h. subst (λ (o : Option Entry). IsSome o) (sym (sets.else other.key apart)) ((joined.carded other).0 (omega (arith, same))),
                λ s. omega (arith, same, (joined.carded other).1 (subst (λ (o : Option Entry). IsSome o) (sets.else other.key apart) s)),
              ))
        ];
        hot = all.hot;
        warm = all.warm;
        cold = all.cold;
      }

-- no entries and no cards are joined with a table of no keys
pub joined_empty : (t : TableState) (entries : Slab Entry) (lists : SegmentLists) (memory : ℕ) → t.map ≡ empty → entries.slots ≡ [] → lists ≡ empty_lists memory → IsJoined t entries lists
joined_empty t entries lists memory map_is slots_are lists_are =
    let none_at : (n : ℕ) → slot_at entries n ≡ None = λ n. ap (λ (s : List (Option Entry)). get_or s n None) slots_are in
    record {
      named = λ n e is. absurd (none_some e (sym (none_at n) ∙ is));
      kept = λ key n is. absurd (none_some n (sym (ap (λ m. get m key) map_is ∙ get-empty (slice_cmp nat_cmp) key) ∙ is));
      carded = λ id. (
        λ h. absurd (omega (arith, ap (cards_of id) lists_are, h)),
        λ s. absurd (none_is_some (subst (λ (o : Option Entry). IsSome o) (none_at id.key) s)),
      );
      hot = subst (λ (l : SegmentLists). AreSized (items_in t.keys entries.slots) l.hot) (sym lists_are) tt;
      warm = subst (λ (l : SegmentLists). AreSized (items_in t.keys entries.slots) l.warm) (sym lists_are) tt;
      cold = subst (λ (l : SegmentLists). AreSized (items_in t.keys entries.slots) l.cold) (sym lists_are) tt;
    }
