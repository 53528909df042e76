-- The lookups of a run: which steps have one, and when.
use Rattle.std.proofs.Common.{◌≡◌, ◌⊎◌, ℕ, Bool, true, false, cond, ◌||◌, ◌&&◌, List, [], ◌∷◌, ◌++◌, Option, None, Some, inl, inr, refl, sym, ◌∙◌, ap, subst, arith, append_assoc}
use Rattle.std.specs.Prelude.{nat_eq, nat_lt}
use Rattle.std.specs.Option.{option_map}
use Rattle.std.specs.List.{list_any}
use Rattle.std.proofs.lemmas.Bool.{false≢true, and_parts, or_left, or_right, or_cases, not-true, eqb-true, false_from_ne_true}
use Rattle.std.proofs.lemmas.Bool.Decides.{nat_tests}
use Rattle.flash_names.specs.declared.place.Id.{Id}
use Rattle.flash_names.specs.declared.place.Label.{Label}
use Rattle.flash_names.specs.declared.place.Place.{Place}
use Rattle.flash_names.specs.declared.geometry.Geometry.{Geometry}
use Rattle.flash_entry.specs.declared.found.Cause.TheVariants as causes
use Rattle.flash_entry.specs.declared.entry.Close.{Close}
use Rattle.flash_entry.specs.declared.entry.Close.TheVariants as closes
use Rattle.flash_entry.specs.declared.entry.Residence.{Residence}
use Rattle.flash_entry.specs.declared.entry.Residence.TheVariants as residence
use Rattle.flash_entry.specs.declared.entry.Entry.{Entry}
use Rattle.flash_entry.specs.declared.entry.Entry.TheVariants as entries
use Rattle.flash_machine.specs.Item.{Item}
use Rattle.flash_machine.specs.Live.{live_item}
use Rattle.flash_machine.specs.Steps.{cache_of}
use Rattle.flash_machine.specs.NewSteps.{step_id, is_as_late, is_new_step}
use Rattle.flash_machine.specs.Lookups.{same_id, Lookup, opened_by, lookup_step, open_lookup, is_from_buffer, was_from_buffer}
use Rattle.flash_machine.specs.DeviceReads.{DeviceRead, with_outcome, read_step, read_of}
use Rattle.flash_machine.specs.Rules.{is_lookup_of, may_be_read, is_open_and}
use Rattle.flash_machine.specs.Legal.{Meets, LegalFrom, Legal}
use Rattle.flash_machine.specs.LookupLaws.{HasNoLookup}
use Rattle.flash_machine.specs.Splits.{journal_of_two}
use Rattle.flash_machine.proofs.Runs.{Legal-split, LegalFrom-keeps}
use Rattle.flash_machine.proofs.Same.{id_itself, equal_ids}
use Rattle.flash_machine.proofs.Onward.{each_journal}
use Rattle.flash_machine.proofs.EntrySteps.{read_off-one, list_any-one, open_lookup-append}

-- whether the journal records this step, or a later one of its pass
abbrev pub has_step : Id → List Entry → Bool
has_step id h = list_any (λ e. is_as_late id (step_id e)) h

pub new_has_no_step : (h : List Entry) (id : Id) → is_new_step h id ≡ true → has_step id h ≡ false
new_has_no_step h id new = not-true (has_step id h) (and_parts (nat_lt 0 id.pass) _ new).1

still_has_step : (id : Id) (h : List Entry) (e : Entry) → has_step id h ≡ true → has_step id (h ++ e ∷ []) ≡ true
still_has_step id h e has = list_any-one (λ x. is_as_late id (step_id x)) h e ∙ or_left (has_step id h) _ has

late_itself : (id : Id) → is_as_late id (Some id) ≡ true
late_itself id = grind (arith, nat_tests)

looked_has_step : (id other : Id) (h : List Entry) (e : Entry) → step_id e ≡ Some other → same_id other id ≡ true → has_step id (h ++ e ∷ []) ≡ true
looked_has_step id other h e is same =
    let late : is_as_late id (step_id e) ≡ true = ap (is_as_late id) (is ∙ ap (λ (i : Id). Some i) (equal_ids other id same)) ∙ late_itself id in
    list_any-one (λ x. is_as_late id (step_id x)) h e ∙ or_right (has_step id h) _ late

-- what a lookup makes of the open one, where it is of another step or wants no value
not_opened : (key : List ℕ) (live : Option Item) (found : Residence) (was : Option Lookup) → opened_by false key live found was ≡ was
not_opened key live residence.Nothing was = refl
not_opened key live (residence.Here cas) was = refl
not_opened key live (residence.Away cas label) was = refl

other_not_opened : (opens value : Bool) (key : List ℕ) (live : Option Item) (found : Residence) (was : Option Lookup) → opens ≡ false → opened_by (opens && value) key live found was ≡ was
other_not_opened opens value key live found was other =
    ap (λ (b : Bool). opened_by (b && value) key live found was) other ∙ not_opened key live found was

module _ (g : Geometry) (id : Id) where
  -- an open lookup is of a step that the journal records
  abbrev pub IsRecorded : List Entry → Option Lookup → Type 0
  IsRecorded h found = (lookup : Lookup) → found ≡ Some lookup → has_step id h ≡ true

  looked_recorded : (h : List Entry) (e : Entry) (other : Id) (value b : Bool) (key : List ℕ) (live : Option Item) (found : Residence) (was : Option Lookup)
      → step_id e ≡ Some other → same_id other id ≡ b → IsRecorded h was → IsRecorded (h ++ e ∷ []) (opened_by (same_id other id && value) key live found was)
  looked_recorded h e other value true key live found was is same recorded lookup some = looked_has_step id other h e is same
  looked_recorded h e other value false key live found was is same recorded lookup some =
      still_has_step id h e (recorded lookup (sym (other_not_opened (same_id other id) value key live found was same) ∙ some))

  closed_recorded : (h : List Entry) (e : Entry) (b : Bool) (was : Option Lookup) → IsRecorded h was → IsRecorded (h ++ e ∷ []) (cond b None was)
  closed_recorded h e true was recorded lookup some = absurd (cc some)
  closed_recorded h e false was recorded lookup some = still_has_step id h e (recorded lookup some)

  step_recorded : (h : List Entry) (e : Entry) (was : Option Lookup) → IsRecorded h was → IsRecorded (h ++ e ∷ []) (lookup_step id h (cache_of g h) was e)
  step_recorded h (entries.Looked other key look found) was recorded =
      looked_recorded h (entries.Looked other key look found) other look.value (same_id other id) key (live_item h (cache_of g h) key) found was refl refl recorded
  step_recorded h (entries.Closed other close) was recorded = closed_recorded h (entries.Closed other close) (same_id other id) was recorded
  step_recorded h e was recorded = λ lookup some. still_has_step id h e (recorded lookup some)

  pub is_recorded : (h : List Entry) → IsRecorded h (open_lookup g id h)
  is_recorded h = each_journal (λ (j : List Entry). IsRecorded j (open_lookup g id j))
      (λ j e was. subst (IsRecorded (j ++ e ∷ [])) (sym (open_lookup-append g id j (e ∷ []))) (step_recorded j e (open_lookup g id j) was)) [] h (λ lookup none. absurd (cc none))

  -- a step that was recorded and has no open lookup has none from then on
  record IsClosed (h : List Entry) : Type 0 where
    recorded : has_step id h ≡ true
    lookup : open_lookup g id h ≡ None

  new_other : (h : List Entry) (other : Id) (b : Bool) → same_id other id ≡ b → has_step id h ≡ true → is_new_step h other ≡ true → same_id other id ≡ false
  new_other h other false same has new = same
  new_other h other true same has new =
      absurd (false≢true (sym (new_has_no_step h other new) ∙ ap (λ (i : Id). has_step i h) (equal_ids other id same) ∙ has))

  still_none : (b : Bool) (was : Option Lookup) → was ≡ None → cond b None was ≡ None
  still_none true was none = refl
  still_none false was none = none

  closed_step : (h : List Entry) (e : Entry) → Meets g h (cache_of g h) e → IsClosed h → lookup_step id h (cache_of g h) (open_lookup g id h) e ≡ None
  closed_step h (entries.Looked other key look found) meets closed =
      other_not_opened (same_id other id) look.value key (live_item h (cache_of g h) key) found (open_lookup g id h) (new_other h other (same_id other id) refl closed.recorded meets.0) ∙ closed.lookup
  closed_step h (entries.Closed other close) meets closed = still_none (same_id other id) (open_lookup g id h) closed.lookup
  closed_step h _ meets closed = closed.lookup

  closed_one : (h : List Entry) (e : Entry) → Meets g h (cache_of g h) e → IsClosed h → IsClosed (h ++ e ∷ [])
  closed_one h e meets closed = record {
    recorded = still_has_step id h e closed.recorded;
    lookup = open_lookup-append g id h (e ∷ []) ∙ closed_step h e meets closed;
  }

  pub stays_closed : (h es : List Entry) → LegalFrom g h (cache_of g h) es → has_step id h ≡ true → open_lookup g id h ≡ None → open_lookup g id (h ++ es) ≡ None
  stays_closed h es legal has none = (LegalFrom-keeps g IsClosed closed_one h es legal (record { recorded = has; lookup = none })).lookup

  -- what is closed is open
  open_by : (test : Lookup → Bool) (found : Option Lookup) → is_open_and test found ≡ true → (lookup : Lookup) × (found ≡ Some lookup)
  open_by test None is = absurd (false≢true is)
  open_by test (Some lookup) is = (lookup, refl)

  pub closed_is_open : (h : List Entry) (close : Close) → Meets g h (cache_of g h) (entries.Closed id close) → (lookup : Lookup) × (open_lookup g id h ≡ Some lookup)
  closed_is_open h (closes.Hit flags cas value) meets = open_by _ (open_lookup g id h) meets.0
  closed_is_open h (closes.Lost causes.Ended) meets = open_by _ (open_lookup g id h) meets.0
  closed_is_open h (closes.Lost causes.Fault) meets = open_by _ (open_lookup g id h) meets.0
  closed_is_open h (closes.Lost causes.Damaged) meets = open_by _ (open_lookup g id h) meets.0

  closed_now : (h : List Entry) (close : Close) → open_lookup g id (h ++ entries.Closed id close ∷ []) ≡ None
  closed_now h close = open_lookup-append g id h (entries.Closed id close ∷ []) ∙ ap (λ (b : Bool). cond b None (open_lookup g id h)) (id_itself id)

  pub closed_once : (before between after : List Entry) (first second : Close) → Legal g (journal_of_two before (entries.Closed id first) between (entries.Closed id second) after) → ⊥
  closed_once before between after first second run =
      let h = before ++ entries.Closed id first ∷ between in
      let whole = Legal-split g h (entries.Closed id second ∷ after) run in
      let closed = before ++ entries.Closed id first ∷ [] in
      let front = Legal-split g before (entries.Closed id first ∷ between) whole.0 in
      let since = (Legal-split g closed between (subst (Legal g) (sym (append_assoc before (entries.Closed id first ∷ []) between)) whole.0)).1 in
      let was = closed_is_open before first front.1.0 in
      let has = still_has_step id before (entries.Closed id first) (is_recorded before was.0 was.1) in
      let none : open_lookup g id h ≡ None = ap (open_lookup g id) (sym (append_assoc before (entries.Closed id first ∷ []) between)) ∙ stays_closed closed between since has (closed_now before first) in
      let again = closed_is_open h second whole.1.0 in
      cc (sym none ∙ again.1)

  -- a lookup with the label is open
  pub lookup_there : (label : Label) (found : Option Lookup) → is_lookup_of label found ≡ true → (lookup : Lookup) × (found ≡ Some lookup)
  lookup_there label None is = absurd (false≢true is)
  lookup_there label (Some lookup) is = (lookup, refl)

  -- a read is of a step that the journal records, or of pass 0
  abbrev IsOwn : List Entry → Type 0
  IsOwn h = (has_step id h ≡ true) ⊎ (id.pass ≡ 0)

  abbrev IsOwned : List Entry → Option DeviceRead → Type 0
  IsOwned h found = (read : DeviceRead) → found ≡ Some read → IsOwn h

  still_own : (h : List Entry) (e : Entry) → IsOwn h → IsOwn (h ++ e ∷ [])
  still_own h e (inl has) = inl (still_has_step id h e has)
  still_own h e (inr own) = inr own

  whose : (h : List Entry) (other : Id) (label : Label) → (is_lookup_of label (open_lookup g other h) || nat_eq other.pass 0) ≡ true → other ≡ id → IsOwn h
  whose h other label is same = elim (or_cases (is_lookup_of label (open_lookup g other h)) (nat_eq other.pass 0) is) [
    | inl one ↦ let there = lookup_there label (open_lookup g other h) one in inl (is_recorded h there.0 (ap (λ (i : Id). open_lookup g i h) (sym same) ∙ there.1))
    | inr own ↦ inr (ap (λ (i : Id). i.pass) (sym same) ∙ eqb-true other.pass 0 own)
  ]

  began_owned : (h : List Entry) (e : Entry) (other : Id) (place : Place) (b : Bool) → same_id other id ≡ b → (is_lookup_of place.label (open_lookup g other h) || nat_eq other.pass 0) ≡ true
      → IsOwned h (read_of id h) → IsOwned (h ++ e ∷ []) (cond b (Some (record { place = place; outcome = None })) (read_of id h))
  began_owned h e other place true same is was read some = still_own h e (whose h other place.label is (equal_ids other id same))
  began_owned h e other place false same is was read some = still_own h e (was read some)

  ended_owned : (h : List Entry) (e : Entry) (b : Bool) (outcome : Option (List ℕ)) (found : Option DeviceRead) → IsOwned h found → IsOwned (h ++ e ∷ []) (cond b (option_map (with_outcome outcome) found) found)
  ended_owned h e true outcome None was read some = absurd (cc some)
  ended_owned h e true outcome (Some one) was read some = still_own h e (was one refl)
  ended_owned h e false outcome found was read some = still_own h e (was read some)

  owned_step : (h : List Entry) (e : Entry) → Meets g h (cache_of g h) e → IsOwned h (read_of id h) → IsOwned (h ++ e ∷ []) (read_step id (read_of id h) e)
  owned_step h (entries.ReadBegan other place reader) meets was =
      began_owned h (entries.ReadBegan other place reader) other place (same_id other id) refl (and_parts (may_be_read h other place) _ meets.0).1 was
  owned_step h (entries.ReadEnded other outcome) meets was = ended_owned h (entries.ReadEnded other outcome) (same_id other id) outcome (read_of id h) was
  owned_step h e meets was = λ read some. still_own h e (was read some)

  owned_one : (h : List Entry) (e : Entry) → Meets g h (cache_of g h) e → IsOwned h (read_of id h) → IsOwned (h ++ e ∷ []) (read_of id (h ++ e ∷ []))
  owned_one h e meets was = subst (IsOwned (h ++ e ∷ [])) (sym (read_off-one (read_step id) None h e)) (owned_step h e meets was)

  pub is_owned : (h : List Entry) → Legal g h → IsOwned h (read_of id h)
  is_owned h run = LegalFrom-keeps g (λ (j : List Entry). IsOwned j (read_of id j)) owned_one [] h run (λ read none. absurd (cc none))

  -- a value from a buffer is of a step that the journal records
  abbrev IsBuffered : List Entry → Bool → Type 0
  IsBuffered h found = found ≡ true → has_step id h ≡ true

  buffered_step : (h : List Entry) (e : Entry) → Meets g h (cache_of g h) e → is_from_buffer id e ≡ true → has_step id h ≡ true
  buffered_step h (entries.FromBuffer other place) meets from =
      let open_one = (and_parts (is_lookup_of place.label (open_lookup g other h)) _ (and_parts _ _ meets.0).0).0 in
      let there = lookup_there place.label (open_lookup g other h) open_one in
      is_recorded h there.0 (ap (λ (i : Id). open_lookup g i h) (sym (equal_ids other id from)) ∙ there.1)
  buffered_step h _ meets from = absurd (false≢true from)

  buffered_one : (h : List Entry) (e : Entry) → Meets g h (cache_of g h) e → IsBuffered h (was_from_buffer id h) → IsBuffered (h ++ e ∷ []) (was_from_buffer id (h ++ e ∷ []))
  buffered_one h e meets was is = elim (or_cases (was_from_buffer id h) (is_from_buffer id e) (sym (list_any-one (is_from_buffer id) h e) ∙ is)) [
    | inl one ↦ still_has_step id h e (was one)
    | inr from ↦ still_has_step id h e (buffered_step h e meets from)
  ]

  pub is_buffered : (h : List Entry) → Legal g h → IsBuffered h (was_from_buffer id h)
  is_buffered h run = LegalFrom-keeps g (λ (j : List Entry). IsBuffered j (was_from_buffer id j)) buffered_one [] h run (λ none. absurd (false≢true none))

  -- a step that is new to a run has no lookup in it
  unlooked : (h : List Entry) (found : Option Lookup) → has_step id h ≡ false → IsRecorded h found → found ≡ None
  unlooked h None new recorded = refl
  unlooked h (Some lookup) new recorded = absurd (false≢true (sym new ∙ recorded lookup refl))

  unread : (h : List Entry) (found : Option DeviceRead) → is_new_step h id ≡ true → IsOwned h found → found ≡ None
  unread h None new owned = refl
  unread h (Some read) new owned = elim (owned read refl) [
    | inl has ↦ absurd (false≢true (sym (new_has_no_step h id new) ∙ has))
    | inr own ↦ let above = (and_parts (nat_lt 0 id.pass) _ new).0 in absurd (grind (arith, nat_tests))
  ]

  pub new_has_no_lookup : (h : List Entry) → Legal g h → is_new_step h id ≡ true → HasNoLookup g h id
  new_has_no_lookup h run new = record {
    lookup = unlooked h (open_lookup g id h) (new_has_no_step h id new) (is_recorded h);
    read = unread h (read_of id h) new (is_owned h run);
    buffer = false_from_ne_true (was_from_buffer id h) (λ from. absurd (false≢true (sym (new_has_no_step h id new) ∙ is_buffered h run from)));
  }
