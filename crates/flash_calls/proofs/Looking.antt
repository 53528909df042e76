-- What a store keeps goes on by a lookup.
use Rattle.std.proofs.Common.{◌≡◌, ℕ, Bool, true, false, ◌&&◌, ◌||◌, not, cond, List, [], ◌∷◌, ◌++◌, length, Option, None, Some, option_map, if◌then◌else◌, inr, refl, sym, ◌∙◌, ap, subst}
use Rattle.std.specs.Prelude.{nat_eq}
use Rattle.std.specs.List.{list_any}
use Rattle.std.specs.Str.{bytes_eq}
use Rattle.std.specs.FinMap as finite
use Rattle.std.proofs.lemmas.Bool.{and_from, and_parts, or_left, or_right, not-true, not_from_false}
use Rattle.flash_names.specs.declared.place.Id.{Id}
use Rattle.flash_names.specs.declared.place.Label.{Label}
use Rattle.flash_names.specs.declared.place.Place.{Place}
use Rattle.flash_names.specs.declared.geometry.Geometry.{Geometry}
use Rattle.flash_names.specs.Labels.{same_label}
use Rattle.flash_record.specs.Record.{record_bytes}
use Rattle.flash_entry.specs.declared.ask.Look.{Look}
use Rattle.flash_entry.specs.declared.found.Head.{Head}
use Rattle.flash_entry.specs.declared.entry.Close.TheVariants as closes
use Rattle.flash_entry.specs.declared.entry.Entry.{Entry}
use Rattle.flash_entry.specs.declared.entry.Entry.TheVariants as entries
use Rattle.flash_pages.specs.Calls.{has_ended}
use Rattle.flash_buffers.specs.BufferTable.{read_of}
use Rattle.flash_blocks.specs.Laws.{EachRecordIsRead}
use Rattle.flash_machine.specs.Item.{Item}
use Rattle.flash_machine.specs.Cache.{Cache}
use Rattle.flash_machine.specs.Live.{is_expired_item, is_live, label_has_ended, passing_item, live_item}
use Rattle.flash_machine.specs.Looking.{residence_at, residence_of, fetched_item, look_next, head_of_item}
use Rattle.flash_machine.specs.Lookups.{opened_by, open_lookup, is_from_buffer, was_from_buffer}
use Rattle.flash_machine.specs.Rules.{is_lookup_of, ends_write_over, may_be_buffered, is_hit_of, is_open_and}
use Rattle.flash_machine.specs.Steps.{cache_of}
use Rattle.flash_machine.specs.Legal.{Meets}
use Rattle.flash_machine.specs.NewSteps.{IsNew}
use Rattle.flash_machine.proofs.EntrySteps.{list_any-one, open_lookup-append}
use Rattle.flash_machine.proofs.Meeting.{look_meets}
use Rattle.flash_machine.proofs.Same.{id_itself, label_itself, number_itself}
use Rattle.flash_heads.specs.Heads.{hidden}
use Rattle.flash_heads.specs.Living.{EachLiveItemIsHidden}
use Rattle.flash_index.proofs.Lookups.{key_itself}
use Rattle.flash_calls.specs.Below.{Below}
use Rattle.flash_calls.specs.Changes.{leaves}
use Rattle.flash_calls.specs.Held.{WritesNone, IsUnwritten, parts_of}
use Rattle.flash_calls.specs.Lookups.{value_in, Buffered, buffered_at, buffered, Reading, plain, reading_away, reading_at, reading_of, desk_after_look, look_call}
use Rattle.flash_calls.specs.Placed.{IsPlaced}
use Rattle.flash_calls.specs.Running.{IsRunning, LeavesARun}
use Rattle.flash_calls.specs.Store.{Desk, Call}
use Rattle.flash_calls.specs.Sweeps.{sweep}
use Rattle.flash_calls.specs.declared.found.Found.{Found}
use Rattle.flash_calls.specs.declared.found.Found.TheVariants as found
use Rattle.flash_calls.proofs.Commanding.{IsSwept, sweep_sweeps, after_sweep, behind_sweep}
use Rattle.flash_calls.proofs.Ending.{ended_by_place}
use Rattle.flash_calls.proofs.Goes.{Goes, goes_then, goes_one}
use Rattle.flash_calls.proofs.Holding.{passing_there}
use Rattle.flash_calls.proofs.Paging.{same_itself}
use Rattle.flash_calls.proofs.Quiet.{AreQuiet, same_ended}
use Rattle.flash_calls.proofs.Running.{LeavesFlash, leaves_a_run, stands_of}
use Rattle.flash_calls.proofs.Standing.{Stands, stands_after}
use Rattle.flash_calls.proofs.Values.{value_is}

-- where no block was written, none was written over a place
written_over : (place : Place) (e : Entry) → WritesNone e → ends_write_over place e ≡ false
written_over place (entries.WriteEnded other outcome) none = absurd none
written_over place _ none = refl

none_over : (place : Place) (h : List Entry) → IsUnwritten h → list_any (ends_write_over place) h ≡ false
none_over place [] none = refl
none_over place (e ∷ h) none = (λ j. written_over place e none.0 j || none_over place h none.1 j)

-- an item that passes a test
passes_by : (b : Bool) (item : Item) → cond b (Some item) None ≡ Some item → b ≡ true
passes_by true item is = refl
passes_by false item is = absurd (cc is)

-- the item whose head is found
pub record IsHidden (live : Option Item) (head : Item) : Type 0 where
  pub item : Item
  pub there : live ≡ Some item
  pub same : hidden item ≡ head

hidden_of : (live : Option Item) (head : Item) → option_map hidden live ≡ Some head → IsHidden live head
hidden_of None head is = absurd (cc is)
hidden_of (Some item) head is = record { item = item; there = refl; same = cc is }

-- the place of a value that a buffer holds, and the bytes that are read there
record IsBuffered (desk : Desk) (key : List ℕ) (held : Buffered) : Type 0 where
  bytes : List ℕ
  place : finite.get desk.places key ≡ Some held.place
  read : read_of desk.blocks.buffers held.place ≡ Some bytes
  value : value_in (length key) bytes ≡ held.value

module _ (desk : Desk) (key : List ℕ) (held : Buffered) where
  read_by : (place : Place) (found : Option (List ℕ)) → finite.get desk.places key ≡ Some place → read_of desk.blocks.buffers place ≡ found
      → option_map (λ bytes. record { place = place; value = value_in (length key) bytes }) found ≡ Some held → IsBuffered desk key held
  read_by place None at read is = absurd (cc is)
  read_by place (Some bytes) at read is =
      let one : record { place = place; value = value_in (length key) bytes } ≡ held = cc is in record {
        bytes = bytes;
        place = at ∙ ap (λ (b : Buffered). Some b.place) one;
        read = ap (λ (b : Buffered). read_of desk.blocks.buffers b.place) (sym one) ∙ read;
        value = ap (λ (b : Buffered). b.value) one;
      }

  place_by : (found : Option Place) → finite.get desk.places key ≡ found → buffered_at desk.blocks.buffers (length key) found ≡ Some held → IsBuffered desk key held
  place_by None at is = absurd (cc is)
  place_by (Some place) at is = read_by place (read_of desk.blocks.buffers place) at refl is

  is_buffered : buffered desk key ≡ Some held → IsBuffered desk key held
  is_buffered = place_by (finite.get desk.places key) refl

module _ (lives : EachLiveItemIsHidden) (reads : EachRecordIsRead) (g : Geometry) (h : List Entry) (c : Cache) (desk : Desk) (was : IsRunning g h c desk) (id : Id) (key : List ℕ) (look : Look) (is_swept : IsSwept h c key) where
  -- a live item under the key
  module _ (head : Item) (there : finite.get c.items key ≡ Some head) where
    is_passing : passing_item (is_live h c) (Some head) ≡ Some head
    is_passing = ap (passing_item (is_live h c)) (sym there) ∙ is_swept ∙ there

    unended : label_has_ended h head.label ≡ false
    unended =
        not-true (label_has_ended h head.label)
        (and_parts (not (is_expired_item c head)) (not (label_has_ended h head.label)) (passes_by (is_live h c head) head is_passing)).1

    pub of_true : IsHidden (live_item h (cache_of g h) key) head
    of_true = hidden_of (live_item h (cache_of g h) key) head
        (sym (lives h (cache_of g h) key) ∙ ap (λ (d : Cache). live_item h d key) (sym was.run.same) ∙ is_swept ∙ there)

    abbrev item : Item
    item = of_true.item

    -- whose value is on flash
    module _ (place : Place) (at : finite.get desk.places key ≡ Some place) where
      at_place : IsPlaced key (Some head) (Some place)
      at_place =
          subst (λ (found : Option Place). IsPlaced key (Some head) found) at
          (subst (λ (found : Option Item). IsPlaced key found (finite.get desk.places key)) there (was.placed key))

      place_used : label_has_ended h (Some place.label) ≡ false
      place_used = ap (label_has_ended h) (sym at_place.label) ∙ unended

      place_unended : has_ended desk.blocks.pages place.label ≡ false
      place_unended =
          ended_by_place g h desk.blocks.pages was.paged key head (Some place) at_place
          (λ other is. was.opened key other (at ∙ is)) ∙ unended

      -- its record is read there
      pub is_read : read_of desk.blocks.buffers place ≡ Some (record_bytes (parts_of key item place))
      is_read =
          let there_true = passing_there (is_live h (cache_of g h)) (finite.get (cache_of g h).items key) item of_true.there in
          reads desk.blocks place (parts_of key item place) was.order.one (was.held key item place there_true at place_unended)

    -- and is wanted
    module _ (label : Label) (labelled : head.label ≡ Some label) (held : Buffered) (in_buffer : IsBuffered desk key held) (wants : look.value ≡ true) where
      same_labels : label ≡ held.place.label
      same_labels = cc (sym labelled ∙ (at_place held.place in_buffer.place).label)

      its_value : held.value ≡ item.value
      its_value =
          let parts = parts_of key item held.place in
          let bytes : in_buffer.bytes ≡ record_bytes parts = cc (sym in_buffer.read ∙ is_read held.place in_buffer.place) in
          sym in_buffer.value ∙ ap (value_in (length key)) bytes ∙ value_is parts

      -- the lookup that the Looked entry opens
      abbrev looked : Entry
      looked = entries.Looked id key look (residence_of (Some head))

      abbrev after_look : List Entry
      after_look = h ++ looked ∷ []

      opens : open_lookup g id after_look ≡ opened_by true key (Some item) (residence_at head.cas (Some label)) (open_lookup g id h)
      opens =
          open_lookup-append g id h (looked ∷ [])
          ∙ (λ j. opened_by (id_itself id j && wants j) key (of_true.there j) (residence_at head.cas (labelled j)) (open_lookup g id h))

      from_meets : may_be_buffered g after_look id held.place ≡ true
      from_meets =
          and_from _ _
          (and_from _ _
          (ap (is_lookup_of held.place.label) opens ∙ ap (λ (l : Label). same_label l held.place.label) same_labels ∙ label_itself held.place.label)
          (not_from_false (label_has_ended after_look (Some held.place.label)) (same_ended h (looked ∷ []) (tt, tt) (Some held.place.label) ∙ place_used held.place in_buffer.place)))
          (not_from_false (list_any (ends_write_over held.place) after_look)
          (list_any-one (ends_write_over held.place) h looked ∙ ap (λ (b : Bool). b || false) (none_over held.place h was.unwritten)))

      abbrev from : Entry
      from = entries.FromBuffer id held.place

      abbrev after_from : List Entry
      after_from = after_look ++ from ∷ []

      still_open : open_lookup g id after_from ≡ opened_by true key (Some item) (residence_at head.cas (Some label)) (open_lookup g id h)
      still_open = open_lookup-append g id after_look (from ∷ []) ∙ opens

      came : was_from_buffer id after_from ≡ true
      came = list_any-one (is_from_buffer id) after_look from ∙ or_right (was_from_buffer id after_look) _ (id_itself id)

      same_flags : nat_eq head.flags item.flags ≡ true
      same_flags = ap (nat_eq head.flags) (ap (λ (i : Item). i.flags) of_true.same) ∙ number_itself head.flags

      same_cas : nat_eq head.cas item.cas ≡ true
      same_cas = ap (nat_eq head.cas) (ap (λ (i : Item). i.cas) of_true.same) ∙ number_itself head.cas

      same_value : bytes_eq held.value item.value ≡ true
      same_value = ap (bytes_eq held.value) (sym its_value) ∙ key_itself held.value

      hit : is_open_and (is_hit_of after_from id head.flags head.cas held.value) (opened_by true key (Some item) (residence_at head.cas (Some label)) (open_lookup g id h)) ≡ true
      hit =
          and_from _ _ (and_from _ _ (and_from _ _ same_flags same_cas) same_value)
          (or_left (was_from_buffer id after_from) _ came)

      hit_meets : is_open_and (is_hit_of after_from id head.flags head.cas held.value) (open_lookup g id after_from) ≡ true
      hit_meets = ap (is_open_and (is_hit_of after_from id head.flags head.cas held.value)) still_open ∙ hit

      buffered_goes : (d : Cache) → Goes g after_look d (from ∷ entries.Closed id (closes.Hit head.flags head.cas held.value) ∷ []) d
      buffered_goes d = record { legal = ((from_meets, tt), ((hit_meets, tt), tt)); makes = refl }

  -- what a lookup notes after what it found
  record Notes (live : Option Item) (reading : Reading) : Type 0 where
    goes : (d : Cache) → Goes g (h ++ entries.Looked id key look (residence_of live) ∷ []) d reading.entries d
    quiet : AreQuiet reading.entries

  notes_none : (live : Option Item) (answer : Found) → Notes live (plain answer)
  notes_none live answer = record { goes = λ d. record { legal = tt; makes = refl }; quiet = tt }

  notes_away : (item : Item) (head : Head) (label : Label) (held : Option Buffered) → finite.get c.items key ≡ Some item → item.label ≡ Some label → buffered desk key ≡ held → look.value ≡ true → Notes (Some item) (reading_away id item head held)
  notes_away item head label None there labelled is wants = notes_none (Some item) _
  notes_away item head label (Some held) there labelled is wants = record {
    goes = λ d. buffered_goes item there label labelled held (is_buffered desk key held is) wants d;
    quiet = (tt, (tt, tt));
  }

  notes_at : (item : Item) (head : Head) (label : Option Label) → finite.get c.items key ≡ Some item → item.label ≡ label → look.value ≡ true → Notes (Some item) (reading_at id item head label (buffered desk key))
  notes_at item head None there labelled wants = notes_none (Some item) _
  notes_at item head (Some label) there labelled wants = notes_away item head label (buffered desk key) there labelled refl wants

  notes_by : (item : Item) (wants : Bool) → look.value ≡ wants → finite.get c.items key ≡ Some item
      → Notes (Some item) (if wants then reading_at id item (head_of_item c look item) item.label (buffered desk key) else plain (found.Head (head_of_item c look item)))
  notes_by item true wants there = notes_at item (head_of_item c look item) item.label there refl wants
  notes_by item false wants there = notes_none (Some item) _

  notes : (live : Option Item) → finite.get c.items key ≡ live → Notes live (reading_of c desk id key look live)
  notes None there = notes_none None _
  notes (Some item) there = notes_by item look.value refl there

module _ (below : Below) where
  module _ (g : Geometry) (h : List Entry) (c : Cache) (desk : Desk) (was : IsRunning g h c desk) (id : Id) (key : List ℕ) (look : Look) (new : IsNew h id) (is_swept : IsSwept h c key) where
    abbrev live : Option Item
    live = finite.get c.items key

    abbrev reading : Reading
    reading = reading_of c desk id key look live

    abbrev looked_call : Call Found
    looked_call = record {
      entries = entries.Looked id key look (residence_of live) ∷ reading.entries;
      cache = look_next c key look live;
      desk = desk_after_look key live desk;
      answer = reading.answer;
    }

    find_meets : Meets g h c (entries.Looked id key look (residence_of live))
    find_meets = subst (λ (found : Option Item). Meets g h c (entries.Looked id key look (residence_of found))) is_swept (look_meets g h c id key look new)

    find_goes : Goes g h c (entries.Looked id key look (residence_of live) ∷ []) (look_next c key look live)
    find_goes = goes_one g h c (look_next c key look live) (entries.Looked id key look (residence_of live)) find_meets (ap (look_next c key look) is_swept)

    look_stands : (found : Option Item) → finite.get c.items key ≡ found → Stands (look_next c key look found).items (desk_after_look key found desk)
    look_stands None there = stands_of g h c desk was
    look_stands (Some item) there =
        let after = (look_next c key look (Some item)).items in
        let stands = stands_after below.blocks.order below.lists.put below.lists.removal below.lists.change key c.items desk (stands_of g h c desk was) leaves after (inr (record {
          was = item;
          now = fetched_item c look item;
          there = there;
          new_is = refl;
          value = refl;
          label = refl;
        })) in
        record { listed = below.lists.used after desk.lists key stands.listed; placed = stands.placed; counted = stands.counted; order = stands.order }

    look_leaves : (there : Option Item) → LeavesFlash desk (desk_after_look key there desk)
    look_leaves None = record { fewer = λ key place there. there; keeps = λ key item place held. held; size = refl; pages = same_itself desk.blocks.pages }
    look_leaves (Some found) = record { fewer = λ key place there. there; keeps = λ key item place held. held; size = refl; pages = same_itself desk.blocks.pages }

    looked_runs : LeavesARun g h looked_call
    looked_runs =
        let noted = notes below.heads.live below.blocks.read g h c desk was id key look is_swept live refl in
        let first = entries.Looked id key look (residence_of live) in
        let after = look_next c key look live in
        leaves_a_run below.heads.known below.heads.head g h c desk looked_call was (record {
          goes = goes_then g h c after after (first ∷ []) reading.entries find_goes (noted.goes after);
          quiet = (tt, noted.quiet);
          stands = look_stands live refl;
          leaves = look_leaves live;
        })

  pub look_runs : (g : Geometry) (h : List Entry) (c : Cache) (desk : Desk) (id : Id) (key : List ℕ) (look : Look) → IsRunning g h c desk → IsNew h id → LeavesARun g h (look_call c desk id key look)
  look_runs g h c desk id key look was new =
      let s = sweep c desk key in
      let is = sweep_sweeps below g h c desk was key in
      let now = after_sweep below g h c desk was key in
      behind_sweep g h s.entries (looked_call g (h ++ s.entries) s.cache s.desk now id key look (is.new id new) is.live)
      (looked_runs g (h ++ s.entries) s.cache s.desk now id key look (is.new id new) is.live)
