-- What a store keeps goes on by a move.
use Rattle.std.proofs.Common.{◌≡◌, ℕ, ◌+◌, ◌≤◌, Bool, true, false, cond, ◌&&◌, not, nat_le, is_none, List, [], ◌∷◌, ◌++◌, length, Option, None, Some, Result, Ok, Err, IsSome, refl, sym, ◌∙◌, ap, subst, append_assoc}
use Rattle.std.specs.List.{find}
use Rattle.std.specs.Option.{ForSome}
use Rattle.std.specs.FinMap as finite
use Rattle.std.proofs.lemmas.Bool.{and_parts, leb-true, not-true}
use Rattle.flash_names.specs.declared.place.Label.{Label}
use Rattle.flash_names.specs.declared.geometry.Geometry.{Geometry}
use Rattle.flash_entry.specs.declared.entry.Entry.{Entry}
use Rattle.flash_entry.specs.declared.entry.Entry.TheVariants as entries
use Rattle.flash_pages.specs.declared.page_row.Bucket.TheVariants.{Default}
use Rattle.flash_pages.specs.declared.page_row.State.{State}
use Rattle.flash_pages.specs.declared.page_row.State.TheVariants.{Free, Open, Full as Filled, Ended}
use Rattle.flash_pages.specs.Calls.{adds_live, table_after as pages_after}
use Rattle.flash_pages.specs.States.{is_free, is_open, is_ended}
use Rattle.flash_pages.specs.PageTable.{PageTable, IsAt, row_of}
use Rattle.flash_blocks.specs.declared.answers.Put.{Put}
use Rattle.flash_blocks.specs.declared.answers.Full.{Full}
use Rattle.flash_blocks.specs.BlockTable.{BlockTable}
use Rattle.flash_blocks.specs.Calls.{puts, length_of, put_answer, table_after}
use Rattle.flash_blocks.specs.InOrder.{IsInOrder}
use Rattle.flash_blocks.specs.Puts.{pages_opened, IsOpenedFor, IsPut}
use Rattle.flash_machine.specs.Item.{moved_head, Item}
use Rattle.flash_machine.specs.Cache.{Cache}
use Rattle.flash_machine.specs.Live.{is_expired_item, label_has_ended}
use Rattle.flash_machine.specs.Load.{item_load}
use Rattle.flash_machine.specs.PageLabels.{page_label}
use Rattle.flash_machine.specs.RuleFacts.{IsInUse}
use Rattle.flash_heads.specs.Moves.{with_head}
use Rattle.flash_index.specs.KeyLists.{resized}
use Rattle.flash_index.specs.Listed.{IsListed}
use Rattle.flash_index.specs.NextToMove.{is_within, may_move, some_may_move, keys_from_last, next_key_to_move}
use Rattle.flash_calls.specs.declared.move_step.MoveStep.{MoveStep}
use Rattle.flash_calls.specs.declared.move_step.MoveStep.TheVariants as steps
use Rattle.flash_calls.specs.Below.{Below}
use Rattle.flash_calls.specs.Held.{parts_of, KeepsRecords}
use Rattle.flash_calls.specs.Moves.{move_rule, entries_of_opening, desk_after_move, not_moved, move_where, move_item, move_key, move_call}
use Rattle.flash_calls.specs.Paged.{ArePaged}
use Rattle.flash_calls.specs.Running.{IsRunning, LeavesARun}
use Rattle.flash_calls.specs.Store.{Desk, idle_call}
use Rattle.flash_calls.proofs.MovedDesk.{WasPut, moved_runs}
use Rattle.flash_calls.proofs.OpenedDesk.{opened_runs}
use Rattle.flash_calls.proofs.Opening.{is_opening}
use Rattle.flash_calls.proofs.Running.{leaves_a_run}
use Rattle.flash_calls.proofs.Timing.{idle_quiet}

-- a key that is found passes the test
found_passes : (test : List ℕ → Bool) (keys : List (List ℕ)) (key : List ℕ) → find test keys ≡ Some key → test key ≡ true
found_passes test [] key is = absurd (cc is)
found_passes test (first ∷ rest) key is = either (test first) refl is (found_passes test rest key) where
  either : (passes : Bool) → test first ≡ passes → cond passes (Some first) (find test rest) ≡ Some key → (find test rest ≡ Some key → test key ≡ true) → test key ≡ true
  either true passes at later = let same : first ≡ key = cc at in subst (λ (k : List ℕ). test k ≡ true) same passes
  either false passes at later = later at

-- no label
none_is : (label : Option Label) → is_none label ≡ true → label ≡ None
none_is None is = refl
none_is (Some label) is = absurd (cc is)

-- the label of a page that is Open is in use
not_free : (state : State) → is_open state ≡ true → is_free state ≡ false
not_free Free is = absurd (cc is)
not_free Open is = refl
not_free Filled is = absurd (cc is)
not_free Ended is = absurd (cc is)

not_ended : (state : State) → is_open state ≡ true → is_ended state ≡ false
not_ended Free is = absurd (cc is)
not_ended Open is = refl
not_ended Filled is = absurd (cc is)
not_ended Ended is = absurd (cc is)

used_of : (g : Geometry) (h : List Entry) (t : PageTable) (label : Label) → ArePaged g h t → IsAt is_open t label → IsInUse h label
used_of g h t label paged at =
    let row = paged.each label.page in
    let has : page_label label.page h ≡ Some label =
    sym row.label ∙ (λ j. cond (not_free (row_of t label).state at.state j) None (Some (record { page = label.page; version = at.version j }))) in
    record {
      has = has;
      unended = ap (label_has_ended h) (sym has) ∙ sym row.ended ∙ not_ended (row_of t label).state at.state;
    }

module _ (below : Below) (g : Geometry) (c : Cache) (desk : Desk) (key : List ℕ) (item : Item) (there : finite.get c.items key ≡ Some item) where
  -- an item that the rule lets move
  record IsMovable : Type 0 where
    alive : is_expired_item c item ≡ false
    here : item.label ≡ None
    short : length_of key item.value ≤ g.buffer_size

  movable : may_move (move_rule g c) key item ≡ true → IsMovable
  movable may =
      let outer = and_parts (not (is_expired_item c item)) (is_none item.label && is_within (record { least = g.item_size; most = g.buffer_size }) (length key) (length item.value)) may in
      let inner = and_parts (is_none item.label) (is_within (record { least = g.item_size; most = g.buffer_size }) (length key) (length item.value)) outer.1 in
      let sizes = and_parts (nat_le g.item_size (length item.value)) (nat_le (32 + length key + length item.value) g.buffer_size) inner.1 in
      record {
        alive = not-true (is_expired_item c item) outer.0;
        here = none_is item.label inner.0;
        short = leb-true _ _ sizes.1;
      }

  module _ (may : IsMovable) (short : length_of key item.value ≤ desk.blocks.buffers.size) (order : IsInOrder desk.blocks) (put : Put) (is : IsPut desk.blocks Default key item.flags item.cas item.value put) where
    abbrev new : BlockTable
    new = table_after (puts Default key item.flags item.cas item.value) desk.blocks

    -- the desk with these pages
    abbrev with_those : PageTable → Desk
    with_those pages = record desk { blocks = record desk.blocks { pages = pages } }

    keeps_over : (pages : PageTable) → KeepsRecords (record desk.blocks { pages = pages }) new
    keeps_over pages q it at held =
        below.blocks.stays desk.blocks (puts Default key item.flags item.cas item.value) at (parts_of q it at) tt (record { version = held.version; some = held.some; bytes = held.bytes })

    was_put : (pages : PageTable) → new.pages ≡ pages_after (adds_live put.place.label put.place.length) pages → WasPut (record desk.blocks { pages = pages }) new key item put.place
    was_put pages counted = record {
      pages = counted;
      holds = is.held;
      keeps = keeps_over pages;
      order = below.blocks.order desk.blocks (puts Default key item.flags item.cas item.value) short tt order;
      size = (below.blocks.sizes desk.blocks (puts Default key item.flags item.cas item.value)).block;
    }

    -- the move where the record's page is open
    put_runs : (h : List Entry) (pages : PageTable) → IsRunning g h c (with_those pages) → IsAt is_open pages put.place.label → new.pages ≡ pages_after (adds_live put.place.label put.place.length) pages
        → IsRunning g (h ++ entries.Moved key item.cas put.place.label ∷ []) (with_head c key (moved_head put.place.label item)) (desk_after_move Default key item put desk)
    put_runs h pages was at counted =
        let listed : IsListed (finite.insert c.items key (moved_head put.place.label item)) (resized key (item_load key (moved_head put.place.label item)) desk.lists) =
        below.lists.resize c.items desk.lists key (moved_head put.place.label item) was.listed (subst (λ (found : Option Item). IsSome found) (sym there) refl) in
        moved_runs g h c (with_those pages) was key item put.place
        (record { there = there; alive = may.alive; here = may.here; used = used_of g h pages put.place.label was.paged at; size = is.length })
        below.heads.memory below.heads.of new (was_put pages counted) below.heads.moved listed

    -- and where a page was opened for it, if one was
    put_by : (h : List Entry) → IsRunning g h c desk → (opened : Option Label) → ForSome opened (IsOpenedFor desk.blocks.pages Default put.place.label) → IsAt is_open (pages_opened Default opened desk.blocks.pages) put.place.label
        → new.pages ≡ pages_after (adds_live put.place.label put.place.length) (pages_opened Default opened desk.blocks.pages)
        → IsRunning g (h ++ (entries_of_opening opened ++ entries.Moved key item.cas put.place.label ∷ [])) (with_head c key (moved_head put.place.label item)) (desk_after_move Default key item put desk)
    put_by h was None opens at counted = put_runs h desk.blocks.pages was at counted
    put_by h was (Some label) opens at counted =
        let next = (opens label refl).next in
        let pages : PageTable = pages_opened Default (Some label) desk.blocks.pages in
        let blocks : BlockTable = record desk.blocks { pages = pages } in
        let run : IsRunning g (h ++ entries.Opened label ∷ []) c (with_those pages) =
        opened_runs g h c desk was Default label (is_opening desk.blocks.pages Default label next) blocks refl (below.blocks.opening desk.blocks Default label next was.order) was.size
        (λ q it place held. record { version = held.version; some = held.some; bytes = held.bytes }) below in
        subst (λ (j : List Entry). IsRunning g j (with_head c key (moved_head put.place.label item)) (desk_after_move Default key item put desk))
        (append_assoc h (entries.Opened label ∷ []) (entries.Moved key item.cas put.place.label ∷ []))
        (put_runs (h ++ entries.Opened label ∷ []) pages run at counted)

module _ (below : Below) (g : Geometry) (h : List Entry) (c : Cache) (desk : Desk) (was : IsRunning g h c desk) where
  idle_runs : (answer : MoveStep) → LeavesARun g h (idle_call c desk answer)
  idle_runs answer = leaves_a_run below.heads.known below.heads.head g h c desk (idle_call c desk answer) was (idle_quiet below g h c desk was answer)

  module _ (key : List ℕ) (item : Item) (there : finite.get c.items key ≡ Some item) (may : IsMovable below g c desk key item there) where
    short : length_of key item.value ≤ desk.blocks.buffers.size
    short = subst (λ (n : ℕ). length_of key item.value ≤ n) (sym was.size) may.short

    where_runs : (answer : Result Put Full) → put_answer desk.blocks Default (length_of key item.value) ≡ answer → LeavesARun g h (move_where c desk Default key item answer)
    where_runs (Err why) is = idle_runs (not_moved why)
    where_runs (Ok put) is =
        let its : IsPut desk.blocks Default key item.flags item.cas item.value put = below.blocks.put desk.blocks Default key item.flags item.cas item.value put was.order short is in
        put_by below g c desk key item there may short was.order put its h was put.opened its.pages.opened its.pages.at its.pages.counted

  item_runs : (key : List ℕ) (found : Option Item) → finite.get c.items key ≡ found → some_may_move (move_rule g c) key found ≡ true → LeavesARun g h (move_item c desk Default key found)
  item_runs key None there may = absurd (cc may)
  item_runs key (Some item) there may = where_runs key item there (movable below g c desk key item there may) (put_answer desk.blocks Default (length_of key item.value)) refl

  key_runs : (next : Option (List ℕ)) → next_key_to_move (move_rule g c) c.items desk.lists ≡ next → LeavesARun g h (move_key c desk next)
  key_runs None is = idle_runs steps.Idle
  key_runs (Some key) is =
      item_runs key (finite.get c.items key) refl (found_passes (λ k. some_may_move (move_rule g c) k (finite.get c.items k)) (keys_from_last desk.lists) key is)

  pub move_runs : LeavesARun g h (move_call g c desk)
  move_runs = key_runs (next_key_to_move (move_rule g c) c.items desk.lists) refl
