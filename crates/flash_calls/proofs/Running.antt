-- What a store keeps goes on by a call that leaves the flash.
use Rattle.std.proofs.Common.{◌≡◌, ℕ, Bool, true, false, cond, List, ◌++◌, Option, None, Some, option_map, inl, inr, refl, sym, ◌∙◌, ap, subst}
use Rattle.std.specs.FinMap as finite
use Rattle.flash_names.specs.declared.geometry.Geometry.{Geometry}
use Rattle.flash_names.specs.declared.place.Place.{Place}
use Rattle.flash_entry.specs.declared.entry.Entry.{Entry}
use Rattle.flash_record.specs.Record.{record_bytes}
use Rattle.flash_pages.specs.Calls.{has_ended}
use Rattle.flash_buffers.specs.BufferTable.{BufferTable}
use Rattle.flash_blocks.specs.BlockTable.{BlockTable}
use Rattle.flash_blocks.specs.Calls.{takes_live, table_after}
use Rattle.flash_blocks.specs.Held.{HasBytes}
use Rattle.flash_machine.specs.Item.{Item}
use Rattle.flash_machine.specs.Cache.{Cache, Items}
use Rattle.flash_machine.specs.Steps.{cache_of}
use Rattle.flash_machine.proofs.Runs.{cache_of-append}
use Rattle.flash_heads.specs.Heads.{hidden, heads}
use Rattle.flash_heads.specs.KnownRun.{IsKnownRun, AKnownRunGoesOn}
use Rattle.flash_heads.specs.Kept.{EachKeyHasItsHead}
use Rattle.flash_index.proofs.Lookups.{cases_key, cut_here, cut_else}
use Rattle.flash_calls.specs.Changes.{Change, leaves, stores, drops, without_key, with_stored, desk_after}
use Rattle.flash_calls.specs.Held.{parts_of, KeepsRecords}
use Rattle.flash_calls.specs.Placed.{IsPlaced, ArePlaced}
use Rattle.flash_index.specs.Places.{Places}
use Rattle.flash_calls.specs.Places.{given_back}
use Rattle.flash_calls.specs.Running.{IsRunning, LeavesARun}
use Rattle.flash_calls.specs.Store.{Desk, Call}
use Rattle.flash_calls.proofs.Goes.{Goes, known_goes_on}
use Rattle.flash_calls.proofs.Holding.{AreHereOrWere, entries_were, held_kept}
use Rattle.flash_calls.proofs.Paging.{SamePages, same_itself, same_both, same_given_back, paged_kept, opened_kept}
use Rattle.flash_calls.proofs.Quiet.{AreQuiet, quiet_leaves_labels, quiet_moves_none, unwritten_behind}
use Rattle.flash_calls.proofs.Standing.{Stands}

-- the desk gets no new place, its buffers hold what they held and keep their size, and its pages keep their labels
pub record LeavesFlash (desk new : Desk) : Type 0 where
  pub fewer : (key : List ℕ) (place : Place) → finite.get new.places key ≡ Some place → finite.get desk.places key ≡ Some place
  pub keeps : KeepsRecords desk.blocks new.blocks
  pub size : new.blocks.buffers.size ≡ desk.blocks.buffers.size
  pub pages : SamePages desk.blocks.pages new.blocks.pages

pub leaves_itself : (desk : Desk) → LeavesFlash desk desk
leaves_itself desk = record { fewer = λ key place there. there; keeps = λ key item place held. held; size = refl; pages = same_itself desk.blocks.pages }

pub leaves_both : (desk mid new : Desk) → LeavesFlash desk mid → LeavesFlash mid new → LeavesFlash desk new
leaves_both desk mid new one two = record {
  fewer = λ key place there. one.fewer key place (two.fewer key place there);
  keeps = λ key item place held. two.keeps key item place (one.keeps key item place held);
  size = two.size ∙ one.size;
  pages = same_both desk.blocks.pages mid.blocks.pages new.blocks.pages one.pages two.pages;
}

-- a place that is given back
taken_buffers : (t : BlockTable) (place : Place) (ended : Bool) → (cond ended t (table_after (takes_live place) t)).buffers ≡ t.buffers
taken_buffers t place true = refl
taken_buffers t place false = refl

given_buffers : (t : BlockTable) (place : Option Place) → (given_back place t).buffers ≡ t.buffers
given_buffers t None = refl
given_buffers t (Some place) = taken_buffers t place (has_ended t.pages place.label)

given_keeps : (t : BlockTable) (place : Option Place) → KeepsRecords t (given_back place t)
given_keeps t given key item place held = record {
  version = held.version;
  some = held.some;
  bytes = subst (λ (b : BufferTable). HasBytes b place (record_bytes (parts_of key item place))) (sym (given_buffers t given)) held.bytes;
}

given_size : (t : BlockTable) (place : Option Place) → (given_back place t).buffers.size ≡ t.buffers.size
given_size t given = ap (λ (b : BufferTable). b.size) (given_buffers t given)

was_there : (places : Places) (key q : List ℕ) (place : Place) → finite.get (finite.remove places key) q ≡ Some place → finite.get places q ≡ Some place
was_there places key q place is = elim (cases_key q key) [
  | inl at ↦ absurd (cc (sym (cut_here places key) ∙ ap (finite.get (finite.remove places key)) (sym at) ∙ is))
  | inr apart ↦ sym (cut_else places key q apart) ∙ is
]

pub without_leaves : (key : List ℕ) (desk : Desk) → LeavesFlash desk (without_key key desk)
without_leaves key desk = record {
  fewer = was_there desk.places key;
  keeps = given_keeps desk.blocks (finite.get desk.places key);
  size = given_size desk.blocks (finite.get desk.places key);
  pages = same_given_back desk.blocks (finite.get desk.places key);
}

stored_leaves : (key : List ℕ) (desk : Desk) (now : Option Item) → LeavesFlash desk (with_stored key now desk)
stored_leaves key desk None = leaves_itself desk
stored_leaves key desk (Some item) = record {
  fewer = was_there desk.places key;
  keeps = given_keeps desk.blocks (finite.get desk.places key);
  size = given_size desk.blocks (finite.get desk.places key);
  pages = same_given_back desk.blocks (finite.get desk.places key);
}

pub change_leaves : (kind : Change) (key : List ℕ) (now : Option Item) (desk : Desk) → LeavesFlash desk (desk_after kind key now desk)
change_leaves leaves key now desk = leaves_itself desk
change_leaves stores key now desk = stored_leaves key desk now
change_leaves drops key now desk = without_leaves key desk

-- an item's label is that of its place, by its head
head_label : EachKeyHasItsHead → (c : Cache) (places : Places) → ArePlaced (heads c).items places → (key : List ℕ) (item : Item) (place : Place)
    → finite.get c.items key ≡ Some item → finite.get places key ≡ Some place → item.label ≡ Some place.label
head_label law c places placed key item place there at =
    let head : finite.get (heads c).items key ≡ Some (hidden item) = law c key ∙ ap (option_map hidden) there in
    let is = subst (λ (found : Option Place). IsPlaced key (Some (hidden item)) found) at (subst (λ (found : Option Item). IsPlaced key found (finite.get places key)) head (placed key)) in
    is.label

-- a call whose entries meet their rules and leave the flash, and whose desk is that of the heads and leaves it too
pub record IsQuietCall {A : Type 0} (g : Geometry) (h : List Entry) (c : Cache) (desk : Desk) (call : Call A) : Type 0 where
  pub goes : Goes g h c call.entries call.cache
  pub quiet : AreQuiet call.entries
  pub stands : Stands call.cache.items call.desk
  pub leaves : LeavesFlash desk call.desk

module _ (known : AKnownRunGoesOn) (law : EachKeyHasItsHead) {A : Type 0} (g : Geometry) (h : List Entry) (c : Cache) (desk : Desk) (call : Call A) (was : IsRunning g h c desk) (is : IsQuietCall g h c desk call) where
  abbrev true_after : Items
  true_after = (cache_of g (h ++ call.entries)).items

  run : IsKnownRun g call.cache (h ++ call.entries)
  run = known_goes_on known g h c call.cache call.entries was.run is.goes (quiet_moves_none call.entries is.quiet)

  were : AreHereOrWere (cache_of g h).items true_after
  were = subst (λ (d : Cache). AreHereOrWere (cache_of g h).items d.items) (sym (cache_of-append g h call.entries)) (entries_were g h (cache_of g h) call.entries is.quiet)

  labelled : (key : List ℕ) (item : Item) (place : Place) → finite.get true_after key ≡ Some item → finite.get call.desk.places key ≡ Some place → item.label ≡ Some place.label
  labelled = head_label law (cache_of g (h ++ call.entries)) call.desk.places (subst (λ (d : Cache). ArePlaced d.items call.desk.places) run.same is.stands.placed)

  pub leaves_a_run : LeavesARun g h call
  leaves_a_run = record {
    run = run;
    listed = is.stands.listed;
    placed = is.stands.placed;
    opened = opened_kept h call.entries (quiet_leaves_labels call.entries is.quiet) desk.places call.desk.places is.leaves.fewer was.opened;
    paged = paged_kept g h call.entries desk.blocks.pages call.desk.blocks.pages (quiet_leaves_labels call.entries is.quiet) is.leaves.pages was.paged;
    counted = is.stands.counted;
    order = is.stands.order;
    size = is.leaves.size ∙ was.size;
    held = held_kept (cache_of g h).items true_after desk.places call.desk.places desk.blocks call.desk.blocks were is.leaves.fewer labelled is.leaves.keeps is.leaves.pages was.held;
    unwritten = unwritten_behind h call.entries was.unwritten is.quiet;
  }

pub stands_of : (g : Geometry) (h : List Entry) (c : Cache) (desk : Desk) → IsRunning g h c desk → Stands c.items desk
stands_of g h c desk is = record { listed = is.listed; placed = is.placed; counted = is.counted; order = is.order }
