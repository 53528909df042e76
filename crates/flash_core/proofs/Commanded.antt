-- What a command leaves, by what the code did with the key's item.
use Rattle.std.proofs.Common.{◌≡◌, ℕ, ℤ, Bool, true, false, List, [], ◌∷◌, ◌++◌, Option, None, Some, refl, sym, ◌∙◌, ap, subst}
use Rattle.std.specs.FinMap as finite
use Rattle.flash_names.specs.declared.place.Id.{Id}
use Rattle.flash_names.specs.declared.place.ItemId.{ItemId}
use Rattle.flash_entry.specs.declared.ask.Arith.{Arith}
use Rattle.flash_entry.specs.declared.answer.Gone.{Gone}
use Rattle.flash_entry.specs.declared.answer.Gone.TheVariants as gone
use Rattle.flash_entry.specs.declared.answer.Touched.{Touched}
use Rattle.flash_entry.specs.declared.entry.DropCause.{DropCause}
use Rattle.flash_entry.specs.declared.entry.Entry.{Entry}
use Rattle.flash_entry.specs.declared.entry.Entry.TheVariants as entries
use Rattle.flash_items.specs.declared.item.Item as code
use Rattle.flash_blocks.specs.BlockTable.{BlockTable}
use Rattle.flash_machine.specs.Item.{Item}
use Rattle.flash_machine.specs.Cache.{Cache, Items}
use Rattle.flash_machine.specs.Moments.{deadline}
use Rattle.flash_machine.specs.Deleting.{compare_fails, delete_step}
use Rattle.flash_machine.specs.Summing.{sum_step}
use Rattle.flash_machine.specs.Touching.{touch_step}
use Rattle.flash_index.specs.IndexState.{IndexState}
use Rattle.flash_index.specs.Known.{known_item}
use Rattle.flash_calls.specs.Calls.{Command, command_after_sweep, command_call, delete_command, sum_command, touch_command}
use Rattle.flash_calls.specs.Changes.{desk_after}
use Rattle.flash_calls.specs.Store.{Desk, Call}
use Rattle.flash_calls.specs.Sweeps.{sweep_step}
use Rattle.flash_core.specs.declared.arith.SumChoice.{SumChoice}
use Rattle.flash_core.specs.declared.numbers.Numbers.{Numbers}
use Rattle.flash_core.specs.declared.sought.Sought.{Sought}
use Rattle.flash_core.specs.declared.sought.Sought.TheVariants.{Absent, Leaving, Live}
use Rattle.flash_core.specs.Changes.{swept_items, swept_desk, items_after_store, desk_after_store, is_going, items_if_going, desk_if_going, items_after_touch}
use Rattle.flash_core.specs.Counting.{IsChosen}
use Rattle.flash_core.specs.Desks.{desk_of}
use Rattle.flash_core.specs.Noting.{entries_of_sweep}
use Rattle.flash_core.specs.Numbers.{cache_of_items}
use Rattle.flash_core.specs.Sought.{IsSought, id_sought, cause_sought, live_of}
use Rattle.flash_core.proofs.Maps.{insert-removed}
use Rattle.flash_core.proofs.Swept.{live_swept, swept_cache, cache_swept, desk_swept, entries_swept}
use Rattle.flash_core.proofs.Twice.{stored-swept}

-- the numbers with another last CAS number
abbrev pub numbered : Numbers → ℕ → Numbers
numbered numbers last = record numbers { last_cas = last }

module _ (items : Items) (numbers : Numbers) (desk : Desk) (key : List ℕ) where
  abbrev before : Cache
  before = cache_of_items items numbers

  module _ {A : Type 0} (command : Command A) where
    -- the code did the command's step, with the live item that it found after the sweep
    pub record Does (cause : Option DropCause) (live : Option Item) (answer : A) (cache : Cache) (after : Desk) : Type 0 where
      pub answer_is : answer ≡ (command.step (swept_cache items numbers desk key cause) live).0
      pub cache_is : cache ≡ (command.step (swept_cache items numbers desk key cause) live).1
      pub desk_is : after ≡ desk_after (command.change answer) key (finite.get cache.items key) (swept_desk cause key desk)

    -- it did the call
    pub record IsCall (id : Id) (cause : Option DropCause) (answer : A) (cache : Cache) (after : Desk) (call : Call A) : Type 0 where
      pub answer_is : answer ≡ call.answer
      pub cache_is : cache ≡ call.cache
      pub desk_is : after ≡ call.desk
      pub entries_are : entries_of_sweep key cause ++ entries.Did id (command.deed answer) ∷ [] ≡ call.entries

    -- a call that goes on from what a sweep left
    abbrev from_sweep : Id → Call Bool → Call A
    from_sweep id swept = command_after_sweep command swept id key

    -- what the sweep left
    abbrev swept_call : Option DropCause → Call Bool
    swept_call cause = record {
      entries = entries_of_sweep key cause;
      cache = swept_cache items numbers desk key cause;
      desk = swept_desk cause key desk;
      answer = (sweep_step before desk key cause).answer;
    }

    swept_is : (cause : Option DropCause) → swept_call cause ≡ sweep_step before desk key cause
    swept_is cause = λ j. record {
      entries = sym (entries_swept items numbers desk key cause) j;
      cache = sym (cache_swept items numbers desk key cause) j;
      desk = sym (desk_swept items numbers desk key cause) j;
      answer = (sweep_step before desk key cause).answer;
    }

    did_after : (id : Id) (cause : Option DropCause) (live : Option Item) (answer : A) (cache : Cache) (after : Desk) → live ≡ finite.get (swept_items cause key items) key
        → Does cause live answer cache after → IsCall id cause answer cache after (from_sweep id (swept_call cause))
    did_after id cause live answer cache after at does =
        let swept = swept_call cause in
        let answered : answer ≡ (from_sweep id swept).answer = does.answer_is ∙ ap (λ (l : Option Item). (command.step swept.cache l).0) at in
        let made : cache ≡ (from_sweep id swept).cache = does.cache_is ∙ ap (λ (l : Option Item). (command.step swept.cache l).1) at in
        record {
          answer_is = answered;
          cache_is = made;
          desk_is = does.desk_is
              ∙ ap (λ (a : A). desk_after (command.change a) key (finite.get cache.items key) swept.desk) answered
              ∙ ap (λ (k : Cache). desk_after (command.change (from_sweep id swept).answer) key (finite.get k.items key) swept.desk) made;
          entries_are = ap (λ (a : A). entries_of_sweep key cause ++ entries.Did id (command.deed a) ∷ []) answered;
        }

module _ {A : Type 0} (command : Command A) (s : IndexState) (t : BlockTable) (numbers : Numbers) (key : List ℕ) where
  -- a command that the code did is the call
  pub is_call : (id : Id) (sought : Sought) (answer : A) (cache : Cache) (after : Desk) → IsSought s t (cache_of_items s.items numbers) key sought
      → Does s.items numbers (desk_of s t) key command (cause_sought sought) (live_of sought (finite.get s.items key)) answer cache after
      → IsCall s.items numbers (desk_of s t) key command id (cause_sought sought) answer cache after (command_call command (cache_of_items s.items numbers) (desk_of s t) id key)
  is_call id sought answer cache after is does =
      let items = s.items in
      let desk = desk_of s t in
      let cause = cause_sought sought in
      subst (λ (d : Option DropCause). IsCall items numbers desk key command id cause answer cache after (from_sweep items numbers desk key command id (sweep_step (cache_of_items items numbers) desk key d))) is.cause
      (subst (λ (swept : Call Bool). IsCall items numbers desk key command id cause answer cache after (from_sweep items numbers desk key command id swept)) (swept_is items numbers desk key command cause)
      (did_after items numbers desk key command id cause (live_of sought (finite.get items key)) answer cache after
      (live_swept s t (cache_of_items items numbers) key sought is) does))

module _ (items : Items) (numbers : Numbers) (desk : Desk) (key : List ℕ) where
  -- a delete
  module _ (compare : Option ℕ) where
    abbrev Deletes : Sought → Option Item → Gone → Type 0
    Deletes sought live answer =
        Does items numbers desk key (delete_command key compare) (cause_sought sought) live answer (cache_of_items (items_if_going (is_going sought answer) key items) numbers)
        (desk_if_going (is_going sought answer) key desk)

    -- a live item, whose CAS number isn't the one asked for, or is
    deletes_live : (id : ItemId) (item : Item) (fails : Bool) → compare_fails compare item.cas ≡ fails → (answer : Gone)
        → answer ≡ (delete_step (swept_cache items numbers desk key None) key compare (Some item)).0 → Deletes (Live id) (Some item) answer
    deletes_live id item true is answer answered =
        let exists : answer ≡ gone.Exists = answered ∙ rw is refl in
        subst (Deletes (Live id) (Some item)) (sym exists) (record { answer_is = rw is refl; cache_is = rw is refl; desk_is = refl })
    deletes_live id item false is answer answered =
        let deleted : answer ≡ gone.Deleted = answered ∙ rw is refl in
        subst (Deletes (Live id) (Some item)) (sym deleted) (record { answer_is = rw is refl; cache_is = rw is refl; desk_is = refl })

    pub deletes : (sought : Sought) (found : Option Item) → ((id : ItemId) → id_sought sought ≡ Some id → (item : Item) × (found ≡ Some item)) → (answer : Gone)
        → answer ≡ (delete_step (swept_cache items numbers desk key (cause_sought sought)) key compare (live_of sought found)).0 → Deletes sought (live_of sought found) answer
    deletes Absent found there answer answered = subst (Deletes Absent None) (sym answered) (record { answer_is = refl; cache_is = refl; desk_is = refl })
    deletes (Leaving id cause) found there answer answered = subst (Deletes (Leaving id cause) None) (sym answered) (record { answer_is = refl; cache_is = refl; desk_is = refl })
    deletes (Live id) None there answer answered = absurd (cc (there id refl).1)
    deletes (Live id) (Some item) there answer answered = deletes_live id item (compare_fails compare item.cas) refl answer answered

  -- a touch
  module _ (exptime : ℤ) where
    -- an item, whichever it is
    nothing : Item
    nothing = record { value = []; flags = 0; cas = 0; deadline = None; fetched = false; access = 0; label = None }

    pub touches : (sought : Sought) (found : Option Item) → finite.get items key ≡ found → ((id : ItemId) → id_sought sought ≡ Some id → (item : Item) × (found ≡ Some item)) → (answer : Touched)
        → ((item : Item) → answer ≡ (touch_step (swept_cache items numbers desk key (cause_sought sought)) key exptime (live_of sought (Some item))).0)
        → Does items numbers desk key (touch_command key exptime) (cause_sought sought) (live_of sought found) answer
        (cache_of_items (items_after_touch (deadline exptime numbers.moment) key sought items) numbers) (swept_desk (cause_sought sought) key desk)
    touches Absent found at there answer answered = record { answer_is = answered nothing; cache_is = refl; desk_is = refl }
    touches (Leaving id cause) found at there answer answered = record { answer_is = answered nothing; cache_is = refl; desk_is = refl }
    touches (Live id) None at there answer answered = absurd (cc (there id refl).1)
    touches (Live id) (Some item) at there answer answered = record { answer_is = answered item; cache_is = rw at refl; desk_is = refl }

  -- arithmetic
  pub stored_items : (cause : Option DropCause) (item : Option code.Item) → items_after_store key cause item items ≡ items_after_store key None item (swept_items cause key items)
  stored_items (Some cause) None = refl
  stored_items None None = refl
  stored_items (Some cause) (Some item) = sym (insert-removed items key (known_item item))
  stored_items None (Some item) = refl

  pub stored_desk : (cause : Option DropCause) (item : Option code.Item) → desk_after_store key cause item desk ≡ desk_after_store key None item (swept_desk cause key desk)
  stored_desk (Some cause) None = refl
  stored_desk None None = refl
  stored_desk cause (Some item) = sym (stored-swept key (known_item item) cause desk)

  pub sums : (ask : Arith) (cause : Option DropCause) (live : Option Item) (choice : SumChoice) → key ≡ ask.key
      → IsChosen (swept_cache items numbers desk key cause) key (sum_step (swept_cache items numbers desk key cause) ask live) choice
      → Does items numbers desk key (sum_command ask) cause live choice.answer (cache_of_items (items_after_store key cause choice.item items) (numbered numbers choice.last_cas))
      (desk_after_store key cause choice.item desk)
  sums ask cause live choice same chosen =
      let command = sum_command ask in
      let made : cache_of_items (items_after_store key cause choice.item items) (numbered numbers choice.last_cas) ≡ (sum_step (swept_cache items numbers desk key cause) ask live).1 =
      ap (λ (m : Items). cache_of_items m (numbered numbers choice.last_cas)) (stored_items cause choice.item) ∙ chosen.cache_is in
      record {
        answer_is = chosen.answer_is;
        cache_is = made;
        desk_is = stored_desk cause choice.item ∙ chosen.desk_is (swept_desk cause key desk)
            ∙ ap (λ (k : Cache). desk_after (command.change choice.answer) key (finite.get k.items key) (swept_desk cause key desk)) (sym made);
      }
