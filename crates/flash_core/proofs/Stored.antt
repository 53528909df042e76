-- What a store leaves, by its choice.
use Rattle.std.proofs.Common.{◌≡◌, ℕ, ◌+◌, List, Option, None, Some, refl, sym, ◌∙◌, ap}
use Rattle.std.specs.Prelude.{unwrap_or}
use Rattle.std.specs.Option.{option_map}
use Rattle.std.specs.FinMap as finite
use Rattle.flash_names.specs.declared.geometry.Geometry.{Geometry}
use Rattle.flash_entry.specs.declared.ask.Put.{Put}
use Rattle.flash_entry.specs.declared.answer.Stored.{Stored}
use Rattle.flash_entry.specs.declared.answer.Stored.TheVariants as answers
use Rattle.flash_entry.specs.declared.entry.DropCause.{DropCause}
use Rattle.flash_items.specs.declared.item.Item as code
use Rattle.flash_machine.specs.Item.{Item}
use Rattle.flash_machine.specs.Cache.{Cache, Items}
use Rattle.flash_machine.specs.Storing.{refusal, stored_item, store_outcome}
use Rattle.flash_index.specs.Known.{known_item}
use Rattle.flash_index.proofs.Lookups.{put_here}
use Rattle.flash_calls.specs.Calls.{store_command, change_of_store}
use Rattle.flash_calls.specs.Changes.{Change, leaves as left, desk_after, with_stored}
use Rattle.flash_calls.specs.Store.{Desk}
use Rattle.flash_calls.proofs.Commanding.{IsRefusal, refused}
use Rattle.flash_core.specs.declared.numbers.Numbers.{Numbers}
use Rattle.flash_core.specs.Changes.{swept_items, swept_desk, items_after_store, desk_after_store}
use Rattle.flash_core.specs.Choice.{ChoiceParts, choice_from, pair_of}
use Rattle.flash_core.specs.Numbers.{cache_of_items}
use Rattle.flash_core.proofs.Commanded.{numbered, Does, stored_items, stored_desk}

abbrev Chose : Option Stored → ℕ → List ℕ → Item → Stored → Option code.Item → ℕ → Type 0
Chose r last key new answer item last2 = ◌≡◌ {A = ChoiceParts} (answer, (option_map pair_of item, last2)) (choice_from r last (key, new))

-- what a store leaves of a cache and a desk, as its refusal or its item says
module _ (items : Items) (numbers : Numbers) (key : List ℕ) where
  record Leaves (r : Option Stored) (new : Item) (desk : Desk) (answer : Stored) (item : Option code.Item) (last2 : ℕ) : Type 0 where
    answer_is : answer ≡ (store_outcome r (cache_of_items items numbers) key new).0
    cache_is : cache_of_items (items_after_store key None item items) (numbered numbers last2) ≡ (store_outcome r (cache_of_items items numbers) key new).1
    desk_is : desk_after_store key None item desk
        ≡ desk_after (change_of_store answer) key (finite.get (items_after_store key None item items) key) desk

  leaves_item : (new : Item) (desk : Desk) (answer : Stored) (i : code.Item) (last2 : ℕ) → known_item i ≡ new → last2 ≡ numbers.last_cas + 1 → answer ≡ answers.Stored (numbers.last_cas + 1)
      → Leaves None new desk answer (Some i) last2
  leaves_item new desk answer i last2 same number answered = record {
    answer_is = answered;
    cache_is = λ j. cache_of_items (finite.insert items key (same j)) (numbered numbers (number j));
    desk_is = ap (λ (found : Option Item). with_stored key found desk) (sym (put_here items key (known_item i)))
        ∙ ap (λ (a : Stored). desk_after (change_of_store a) key (finite.get (finite.insert items key (known_item i)) key) desk) (sym answered);
  }

  leaves_refused : (s : Stored) (new : Item) (desk : Desk) (answer : Stored) (last2 : ℕ) → change_of_store s ≡ left → answer ≡ s → last2 ≡ numbers.last_cas → Leaves (Some s) new desk answer None last2
  leaves_refused s new desk answer last2 refused answered number = record {
    answer_is = answered;
    cache_is = λ j. cache_of_items items (numbered numbers (number j));
    desk_is = ap (λ (kind : Change). desk_after kind key (finite.get items key) desk) (sym refused ∙ ap change_of_store (sym answered));
  }

  leaves : (r : Option Stored) (new : Item) (desk : Desk) (answer : Stored) (item : Option code.Item) (last2 : ℕ) → IsRefusal r → Chose r numbers.last_cas key new answer item last2
      → Leaves r new desk answer item last2
  leaves None new desk answer (Some i) last2 refused is =
      leaves_item new desk answer i last2 (ap (λ (t : ChoiceParts). (unwrap_or t.1.0 (key, new)).1) is) (ap (λ (t : ChoiceParts). t.1.1) is) (ap (λ (t : ChoiceParts). t.0) is)
  leaves None new desk answer None last2 refused is = absurd (cc (ap (λ (t : ChoiceParts). t.1.0) is))
  leaves (Some s) new desk answer None last2 refused is = leaves_refused s new desk answer last2 refused (ap (λ (t : ChoiceParts). t.0) is) (ap (λ (t : ChoiceParts). t.1.1) is)
  leaves (Some s) new desk answer (Some i) last2 refused is = absurd (cc (ap (λ (t : ChoiceParts). t.1.0) is))

-- the code did the store's step
module _ (g : Geometry) (items : Items) (numbers : Numbers) (desk : Desk) (put : Put) where
  abbrev before : Cache
  before = cache_of_items items numbers

  -- a choice is by the last CAS number and the moment alone, which a sweep leaves
  pub stores : (cause : Option DropCause) (live : Option Item) (answer : Stored) (item : Option code.Item) (last2 : ℕ)
      → Chose (refusal g before put live) numbers.last_cas put.key (stored_item before put put.mode live) answer item last2
      → Does items numbers desk put.key (store_command g put) cause live answer (cache_of_items (items_after_store put.key cause item items) (numbered numbers last2)) (desk_after_store put.key cause item desk)
  stores cause live answer item last2 chose =
      let key = put.key in
      let left = leaves (swept_items cause key items) numbers key (refusal g before put live) (stored_item before put put.mode live) (swept_desk cause key desk) answer item last2
      (refused g before put live) chose in
      let same : items_after_store key cause item items ≡ items_after_store key None item (swept_items cause key items) = stored_items items numbers desk key cause item in
      record {
        answer_is = left.answer_is;
        cache_is = ap (λ (m : Items). cache_of_items m (numbered numbers last2)) same ∙ left.cache_is;
        desk_is = stored_desk items numbers desk key cause item ∙ left.desk_is
            ∙ ap (λ (m : Items). desk_after (change_of_store answer) key (finite.get m key) (swept_desk cause key desk)) (sym same);
      }
