-- What a lookup leaves.
use Rattle.std.proofs.Common.{◌≡◌, ℕ, List, ◌∷◌, ◌++◌, Option, None, Some, refl, sym, ap, subst}
use Rattle.std.specs.FinMap as finite
use Rattle.flash_names.specs.declared.place.Id.{Id}
use Rattle.flash_entry.specs.declared.ask.Look.{Look}
use Rattle.flash_entry.specs.declared.entry.DropCause.{DropCause}
use Rattle.flash_entry.specs.declared.entry.Entry.{Entry}
use Rattle.flash_entry.specs.declared.entry.Entry.TheVariants as entries
use Rattle.flash_blocks.specs.BlockTable.{BlockTable}
use Rattle.flash_machine.specs.Item.{Item}
use Rattle.flash_machine.specs.Cache.{Cache}
use Rattle.flash_machine.specs.Looking.{residence_of, look_next}
use Rattle.flash_index.specs.IndexState.{IndexState}
use Rattle.flash_index.proofs.Lookups.{cut_here}
use Rattle.flash_calls.specs.Lookups as calls
use Rattle.flash_calls.specs.Lookups.{reading_of, look_after_sweep, look_call}
use Rattle.flash_calls.specs.Store.{Desk, Call}
use Rattle.flash_calls.specs.Sweeps.{sweep_step}
use Rattle.flash_calls.specs.declared.found.Found.{Found}
use Rattle.flash_core.specs.declared.numbers.Numbers.{Numbers}
use Rattle.flash_core.specs.declared.sought.Sought.{Sought}
use Rattle.flash_core.specs.declared.sought.Sought.TheVariants.{Absent, Leaving, Live}
use Rattle.flash_core.specs.Changes.{items_after_look, with_found, desk_after_look}
use Rattle.flash_core.specs.Desks.{desk_of}
use Rattle.flash_core.specs.Noting.{entries_of_sweep}
use Rattle.flash_core.specs.Numbers.{cache_of_items}
use Rattle.flash_core.specs.Sought.{IsSought, cause_sought, live_of}

module _ (s : IndexState) (t : BlockTable) (numbers : Numbers) (id : Id) (key : List ℕ) (look : Look) where
  abbrev first : Cache
  first = cache_of_items s.items numbers

  abbrev desk : Desk
  desk = desk_of s t

  -- what is noted after the sweep, by the live item
  abbrev looked : Cache → Desk → Option Item → List Entry
  looked c d live = entries.Looked id key look (residence_of live) ∷ (reading_of c d id key look live).entries

  -- what a lookup does, by what the code found under the key
  pub record LooksAs (sought : Sought) (call : Call Found) : Type 0 where
    pub answer_is : (reading_of first desk id key look (live_of sought (finite.get s.items key))).answer ≡ call.answer
    pub cache_is : cache_of_items (items_after_look look.renew numbers.moment key sought s.items) numbers ≡ call.cache
    pub desk_is : desk_after_look key sought desk ≡ call.desk
    pub entries_are : entries_of_sweep key (cause_sought sought) ++ looked first desk (live_of sought (finite.get s.items key)) ≡ call.entries

  abbrev after : Option DropCause → Call Found
  after cause = look_after_sweep (sweep_step first desk key cause) id key look

  found_by : (found : Option Item) (item : Item) → found ≡ Some item
      → cache_of_items (with_found look.renew numbers.moment key found s.items) numbers ≡ look_next first key look found
  found_by None item is = absurd (cc is)
  found_by (Some i) item is = refl

  desk_by : (found : Option Item) (item : Item) → found ≡ Some item → desk_after_look key (Live record { key = 0 }) desk ≡ calls.desk_after_look key found desk
  desk_by None item is = absurd (cc is)
  desk_by (Some i) item is = refl

  after_sought : (sought : Sought) → IsSought s t first key sought → LooksAs sought (after (cause_sought sought))
  after_sought Absent is =
      let none = is.absent refl in
      record {
        answer_is = ap (λ (l : Option Item). (reading_of first desk id key look l).answer) (sym none);
        cache_is = ap (look_next first key look) (sym none);
        desk_is = ap (λ (l : Option Item). calls.desk_after_look key l desk) (sym none);
        entries_are = ap (looked first desk) (sym none);
      }
  after_sought (Leaving i cause) is =
      let none = cut_here s.items key in
      let swept = sweep_step first desk key (Some cause) in
      record {
        answer_is = ap (λ (l : Option Item). (reading_of swept.cache swept.desk id key look l).answer) (sym none);
        cache_is = ap (look_next swept.cache key look) (sym none);
        desk_is = ap (λ (l : Option Item). calls.desk_after_look key l swept.desk) (sym none);
        entries_are = ap (λ (l : Option Item). entries_of_sweep key (Some cause) ++ looked swept.cache swept.desk l) (sym none);
      }
  after_sought (Live i) is =
      let there = is.there i refl in
      record {
        answer_is = refl;
        cache_is = found_by (finite.get s.items key) there.0 there.1;
        desk_is = desk_by (finite.get s.items key) there.0 there.1;
        entries_are = refl;
      }

  pub looks_as : (sought : Sought) → IsSought s t first key sought → LooksAs sought (look_call first desk id key look)
  looks_as sought is = subst (λ (d : Option DropCause). LooksAs sought (after d)) is.cause (after_sought sought is)
