-- What is under a key, as the sweep of the key sees it, and what the sweep leaves.
use Rattle.std.proofs.Common.{◌≡◌, ℕ, List, Option, None, Some, refl, sym}
use Rattle.std.specs.FinMap as finite
use Rattle.flash_entry.specs.declared.entry.DropCause.{DropCause}
use Rattle.flash_blocks.specs.BlockTable.{BlockTable}
use Rattle.flash_machine.specs.Item.{Item}
use Rattle.flash_machine.specs.Cache.{Cache, Items}
use Rattle.flash_index.specs.IndexState.{IndexState}
use Rattle.flash_calls.specs.Store.{Desk, Call}
use Rattle.flash_calls.specs.Sweeps.{sweep_step}
use Rattle.flash_core.specs.declared.numbers.Numbers.{Numbers}
use Rattle.flash_core.specs.declared.sought.Sought.{Sought}
use Rattle.flash_core.specs.declared.sought.Sought.TheVariants.{Absent, Leaving, Live}
use Rattle.flash_core.specs.Changes.{swept_items, swept_desk}
use Rattle.flash_core.specs.Noting.{entries_of_sweep}
use Rattle.flash_core.specs.Numbers.{cache_of_items}
use Rattle.flash_core.specs.Sought.{IsSought, cause_sought, live_of}
use Rattle.flash_index.proofs.Lookups.{cut_here}

-- the live item is what is there after the sweep
pub live_swept : (s : IndexState) (t : BlockTable) (c : Cache) (key : List ℕ) (sought : Sought) → IsSought s t c key sought
    → live_of sought (finite.get c.items key) ≡ finite.get (swept_items (cause_sought sought) key c.items) key
live_swept s t c key Absent is = sym (is.absent refl)
live_swept s t c key (Leaving id cause) is = sym (cut_here c.items key)
live_swept s t c key (Live id) is = refl

-- what a sweep leaves, by its cause
module _ (items : Items) (numbers : Numbers) (desk : Desk) (key : List ℕ) where
  abbrev pub swept_cache : Option DropCause → Cache
  swept_cache cause = cache_of_items (swept_items cause key items) numbers

  pub cache_swept : (cause : Option DropCause) → (sweep_step (cache_of_items items numbers) desk key cause).cache ≡ swept_cache cause
  cache_swept None = refl
  cache_swept (Some cause) = refl

  pub desk_swept : (cause : Option DropCause) → (sweep_step (cache_of_items items numbers) desk key cause).desk ≡ swept_desk cause key desk
  desk_swept None = refl
  desk_swept (Some cause) = refl

  pub entries_swept : (cause : Option DropCause) → (sweep_step (cache_of_items items numbers) desk key cause).entries ≡ entries_of_sweep key cause
  entries_swept None = refl
  entries_swept (Some cause) = refl
