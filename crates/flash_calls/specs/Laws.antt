-- What a store keeps goes on by each of its calls.
use Rattle.std.specs.Prelude.{◌≡◌, ℕ, ℤ, List, [], ◌++◌, Option}
use Rattle.flash_names.specs.declared.place.Id.{Id}
use Rattle.flash_names.specs.declared.geometry.Geometry.{Geometry}
use Rattle.flash_names.specs.Geometry.{Passes}
use Rattle.flash_entry.specs.declared.ask.Arith.{Arith}
use Rattle.flash_entry.specs.declared.ask.Look.{Look}
use Rattle.flash_entry.specs.declared.ask.Put.{Put}
use Rattle.flash_entry.specs.declared.entry.Entry.{Entry}
use Rattle.flash_pages.specs.declared.page_row.Bucket.{Bucket}
use Rattle.flash_machine.specs.Cache.{Cache, first_cache}
use Rattle.flash_machine.specs.Live.{live_item}
use Rattle.flash_machine.specs.NewSteps.{IsNew}
use Rattle.flash_machine.specs.Steps.{cache_of}
use Rattle.flash_calls.specs.Calls.{store_call, delete_call, sum_call, touch_call, flush_call, tally_call, clock_call}
use Rattle.flash_calls.specs.Lookups.{found_of, look_call}
use Rattle.flash_calls.specs.Moves.{move_call}
use Rattle.flash_calls.specs.Rooms.{room_call, reap_call, juggle_call}
use Rattle.flash_calls.specs.Running.{IsRunning, LeavesARun}
use Rattle.flash_calls.specs.Seals.{seal_call}
use Rattle.flash_calls.specs.Store.{Desk, first_desk}
use Rattle.flash_calls.specs.Sweeps.{sweep}

-- the empty journal runs, with the first heads and the first desk, where the geometry keeps its rules
abbrev pub TheFirstRun : Type 0
TheFirstRun = (g : Geometry) → Passes g → IsRunning g [] first_cache (first_desk g)

-- a run goes on by what a store does, where its number is new
abbrev pub EachStoreGoesOn : Type 0
EachStoreGoesOn =
    (g : Geometry) (c : Cache) (h : List Entry) (desk : Desk) (id : Id) (put : Put) → IsRunning g h c desk → IsNew h id
    → LeavesARun g h (store_call g c desk id put)

-- a run goes on by what a lookup does, where its number is new
abbrev pub EachLookupGoesOn : Type 0
EachLookupGoesOn =
    (g : Geometry) (c : Cache) (h : List Entry) (desk : Desk) (id : Id) (key : List ℕ) (look : Look)
    → IsRunning g h c desk → IsNew h id → LeavesARun g h (look_call c desk id key look)

-- a lookup tells of the item that is live under its key in the run's own cache after the sweep: a hit has that item's
-- value, whether it came from memory or from a write buffer
abbrev pub EachLookupTells : Type 0
EachLookupTells =
    (g : Geometry) (c : Cache) (h : List Entry) (desk : Desk) (id : Id) (key : List ℕ) (look : Look)
    → IsRunning g h c desk
    → let front = h ++ (sweep c desk key).entries in
    (look_call c desk id key look).answer ≡ found_of (cache_of g front) look (live_item front (cache_of g front) key)

-- a run goes on by what a delete does, where its number is new
abbrev pub EachDeleteGoesOn : Type 0
EachDeleteGoesOn =
    (g : Geometry) (c : Cache) (h : List Entry) (desk : Desk) (id : Id) (key : List ℕ) (compare : Option ℕ)
    → IsRunning g h c desk → IsNew h id → LeavesARun g h (delete_call c desk id key compare)

-- a run goes on by what arithmetic does, where its number is new
abbrev pub EachSumGoesOn : Type 0
EachSumGoesOn =
    (g : Geometry) (c : Cache) (h : List Entry) (desk : Desk) (id : Id) (ask : Arith) → IsRunning g h c desk
    → IsNew h id → LeavesARun g h (sum_call c desk id ask)

-- a run goes on by what a touch does, where its number is new
abbrev pub EachTouchGoesOn : Type 0
EachTouchGoesOn =
    (g : Geometry) (c : Cache) (h : List Entry) (desk : Desk) (id : Id) (key : List ℕ) (exptime : ℤ)
    → IsRunning g h c desk → IsNew h id → LeavesARun g h (touch_call c desk id key exptime)

-- a run goes on by what a flush does, where its number is new
abbrev pub EachFlushGoesOn : Type 0
EachFlushGoesOn =
    (g : Geometry) (c : Cache) (h : List Entry) (desk : Desk) (id : Id) (delay : ℤ) → IsRunning g h c desk → IsNew h id
    → LeavesARun g h (flush_call c desk id delay)

-- a run goes on by what telling the store's numbers does, where its number is new
abbrev pub EachTallyGoesOn : Type 0
EachTallyGoesOn =
    (g : Geometry) (c : Cache) (h : List Entry) (desk : Desk) (id : Id) → IsRunning g h c desk → IsNew h id
    → LeavesARun g h (tally_call c desk id)

-- a run goes on by what a reading of the clock does
abbrev pub EachClockGoesOn : Type 0
EachClockGoesOn =
    (g : Geometry) (c : Cache) (h : List Entry) (desk : Desk) (reading : ℕ) → IsRunning g h c desk
    → LeavesARun g h (clock_call c desk reading)

-- a run goes on by what making room does
abbrev pub EachRoomGoesOn : Type 0
EachRoomGoesOn =
    (g : Geometry) (c : Cache) (h : List Entry) (desk : Desk) → IsRunning g h c desk
    → LeavesARun g h (room_call g c desk)

-- a run goes on by what reaping does
abbrev pub EachReapingGoesOn : Type 0
EachReapingGoesOn =
    (g : Geometry) (c : Cache) (h : List Entry) (desk : Desk) → IsRunning g h c desk → LeavesARun g h (reap_call c desk)

-- a run goes on by what juggling does
abbrev pub EachJugglingGoesOn : Type 0
EachJugglingGoesOn =
    (g : Geometry) (c : Cache) (h : List Entry) (desk : Desk) → IsRunning g h c desk
    → LeavesARun g h (juggle_call g c desk)

-- a run goes on by what sealing a bucket's open block does
abbrev pub EachSealGoesOn : Type 0
EachSealGoesOn =
    (g : Geometry) (c : Cache) (h : List Entry) (desk : Desk) (bucket : Bucket) → IsRunning g h c desk
    → LeavesARun g h (seal_call c desk bucket)

-- a run goes on by what a move does
abbrev pub EachMoveGoesOn : Type 0
EachMoveGoesOn =
    (g : Geometry) (c : Cache) (h : List Entry) (desk : Desk) → IsRunning g h c desk
    → LeavesARun g h (move_call g c desk)
