-- Which items are live, by the heads of a cache.
use Rattle.std.specs.Prelude.{◌≡◌, ℕ, List, Option}
use Rattle.std.specs.Option.{option_map}
use Rattle.flash_entry.specs.declared.entry.Entry.{Entry}
use Rattle.flash_machine.specs.Item.{Item}
use Rattle.flash_machine.specs.Cache.{Cache}
use Rattle.flash_machine.specs.Live.{is_expired_item, is_live, live_item, next_live_key}
use Rattle.flash_heads.specs.Heads.{hidden, heads}

-- an item is dead by the heads where it is, and live by them where it is
pub record LivesAlike (h : List Entry) (c : Cache) (item : Item) : Type 0 where
  pub dead : is_expired_item (heads c) (hidden item) ≡ is_expired_item c item
  pub live : is_live h (heads c) (hidden item) ≡ is_live h c item

-- each item lives by the heads as it does
abbrev pub EachItemLivesAlike : Type 0
EachItemLivesAlike = (h : List Entry) (c : Cache) (item : Item) → LivesAlike h c item

-- the live item under a key by the heads is the hidden one
abbrev pub EachLiveItemIsHidden : Type 0
EachLiveItemIsHidden =
    (h : List Entry) (c : Cache) (key : List ℕ) → live_item h (heads c) key ≡ option_map hidden (live_item h c key)

-- the keys of live items come in the same order
abbrev pub TheNextLiveKeyIsTheSame : Type 0
TheNextLiveKeyIsTheSame =
    (h : List Entry) (c : Cache) (after : Option (List ℕ)) → next_live_key h (heads c) after ≡ next_live_key h c after
