use Rattle.std.proofs.Common.{◌≡◌, List, ℕ}
use Rattle.std.specs.Option.{option_copied, option_map}
use Rattle.std.specs.List.{find}
use Rattle.flash_names.specs.declared.geometry.Geometry.{Geometry}
use Rattle.flash_entry.specs.declared.entry.Entry.{Entry}
use Rattle.flash_machine.specs.Item.{Item}
use Rattle.flash_machine.specs.Cache.{Cache}
use Rattle.flash_machine.specs.Live.{is_live, next_live_key}
use Rattle.flash_machine.specs.Followed.{FollowsCache, FollowsPages}
use Rattle.flash_machine.proofs.machine.cache_table.CacheTable.next_live.Given as goal

-- the first live item behind the key is among those that are left
abbrev pub invariant-items : goal.invariant-items
invariant-items l = (g : Geometry) (h : List Entry) (c : Cache) → FollowsPages l.pages g h → FollowsCache l.self c
    → next_live_key h c (option_copied l.after) ≡ option_map (λ (entry : List ℕ × Item). entry.0) (find (λ (entry : List ℕ × Item). is_live h c entry.1) l.key-iterator)
