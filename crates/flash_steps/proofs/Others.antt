-- What is under other keys than the one that a step is on.
use Rattle.std.proofs.Common.{ℕ, List}
use Rattle.std.specs.FinMap as map
use Rattle.flash_machine.specs.Item.{Item}
use Rattle.flash_machine.specs.Cache.{Items}
use Rattle.flash_steps.specs.Others.{OthersStay}
use Rattle.flash_index.proofs.Lookups.{put_else, cut_else}

pub others_inserted : (key : List ℕ) (item : Item) (items : Items) → OthersStay key items (map.insert items key item)
others_inserted key item items other differ = put_else items key item other differ

pub others_removed : (key : List ℕ) (items : Items) → OthersStay key items (map.remove items key)
others_removed key items other differ = cut_else items key other differ
