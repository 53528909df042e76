-- When a pass may be handed to another thread. These say what `IsPassOf` says, in equations alone.
use Rattle.std.specs.Prelude.{◌≡◌, false, [], ◌∷◌, drop, length, Some, option_map, is_some}
use Rattle.flash_calls.specs.Store.{Store}
use Rattle.flash_core.specs.SharedStore.{geometry_of, own_steps}
use Rattle.flash_turn.specs.declared.pass.Pass.{Pass}
use Rattle.flash_turn.specs.declared.turn.Turn.{Turn}
use Rattle.flash_turn.specs.Passes.{view_of, left_own, fixed_of}

-- the pass is one of this lock, and has no value out and no ticket
abbrev pub IsReady : Turn Store → Pass Store → Type 0
IsReady turn pass =
    (pass.seat.table_id ≡ turn.table.shared.table_id)
    × (pass.seat.me.1 ≡ [])
    × ((view_of pass).numbers ≡ pass.number ∷ drop 1 (view_of pass).numbers)
    × (is_some (view_of pass).pending ≡ false)
    × ((view_of pass).over ≡ false)
    × (is_some (view_of pass).ticket ≡ false)
    × ((view_of pass).has ≡ false)
    × (is_some (view_of pass).met ≡ false)
    × (option_map geometry_of (view_of pass).seen ≡ Some (fixed_of geometry_of turn))

-- it has left nothing of its own
abbrev pub IsUnused : Pass Store → Type 0
IsUnused pass = length (left_own own_steps pass) ≡ 0
