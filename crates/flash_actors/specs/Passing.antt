-- What a pass of a store's lock is known to be between two turns of the lock.
use Rattle.std.specs.Prelude.{◌≡◌, ◌<◌, List, Option}
use Rattle.std.specs.Option.{ForSome}
use Rattle.flash_names.specs.Shared.{own_of}
use Rattle.flash_names.specs.declared.geometry.Geometry.{Geometry}
use Rattle.flash_entry.specs.declared.entry.Entry.{Entry}
use Rattle.flash_machine.specs.Legal.{Legal}
use Rattle.flash_calls.specs.Store.{Store}
use Rattle.flash_core.specs.SharedStore.{told_of, geometry_of, told_pairs, own_steps}
use Rattle.flash_turn.specs.declared.pass.Pass.{Pass}
use Rattle.flash_turn.specs.declared.turn.Turn.{Turn}
use Rattle.flash_turn.specs.Passes.{IsPassOf, number_of, seen, left_own, fixed_of}

-- the journal that a pass has seen, where it is told
abbrev pub journal_seen : Pass Store → Option (List Entry)
journal_seen pass = seen told_of pass

-- the geometry that every pass of the lock knows
abbrev pub geometry_known : Turn Store → Geometry
geometry_known turn = fixed_of geometry_of turn

-- the pass is one of the lock and has a number above 0, it left the entries of its steps in what it has seen, and this
-- journal is a run
pub record IsReady (turn : Turn Store) (pass : Pass Store) : Type 0 where
  pub of : IsPassOf geometry_of turn pass
  pub numbered : 0 < number_of pass
  pub linked : left_own own_steps pass ≡ own_of (number_of pass) (told_pairs (journal_seen pass))
  pub legal : ForSome (journal_seen pass) (Legal (geometry_known turn))
