use Rattle.std.proofs.Common.{◌≡◌, ℕ, List, IsTrue, is_some}
use Rattle.flash_core.specs.Sound.{IsNewTold}
use Rattle.flash_entry.specs.declared.found.Told.{Told}
use Rattle.flash_play.specs.Playing.{StoreState}
use Rattle.flash_seats.specs.Seats.{kept_of}
use Rattle.flash_seats.specs.Turns.{IsMidway, next_id}
use Rattle.flash_seats.proofs.seat.Seat.run.Given as goal

-- the turn is under way, from where it began
abbrev pub invariant-parts : goal.invariant-parts
invariant-parts g l = record {
  tells : IsTrue (is_some l.core.told);
  new : IsNewTold l.core.told (next_id l.self);
  geometry : l.core.geometry ≡ l.fn.core.geometry;
  going : (number : ℕ) (given : List ℕ) (final : StoreState × List Told) → IsMidway l.fn.core.geometry number given final (kept_of l.fn.core) l.fn.self
      → IsMidway l.core.geometry number given final (kept_of l.core) l.self;
}
