use Rattle.std.proofs.Common.{◌≡◌, ℕ, IsTrue, is_some}
use Rattle.flash_core.specs.Sound.{IsNewTold}
use Rattle.flash_play.specs.Playing as play
use Rattle.flash_seats.specs.Seats.{kept_of, IsSeat}
use Rattle.flash_seats.specs.Turns.{next_id}
use Rattle.flash_seats.proofs.seat.Seat.turn.Given as goal

-- the session was fed, and nothing else was done
abbrev pub invariant-parts : goal.invariant-parts
invariant-parts g l = record {
  tells : IsTrue (is_some l.core.told);
  new : IsNewTold l.core.told (next_id l.self);
  geometry : l.core.geometry ≡ l.fn.core.geometry;
  still : (number : ℕ) (seat : play.Seat) → IsSeat l.fn.core.geometry.item_max number seat l.fn.self
      → (kept_of l.core ≡ kept_of l.fn.core) × IsSeat l.core.geometry.item_max number seat l.self;
}
