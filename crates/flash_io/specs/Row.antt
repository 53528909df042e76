-- What is kept of a ticket.
use Rattle.std.specs.Prelude.{◌≡◌, ℕ, Bool, true, false, List, length, Option, IsSomeAnd}
use Rattle.flash_names.specs.declared.place.Id.{Id}
use Rattle.flash_names.specs.declared.place.Place.{Place}
use Rattle.flash_entry.specs.declared.found.Head.{Head}
use Rattle.flash_io.specs.declared.row.State.{State}
use Rattle.flash_io.specs.declared.row.State.TheVariants.{Queued, Flying, Done, GivenUp}
use Rattle.flash_io.specs.States.{forgotten_state}

-- what it was submitted with, whether the memory for a second copy of the value is still there, and its state
pub record Row : Type 0 where
  pub id : Id
  pub key : List ℕ
  pub place : Place
  pub head : Head
  pub recache : Bool
  pub spare : Bool
  pub state : State

-- while a ticket is queued, the memory for its record is there
abbrev pub HasBytes : ℕ → Option (List ℕ) → State → Type 0
HasBytes size bytes Queued = IsSomeAnd bytes (λ some. length some ≡ size)
HasBytes size bytes (Flying reader awaited) = Unit {0}
HasBytes size bytes (Done closed) = Unit {0}
HasBytes size bytes GivenUp = Unit {0}

-- a ticket that has just been submitted
abbrev pub first_row : Id → List ℕ → Place → Head → Bool → Row
first_row id key place head recache = record {
  id = id;
  key = key;
  place = place;
  head = head;
  recache = recache;
  spare = recache;
  state = Queued;
}

-- a reader has taken its job
abbrev pub in_flight : ℕ → Row → Row
in_flight reader row = record row { state = Flying reader true }

-- its read has ended in this state
abbrev pub closed : State → Row → Row
closed state row = record row { spare = false; state = state }

-- its ticket was forgotten
abbrev pub forgotten : Row → Row
forgotten row = record row { state = forgotten_state row.state }

-- the memory for the second copy was taken
abbrev pub without_spare : Row → Row
without_spare row = record row { spare = false }
