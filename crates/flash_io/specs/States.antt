-- The states of a ticket, as tests.
use Rattle.std.specs.Prelude.{Bool, true, false, not, ◌&&◌, nat_eq}
use Rattle.flash_names.specs.declared.place.Id.{Id}
use Rattle.flash_io.specs.declared.row.State.{State}
use Rattle.flash_io.specs.declared.row.State.TheVariants.{Queued, Flying, Done, GivenUp}

-- the same step of the same pass
abbrev pub same_id : Id → Id → Bool
same_id one other = nat_eq one.pass other.pass && nat_eq one.seq other.seq

-- it waits in the queue
abbrev pub is_queued : State → Bool
is_queued Queued = true
is_queued (Flying reader awaited) = false
is_queued (Done closed) = false
is_queued GivenUp = false

-- a reader has its job
abbrev pub is_flying : State → Bool
is_flying Queued = false
is_flying (Flying reader awaited) = true
is_flying (Done closed) = false
is_flying GivenUp = false

-- a reader has its job, and its ticket was forgotten
abbrev pub is_forgotten : State → Bool
is_forgotten Queued = false
is_forgotten (Flying reader awaited) = not awaited
is_forgotten (Done closed) = false
is_forgotten GivenUp = false

-- its read has ended
abbrev pub is_over : State → Bool
is_over Queued = false
is_over (Flying reader awaited) = false
is_over (Done closed) = true
is_over GivenUp = true

-- its ticket is with its owner, and was neither collected nor forgotten
abbrev pub is_open : State → Bool
is_open state = not (is_forgotten state)

-- the state once its ticket was forgotten
abbrev pub forgotten_state : State → State
forgotten_state Queued = Queued
forgotten_state (Flying reader awaited) = Flying reader false
forgotten_state (Done closed) = Done closed
forgotten_state GivenUp = GivenUp
