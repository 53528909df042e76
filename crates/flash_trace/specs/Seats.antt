-- The state of a trace as a play has it.
use Rattle.std.specs.Prelude.{◌≡◌, ℕ, ◌+◌, List, [], ◌∷◌, ◌++◌, length, map, Option, None, Some, IsTrue, is_some, codes, decimal}
use Rattle.std.specs.Option.{option_map}
use Rattle.flash_calls.specs.Store.{Store}
use Rattle.flash_play.specs.Numbers.{IsNumbered}
use Rattle.flash_play.specs.Playing.{Seat, Play}
use Rattle.flash_seats.specs.declared.seat.Seat as code
use Rattle.flash_seats.specs.declared.seat.Turn.{Turn}
use Rattle.flash_seats.specs.declared.seat.Turn.TheVariants.{Taken, Idle, Closed}
use Rattle.flash_seats.specs.Seats.{kept_of, IsSeat}
use Rattle.flash_trace.specs.declared.play.Play as code_play

-- where one is made, the other is, and they are the same
abbrev pub IsMade : ℕ → ℕ → Option Seat → Option code.Seat → Type 0
IsMade item_max number None None = Unit {0}
IsMade item_max number None (Some code) = ⊥
IsMade item_max number (Some seat) None = ⊥
IsMade item_max number (Some seat) (Some code) = IsSeat item_max number seat code

-- the sessions from this number on
abbrev pub AreSeats : ℕ → ℕ → List (Option Seat) → List (Option code.Seat) → Type 0
AreSeats item_max number [] [] = Unit {0}
AreSeats item_max number [] (code ∷ codes) = ⊥
AreSeats item_max number (seat ∷ seats) [] = ⊥
AreSeats item_max number (seat ∷ seats) (code ∷ codes) =
    IsMade item_max number seat code × AreSeats item_max (number + 1) seats codes

-- the code's trace is the play
pub record IsPlay (play : Play) (s : Store) (p : code_play.Play) : Type 0 where
  pub kept : play.kept ≡ kept_of s
  pub printed : play.printed ≡ p.printed.items
  pub sixteen : length play.seats ≡ 16
  pub seats : AreSeats s.geometry.item_max 1 play.seats p.seats.items

-- a trace that goes on: the journal tells its entries, there are places for sixteen sessions, and it is a play in which
-- no session's next number was given
pub record TraceGoesOn (s : Store) (p : code_play.Play) : Type 0 where
  pub tells : IsTrue (is_some s.told)
  pub places : length p.seats.items ≡ 16
  pub play : Play
  pub is : IsPlay play s p
  pub numbered : IsNumbered play

-- what was printed, with the line of a session's turn where there was none
abbrev pub with_turn_line : List ℕ → ℕ → Turn → List ℕ
with_turn_line printed line Taken = printed
with_turn_line printed line Idle = printed ++ codes "idle" ++ 32 ∷ decimal line ++ 10 ∷ []
with_turn_line printed line Closed = printed ++ codes "closed" ++ 32 ∷ decimal line ++ 10 ∷ []

-- what the sessions were answered, as far as they are made
abbrev pub shown : List (Option code.Seat) → List (Option (List ℕ))
shown seats = map (option_map (λ seat. seat.replies.items)) seats
