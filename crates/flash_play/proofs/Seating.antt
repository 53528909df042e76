-- The sessions by their numbers, as steps put them in their places.
use Rattle.std.proofs.Common.{◌≡◌, ◌≢◌, ℕ, ◌-◌, Bool, List, [], ◌∷◌, ◌++◌, length, Option, None, refl, ◌∙◌, ap, arith, length-set, zero, suc}
use Rattle.std.specs.Prelude.{slice_get, codes, replicate}
use Rattle.std.proofs.lemmas.Bool.{cond_both}
use Rattle.flash_names.specs.declared.geometry.Geometry.{Geometry}
use Rattle.flash_calls.specs.Store.{Call}
use Rattle.flash_play.specs.Playing.{Seat, Play, Need, Writes, Does, Ends, Rests, need_of, turn_by, new_seat, after_call, seat_at, seat_or_new, with_seat, with_line, seat_with_more, feed, called, play_step, upkeep_call}
use Rattle.flash_calls.specs.Calls.{clock_call}
use Rattle.flash_script.specs.Steps.{Step, Clock, Say, Feed, Turn, Run, Keep, IsSession}
use Rattle.flash_play.proofs.Lists.{get-set_same, get-set_other}

-- the same places have the same sessions
pub seat_is : (p p2 : Play) (session : ℕ) → p2.seats ≡ p.seats → seat_at p2 session ≡ seat_at p session
seat_is p p2 session seats = ap (λ (l : List (Option Seat)). seat_or_new (slice_get l (session - 1))) seats

-- where one was put in its place, it is there, and each other where it was
module _ (p p2 : Play) (session : ℕ) (seat : Seat) (sixteen : length p.seats ≡ 16) (is : IsSession session) (seats : p2.seats ≡ (with_seat p session seat).seats) where
  pub seat_same : seat_at p2 session ≡ seat
  seat_same = seat_is (with_seat p session seat) p2 session seats ∙ ap seat_or_new (get-set_same p.seats (session - 1) _ (omega (arith, is.some, is.within, sixteen)))

  pub seat_other : (other : ℕ) → IsSession other → other ≢ session → seat_at p2 other ≡ seat_at p other
  seat_other other is_other differ =
      seat_is (with_seat p session seat) p2 other seats
      ∙ ap seat_or_new (get-set_other p.seats (session - 1) (other - 1) _ (λ same. differ (omega (arith, is.some, is_other.some))))

-- a session in its place leaves as many places
seats_with : (p : Play) (session : ℕ) (seat : Seat) → length p.seats ≡ 16 → length (with_seat p session seat).seats ≡ 16
seats_with p session seat sixteen = length-set p.seats (session - 1) _ ∙ sixteen

-- a call that no session makes leaves the sessions, and changes the store
module _ (p : Play) (line : ℕ) (call : Call Bool) where
  abbrev noted : Play
  noted = record p { kept = after_call p.kept call }

  pub kept_called : (called p line call).kept ≡ after_call p.kept call
  kept_called = cond_both call.answer noted (with_line noted (codes "idle") line) (λ q. q.kept ≡ after_call p.kept call) (λ is. refl) (λ is. refl)

  pub seats_called : (called p line call).seats ≡ p.seats
  seats_called = cond_both call.answer noted (with_line noted (codes "idle") line) (λ q. q.seats ≡ p.seats) (λ is. refl) (λ is. refl)

feed_seats : (p : Play) (line session : ℕ) (bytes : List ℕ) → length p.seats ≡ 16 → length (feed p line session bytes).seats ≡ 16
feed_seats p line session bytes sixteen =
    let seat = seat_at p session in
    cond_both seat.closed (with_line (with_seat p session seat) (codes "closed") line) (with_seat p session (seat_with_more seat bytes)) (λ q. length q.seats ≡ 16)
    (λ closed. seats_with p session seat sixteen) (λ reads. seats_with p session (seat_with_more seat bytes) sixteen)

turn_seats : (g : Geometry) (p : Play) (line session : ℕ) (seat : Seat) (need : Need) → length p.seats ≡ 16 → length (turn_by g p line session seat need).seats ≡ 16
turn_seats g p line session seat (Writes piece) sixteen = length-set p.seats (session - 1) _ ∙ sixteen
turn_seats g p line session seat (Does ask) sixteen = length-set p.seats (session - 1) _ ∙ sixteen
turn_seats g p line session seat Ends sixteen = length-set p.seats (session - 1) _ ∙ sixteen
turn_seats g p line session seat Rests sixteen = length-set p.seats (session - 1) _ ∙ sixteen

-- each step keeps the sixteen places
pub step_seats : (g : Geometry) (p : Play) (line : ℕ) (step : Step) → length p.seats ≡ 16 → length (play_step g p line step).seats ≡ 16
step_seats g p line (Clock reading) sixteen = ap (λ (l : List (Option Seat)). length l) (seats_called p line (clock_call p.kept.cache p.kept.desk reading)) ∙ sixteen
step_seats g p line (Keep kind) sixteen = ap (λ (l : List (Option Seat)). length l) (seats_called p line (upkeep_call g p.kept.cache p.kept.desk kind)) ∙ sixteen
step_seats g p line (Say session bytes) sixteen = feed_seats p line session (bytes ++ 13 ∷ 10 ∷ []) sixteen
step_seats g p line (Feed session bytes) sixteen = feed_seats p line session bytes sixteen
step_seats g p line (Turn session) sixteen = turn_seats g p line session (seat_at p session) (need_of g (seat_at p session)) sixteen
step_seats g p line (Run session) sixteen = length-set p.seats (session - 1) _ ∙ sixteen

-- no session is made where each place is empty
pub nobody : (n i : ℕ) → seat_or_new (slice_get (replicate n None) i) ≡ new_seat
nobody zero i = refl
nobody (suc n) zero = refl
nobody (suc n) (suc i) = nobody n i
