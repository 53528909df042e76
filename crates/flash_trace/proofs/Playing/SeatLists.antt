-- The sessions of the code, and those of the play, by their places.
use Rattle.std.proofs.Common.{◌≡◌, ℕ, ◌+◌, ◌-◌, ◌<◌, ◌≤◌, zero, suc, List, [], ◌∷◌, length, Option, None, Some, refl, sym, ◌∙◌, ap, subst, arith}
use Rattle.std.specs.Prelude.{slice_get, slice_set, slice_index_or, replicate}
use Rattle.std.specs.Option.{option_map}
use Rattle.std.proofs.lemmas.Option.{slice_get_read}
use Rattle.flash_play.specs.Playing.{Seat, Play, seat_or_new, seat_at}
use Rattle.flash_seats.specs.declared.seat.Seat as code
use Rattle.flash_seats.specs.Seats.{IsSeat}
use Rattle.flash_trace.specs.Output.{answered}
use Rattle.flash_trace.specs.Seats.{IsMade, AreSeats, shown}

-- what was set is set again
pub set_twice : {A : Type 0} (xs : List A) (i : ℕ) (first second : A) → slice_set (slice_set xs i first) i second ≡ slice_set xs i second
set_twice [] i first second = refl
set_twice (x ∷ xs) zero first second = refl
set_twice (x ∷ xs) (suc i) first second = ap (λ (l : List _). x ∷ l) (set_twice xs i first second)

module _ (item_max : ℕ) where
  -- the sessions at a place
  pub record AreAt (number i : ℕ) (seats : List (Option Seat)) (made : Option code.Seat) : Type 0 where
    pub seat : Option Seat
    pub at : slice_get seats i ≡ Some seat
    pub same : IsMade item_max (number + i) seat made

  pub made_at : (number i : ℕ) (seats : List (Option Seat)) (codes : List (Option code.Seat)) (made : Option code.Seat) → slice_get codes i ≡ Some made → AreSeats item_max number seats codes → AreAt number i seats made
  made_at number i seats [] made at are = absurd (cc at)
  made_at number i [] (code ∷ codes) made at are = absurd are
  made_at number zero (seat ∷ seats) (code ∷ codes) made at are =
      let same : code ≡ made = cc at in
      let first : number ≡ number + 0 = omega arith in
      record { seat = seat; at = refl; same = subst (λ (n : ℕ). IsMade item_max n seat made) first (subst (IsMade item_max number seat) same are.0) }
  made_at number (suc i) (seat ∷ seats) (code ∷ codes) made at are =
      let rest = made_at (number + 1) i seats codes made at are.1 in
      let next : number + 1 + i ≡ number + suc i = omega arith in
      record { seat = rest.seat; at = rest.at; same = subst (λ (n : ℕ). IsMade item_max n rest.seat made) next rest.same }

  -- after a session was put at its place
  pub are_put : (number i : ℕ) (seats : List (Option Seat)) (codes : List (Option code.Seat)) (seat : Seat) (code : code.Seat) → IsSeat item_max (number + i) seat code → AreSeats item_max number seats codes
      → AreSeats item_max number (slice_set seats i (Some seat)) (slice_set codes i (Some code))
  are_put number i [] [] seat code same are = tt
  are_put number i [] (other ∷ codes) seat code same are = absurd are
  are_put number i (other ∷ seats) [] seat code same are = absurd are
  are_put number zero (first ∷ seats) (other ∷ codes) seat code same are =
      let at : number + 0 ≡ number = omega arith in (subst (λ (n : ℕ). IsSeat item_max n seat code) at same, are.1)
  are_put number (suc i) (first ∷ seats) (other ∷ codes) seat code same are =
      let at : number + suc i ≡ number + 1 + i = omega arith in (are.0, are_put (number + 1) i seats codes seat code (subst (λ (n : ℕ). IsSeat item_max n seat code) at same) are.1)

  -- what they were answered
  made_shown : (number : ℕ) (seat : Option Seat) (made : Option code.Seat) → IsMade item_max number seat made → option_map (λ (s : code.Seat). s.replies.items) made ≡ option_map (λ (s : Seat). s.replies) seat
  made_shown number None None same = refl
  made_shown number None (Some code) same = absurd same
  made_shown number (Some seat) None same = absurd same
  made_shown number (Some seat) (Some code) same = ap Some same.replies

  pub all_shown : (number : ℕ) (seats : List (Option Seat)) (codes : List (Option code.Seat)) → AreSeats item_max number seats codes → shown codes ≡ answered seats
  all_shown number [] [] are = refl
  all_shown number [] (code ∷ codes) are = absurd are
  all_shown number (seat ∷ seats) [] are = absurd are
  all_shown number (seat ∷ seats) (code ∷ codes) are =
      λ j. made_shown number seat code are.0 j ∷ all_shown (number + 1) seats codes are.1 j

  -- none is made
  pub none_made : (number n : ℕ) → AreSeats item_max number (replicate n None) (replicate n None)
  none_made number zero = tt
  none_made number (suc n) = (tt, none_made (number + 1) n)

-- the session that is at a number's place is the play's
module _ (item_max number index : ℕ) (seats : List (Option code.Seat)) (made : Option code.Seat) (counted : index + 1 ≡ number) (sixteen : length seats ≡ 16) (within : index < 16) (is : made ≡ slice_index_or seats index made) where
  at_place : slice_get seats (number - 1) ≡ Some made
  at_place =
      let there : index ≡ number - 1 = omega (arith, counted) in
      subst (λ (n : ℕ). slice_get seats n ≡ Some made) there (slice_get_read seats (length seats) index made refl (omega (arith, sixteen, within)) is)

  pub seat_at_place : (p : Play) (code : code.Seat) → ((seat : Option Seat) → IsMade item_max number seat made → IsSeat item_max number (seat_or_new (Some seat)) code) → AreSeats item_max 1 p.seats seats
      → IsSeat item_max number (seat_at p number) code
  seat_at_place p code new are =
      let found = made_at item_max 1 (number - 1) p.seats seats made at_place are in
      let own : 1 + (number - 1) ≡ number = omega (arith, counted) in
      subst (λ (o : Option (Option Seat)). IsSeat item_max number (seat_or_new o) code) (sym found.at) (new found.seat (subst (λ (n : ℕ). IsMade item_max n found.seat made) own found.same))

-- and one that is put there
pub are_put_back : (item_max number : ℕ) (seats : List (Option Seat)) (codes taken put : List (Option code.Seat)) (seat : Seat) (new : code.Seat) → 1 ≤ number → taken ≡ slice_set codes (number - 1) None → put ≡ slice_set taken (number - 1) (Some new)
    → IsSeat item_max number seat new → AreSeats item_max 1 seats codes → AreSeats item_max 1 (slice_set seats (number - 1) (Some seat)) put
are_put_back item_max number seats codes taken put seat new some takes puts same are =
    let whole : put ≡ slice_set codes (number - 1) (Some new) = puts ∙ ap (λ (l : List (Option code.Seat)). slice_set l (number - 1) (Some new)) takes ∙ set_twice codes (number - 1) None (Some new) in
    let own : number ≡ 1 + (number - 1) = omega (arith, some) in
    subst (AreSeats item_max 1 (slice_set seats (number - 1) (Some seat))) (sym whole) (are_put item_max 1 (number - 1) seats codes seat new (subst (λ (n : ℕ). IsSeat item_max n seat new) own same) are)
