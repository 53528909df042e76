-- What the steps of a script print, and which sessions they make.
use Rattle.std.proofs.Common.{◌≡◌, ℕ, zero, suc, ◌+◌, ◌-◌, ◌^◌, min, Bool, true, false, nat_eq, nat_lt, List, [], ◌∷◌, ◌++◌, length, Option, None, Some, refl, sym, ◌∙◌, ap, arith, append_assoc, length-append, if◌then◌else◌, is_some}
use Rattle.std.specs.Prelude.{slice_get, codes, decimal, replicate, ◌||◌}
use Rattle.std.specs.List.{list_any}
use Rattle.std.specs.Option.{option_flatten}
use Rattle.std.proofs.lemmas.Bool.{cond_both}
use Rattle.std.proofs.lemmas.List.{append-nil}
use Rattle.std.proofs.lemmas.Bool.Decides.{nat_tests}
use mathlib.Core.Logic.{dite}
use native.Mathlib.Decide.{ℕ_discrete}
use Rattle.flash_names.specs.declared.geometry.Geometry.{Geometry}
use Rattle.flash_machine.specs.Cache.{Cache}
use Rattle.flash_calls.specs.Calls.{clock_call}
use Rattle.flash_calls.specs.Store.{Desk, Call}
use Rattle.flash_play.specs.Playing.{Seat, Play, Need, Writes, Does, Ends, Rests, need_of, turn_by, seat_at, with_seat, with_line, seat_with_more, feed, after_call, upkeep_call, play_step, play_from, play_of, first_play}
use Rattle.flash_play.specs.Printing.{printed_line, feed_prints, turn_prints, step_prints, upkeep_does, steps_print, names, EveryPlayIsPrinted}
use Rattle.flash_script.specs.Steps.{Step, Clock, Say, Feed, Turn, Run, Keep, IsSession, IsSeated, AreSeated}
use Rattle.flash_play.proofs.Lists.{get-set_same, get-set_other}
use Rattle.flash_play.proofs.Moments.{MomentLaws, play_moment}
use Rattle.flash_play.proofs.Seating.{step_seats, seats_called}

-- the text of a line that names the script's line, after what was printed before
line_text : (printed word : List ℕ) (line : ℕ) → printed ++ word ++ 32 ∷ decimal line ++ 10 ∷ [] ≡ printed ++ printed_line word line
line_text printed word line =
    append_assoc (printed ++ word) (32 ∷ decimal line) (10 ∷ []) ∙ append_assoc printed word (32 ∷ decimal line ++ 10 ∷ [])

-- a play of one step more
played_more : (g : Geometry) (p : Play) (line : ℕ) (steps : List Step) (step : Step) → play_from g p line (steps ++ step ∷ []) ≡ play_step g (play_from g p line steps) (line + length steps) step
played_more g p line [] step = ap (λ n. play_step g p n step) (omega arith)
played_more g p line (first ∷ steps) step =
    played_more g (play_step g p line first) (line + 1) steps step
    ∙ ap (λ n. play_step g (play_from g p line (first ∷ steps)) n step) (omega arith)

length_more : (steps : List Step) (step : Step) → 2 + length steps + 1 ≡ 2 + length (steps ++ step ∷ [])
length_more steps step = let more : length (steps ++ step ∷ []) ≡ length steps + 1 = length-append steps (step ∷ []) in omega (arith, more)

-- what was so far played is read off the steps before
record Follows (g : Geometry) (p : Play) (line : ℕ) (before : List Step) : Type 0 where
  played : p ≡ play_of g before
  line_is : line ≡ 2 + length before

follows_more : (g : Geometry) (p : Play) (line : ℕ) (before : List Step) (step : Step) → Follows g p line before → Follows g (play_step g p line step) (line + 1) (before ++ step ∷ [])
follows_more g p line before step was = record {
  played = λ i. (ap (λ (q : Play). play_step g q line step) was.played ∙ ap (λ n. play_step g (play_of g before) n step) was.line_is ∙ sym (played_more g (first_play g) 2 before step)) i;
  line_is = ap (λ n. n + 1) was.line_is ∙ length_more before step;
}

-- a line is printed unless something was done
printed_unless : (done : Bool) (p : Play) (word : List ℕ) (line : ℕ) → (if done then p else with_line p word line).printed ≡ p.printed ++ (if done then [] else printed_line word line)
printed_unless true p word line = sym (append-nil p.printed)
printed_unless false p word line = line_text p.printed word line

-- a line is printed where the session is closed, and what was printed before is the same
printed_where : (closed : Bool) (printed : List ℕ) (p q : Play) (word : List ℕ) (line : ℕ) → p.printed ≡ printed → q.printed ≡ printed
    → (if closed then with_line p word line else q).printed ≡ printed ++ (if closed then printed_line word line else [])
printed_where true printed p q word line first second = line_text p.printed word line ∙ ap (λ (l : List ℕ). l ++ printed_line word line) first
printed_where false printed p q word line first second = second ∙ sym (append-nil printed)

-- a reading is done where it is above the moment
clock_done : (c : Cache) (desk : Desk) (reading : ℕ) → (clock_call c desk reading).answer ≡ nat_lt c.now (min reading (2 ^ 62))
clock_done c desk reading =
    cond_both (nat_lt c.now (min reading (2 ^ 62))) _ _ (λ (call : Call Bool). call.answer ≡ nat_lt c.now (min reading (2 ^ 62))) (λ above. sym above) (λ below. sym below)

module _ (laws : MomentLaws) (g : Geometry) where
  -- bytes for a session
  feed_printed : (before : List Step) (p : Play) (line session : ℕ) (bytes : List ℕ) → p ≡ play_of g before → (feed p line session bytes).printed ≡ p.printed ++ feed_prints g before line session
  feed_printed before p line session bytes played =
      let seat = seat_at p session in
      printed_where seat.closed p.printed (with_seat p session seat) (with_seat p session (seat_with_more seat bytes)) (codes "closed") line refl refl
      ∙ ap (λ (q : Play). p.printed ++ (if (seat_at q session).closed then printed_line (codes "closed") line else [])) played

  -- a session's single turn
  turn_printed : (p : Play) (line session : ℕ) (seat : Seat) (need : Need) → (turn_by g p line session seat need).printed ≡ p.printed ++ turn_prints line need
  turn_printed p line session seat (Writes piece) = sym (append-nil p.printed)
  turn_printed p line session seat (Does ask) = sym (append-nil p.printed)
  turn_printed p line session seat Ends = line_text p.printed (codes "closed") line
  turn_printed p line session seat Rests = line_text p.printed (codes "idle") line

  -- one step prints what is read off those before it
  step_printed : (before : List Step) (p : Play) (line : ℕ) (step : Step) → Follows g p line before → (play_step g p line step).printed ≡ p.printed ++ step_prints g before line step
  step_printed before p line (Clock reading) follows =
      let noted : Play = record p { kept = after_call p.kept (clock_call p.kept.cache p.kept.desk reading) } in
      printed_unless (clock_call p.kept.cache p.kept.desk reading).answer noted (codes "idle") line
      ∙ ap (λ done. p.printed ++ (if done then [] else printed_line (codes "idle") line))
      (clock_done p.kept.cache p.kept.desk reading ∙ ap (λ n. nat_lt n (min reading (2 ^ 62))) (ap (λ (q : Play). q.kept.cache.now) follows.played ∙ play_moment laws g before))
  step_printed before p line (Say session bytes) follows = feed_printed before p line session (bytes ++ 13 ∷ 10 ∷ []) follows.played
  step_printed before p line (Feed session bytes) follows = feed_printed before p line session bytes follows.played
  step_printed before p line (Turn session) follows =
      turn_printed p line session (seat_at p session) (need_of g (seat_at p session))
      ∙ ap (λ (q : Play). p.printed ++ turn_prints line (need_of g (seat_at q session))) follows.played
  step_printed before p line (Run session) follows = sym (append-nil p.printed)
  step_printed before p line (Keep kind) follows =
      let call = upkeep_call g p.kept.cache p.kept.desk kind in
      printed_unless call.answer (record p { kept = after_call p.kept call }) (codes "idle") line
      ∙ ap (λ (q : Play). p.printed ++ (if upkeep_does g q kind then [] else printed_line (codes "idle") line)) follows.played

  -- so do all steps
  steps_printed : (before : List Step) (p : Play) (line : ℕ) (steps : List Step) → Follows g p line before → (play_from g p line steps).printed ≡ p.printed ++ steps_print g before line steps
  steps_printed before p line [] follows = sym (append-nil p.printed)
  steps_printed before p line (step ∷ steps) follows =
      let next = play_step g p line step in
      steps_printed (before ++ step ∷ []) next (line + 1) steps (follows_more g p line before step follows)
      ∙ ap (λ (l : List ℕ). l ++ steps_print g (before ++ step ∷ []) (line + 1) steps) (step_printed before p line step follows)
      ∙ append_assoc p.printed (step_prints g before line step) (steps_print g (before ++ step ∷ []) (line + 1) steps)

-- whether a session is made
abbrev is_made : Play → ℕ → Bool
is_made p session = is_some (option_flatten (slice_get p.seats (session - 1)))

or_false : (b : Bool) → b || false ≡ b
or_false true = refl
or_false false = refl

or_true : (b : Bool) → b || true ≡ true
or_true true = refl
or_true false = refl

or_assoc : (a b c : Bool) → (a || b) || c ≡ a || (b || c)
or_assoc true b c = refl
or_assoc false b c = refl

-- where one is put in its place, it is made, and the others as before
made_with : (p : Play) (other session : ℕ) (seat : Seat) → length p.seats ≡ 16 → IsSession other → IsSession session → is_made (with_seat p other seat) session ≡ is_made p session || nat_eq other session
made_with p other session seat sixteen is-other is = dite (ℕ_discrete other session)
    (λ same. let yes : nat_eq other session ≡ true = grind (arith, nat_tests, same) in
    ap (λ (o : Option (Option Seat)). is_some (option_flatten o)) (ap (λ n. slice_get (with_seat p other seat).seats (n - 1)) (sym same) ∙ get-set_same p.seats (other - 1) (Some seat) (omega (arith, is-other.some, is-other.within, sixteen)))
    ∙ sym (ap (λ b. is_made p session || b) yes ∙ or_true (is_made p session)))
    (λ differ. let no : nat_eq other session ≡ false = grind (arith, nat_tests, differ) in
    ap (λ (o : Option (Option Seat)). is_some (option_flatten o)) (get-set_other p.seats (other - 1) (session - 1) (Some seat) (λ same. differ (omega (arith, is-other.some, is.some, same))))
    ∙ sym (ap (λ b. is_made p session || b) no ∙ or_false (is_made p session)))

module _ (g : Geometry) (session : ℕ) (is : IsSession session) where
  feed_made : (p : Play) (line other : ℕ) (bytes : List ℕ) → length p.seats ≡ 16 → IsSession other → is_made (feed p line other bytes) session ≡ is_made p session || nat_eq other session
  feed_made p line other bytes sixteen is-other =
      let seat = seat_at p other in
      cond_both seat.closed (with_line (with_seat p other seat) (codes "closed") line) (with_seat p other (seat_with_more seat bytes)) (λ q. is_made q session ≡ is_made p session || nat_eq other session)
      (λ closed. made_with p other session seat sixteen is-other is) (λ takes. made_with p other session (seat_with_more seat bytes) sixteen is-other is)

  turn_made : (p : Play) (line other : ℕ) (seat : Seat) (need : Need) → length p.seats ≡ 16 → IsSession other → is_made (turn_by g p line other seat need) session ≡ is_made p session || nat_eq other session
  turn_made p line other seat (Writes piece) sixteen is-other = made_with p other session _ sixteen is-other is
  turn_made p line other seat (Does ask) sixteen is-other = made_with p other session _ sixteen is-other is
  turn_made p line other seat Ends sixteen is-other = made_with p other session _ sixteen is-other is
  turn_made p line other seat Rests sixteen is-other = made_with p other session _ sixteen is-other is

  step_made : (p : Play) (line : ℕ) (step : Step) → length p.seats ≡ 16 → IsSeated step → is_made (play_step g p line step) session ≡ is_made p session || names session step
  step_made p line (Clock reading) sixteen seated =
      ap (λ (l : List (Option Seat)). is_some (option_flatten (slice_get l (session - 1)))) (seats_called p line (clock_call p.kept.cache p.kept.desk reading)) ∙ sym (or_false (is_made p session))
  step_made p line (Keep kind) sixteen seated =
      ap (λ (l : List (Option Seat)). is_some (option_flatten (slice_get l (session - 1)))) (seats_called p line (upkeep_call g p.kept.cache p.kept.desk kind)) ∙ sym (or_false (is_made p session))
  step_made p line (Say other bytes) sixteen seated = feed_made p line other (bytes ++ 13 ∷ 10 ∷ []) sixteen seated
  step_made p line (Feed other bytes) sixteen seated = feed_made p line other bytes sixteen seated
  step_made p line (Turn other) sixteen seated = turn_made p line other (seat_at p other) (need_of g (seat_at p other)) sixteen seated
  step_made p line (Run other) sixteen seated = made_with p other session _ sixteen seated is

  steps_made : (p : Play) (line : ℕ) (steps : List Step) → length p.seats ≡ 16 → AreSeated steps → is_made (play_from g p line steps) session ≡ is_made p session || list_any (names session) steps
  steps_made p line [] sixteen seated = sym (or_false (is_made p session))
  steps_made p line (step ∷ steps) sixteen seated =
      steps_made (play_step g p line step) (line + 1) steps (step_seats g p line step sixteen) seated.1
      ∙ ap (λ b. b || list_any (names session) steps) (step_made p line step sixteen seated.0)
      ∙ or_assoc (is_made p session) (names session step) (list_any (names session) steps)

-- no session is made before the first step
abbrev none_there : Option Seat
none_there = None

none_made : (n i : ℕ) → is_some (option_flatten (slice_get (replicate n none_there) i)) ≡ false
none_made zero i = refl
none_made (suc n) zero = refl
none_made (suc n) (suc i) = none_made n i

-- the law
pub every_play_prints : MomentLaws → EveryPlayIsPrinted
every_play_prints laws = λ g steps seated. record {
  printed = steps_printed laws g [] (first_play g) 2 steps (record { played = refl; line_is = refl });
  made = λ session is. steps_made g session is (first_play g) 2 steps refl seated ∙ ap (λ b. b || list_any (names session) steps) (none_made 16 (session - 1));
}
