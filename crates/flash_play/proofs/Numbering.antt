-- Numbers of steps are never given twice.
use Rattle.std.proofs.Common.{◌≡◌, ◌≢◌, ℕ, Bool, true, false, List, [], ◌∷◌, ◌++◌, length, drop, refl, sym, subst, inl, inr}
use Rattle.std.specs.Prelude.{codes}
use Rattle.std.proofs.lemmas.Bool.{cases_eq, cond_both}
use Rattle.flash_names.specs.declared.place.Id.{Id}
use Rattle.flash_names.specs.declared.geometry.Geometry.{Geometry}
use Rattle.flash_entry.specs.declared.found.Told.{Told}
use Rattle.flash_machine.specs.NewSteps.{IsNew}
use Rattle.flash_calls.specs.Calls.{clock_call}
use Rattle.flash_calls.specs.Store.{Call}
use Rattle.flash_answers.specs.Records.{AreOfNoStep}
use Rattle.flash_commands.specs.Commands.{commands_of}
use Rattle.flash_session.specs.Talks.{steps_of}
use Rattle.flash_script.specs.declared.step.Upkeep.{Upkeep}
use Rattle.flash_script.specs.declared.step.Upkeep.TheVariants.{Room, Reap, Juggle}
use Rattle.flash_play.specs.Numbers.{IsNumbered}
use Rattle.flash_play.specs.Playing.{Seat, StoreState, Play, Need, Writes, Does, Ends, Rests, need_of, turn_by, first_play, after_call, number_after, do_ask, do_asks, seat_after_run, seat_at, with_seat, with_line, seat_with_more, feed, run, called, upkeep_call, play_step}
use Rattle.flash_script.specs.Steps.{Step, Clock, Say, Feed, Turn, Run, Keep, IsSession, IsSeated}
use Rattle.flash_play.proofs.Seating.{seat_is, seat_same, seat_other, kept_called, seats_called}
use Rattle.flash_play.proofs.Serving.{NumberLaws, asks_leave_own, asks_leave_other}

-- the next number of a session that was put in its place is new if its own is, and each other's where it stays new
numbered_with : (p p2 : Play) (session : ℕ) (seat : Seat) → length p.seats ≡ 16 → IsSession session → p2.seats ≡ (with_seat p session seat).seats
    → IsNew p2.kept.journal (number_after session seat.told)
    → ((id : Id) → id.pass ≢ session → IsNew p.kept.journal id → IsNew p2.kept.journal id)
    → IsNumbered p → IsNumbered p2
numbered_with p p2 session seat sixteen is seats own others numbered other is_other = elim (cases_eq other session) [
  | inl same ↦
      let there : IsNew p2.kept.journal (number_after session (seat_at p2 session).told) = subst (λ (s : Seat). IsNew p2.kept.journal (number_after session s.told)) (sym (seat_same p p2 session seat sixteen is seats)) own in
      subst (λ (n : ℕ). IsNew p2.kept.journal (number_after n (seat_at p2 n).told)) (sym same) there
  | inr differ ↦
      subst (λ (s : Seat). IsNew p2.kept.journal (number_after other s.told)) (sym (seat_other p p2 session seat sixteen is seats other is_other differ))
      (others (number_after other (seat_at p other).told) differ (numbered other is_other))
]

module _ (laws : NumberLaws) where
  -- a call that no session makes records no step
  called_numbered : (p : Play) (line : ℕ) (call : Call Bool) → AreOfNoStep call.entries → IsNumbered p → IsNumbered (called p line call)
  called_numbered p line call none numbered session is =
      let id = number_after session (seat_at p session).told in
      subst (λ (k : StoreState). IsNew k.journal (number_after session (seat_at (called p line call) session).told)) (sym (kept_called p line call))
      (subst (λ (s : Seat). IsNew (after_call p.kept call).journal (number_after session s.told)) (sym (seat_is p (called p line call) session (seats_called p line call)))
      ((laws.numbers p.kept.journal call.entries).none id none (numbered session is)))

  pub upkeep_none : (g : Geometry) (p : Play) (kind : Upkeep) → AreOfNoStep (upkeep_call g p.kept.cache p.kept.desk kind).entries
  upkeep_none g p Room = (laws.others g p.kept.cache p.kept.desk).room
  upkeep_none g p Reap = (laws.others g p.kept.cache p.kept.desk).reap
  upkeep_none g p Juggle = (laws.others g p.kept.cache p.kept.desk).juggle

  feed_numbered : (p : Play) (line session : ℕ) (bytes : List ℕ) → length p.seats ≡ 16 → IsSession session → IsNumbered p → IsNumbered (feed p line session bytes)
  feed_numbered p line session bytes sixteen is numbered =
      let seat = seat_at p session in
      let closed = with_line (with_seat p session seat) (codes "closed") line in
      let takes = with_seat p session (seat_with_more seat bytes) in
      cond_both seat.closed closed takes IsNumbered
      (λ shut. numbered_with p closed session seat sixteen is refl (numbered session is) (λ id other new. new) numbered)
      (λ free. numbered_with p takes session (seat_with_more seat bytes) sixteen is refl (numbered session is) (λ id other new. new) numbered)

  turn_numbered : (g : Geometry) (p : Play) (line session : ℕ) (need : Need) → length p.seats ≡ 16 → IsSession session → IsNumbered p → IsNumbered (turn_by g p line session (seat_at p session) need)
  turn_numbered g p line session (Writes piece) sixteen is numbered = let seat = seat_at p session in
      numbered_with p (turn_by g p line session seat (Writes piece)) session (record seat { replies = seat.replies ++ piece }) sixteen is refl (numbered session is) (λ id other new. new) numbered
  turn_numbered g p line session (Does ask) sixteen is numbered =
      let seat = seat_at p session in
      let before : StoreState × List Told = (p.kept, seat.told) in
      numbered_with p (turn_by g p line session seat (Does ask)) session (record seat { told = (do_ask g session before ask).1 }) sixteen is refl
      (asks_leave_own laws g session before (ask ∷ []) (numbered session is)) (λ id other new. asks_leave_other laws g session id before (ask ∷ []) other new) numbered
  turn_numbered g p line session Ends sixteen is numbered = let seat = seat_at p session in
      numbered_with p (turn_by g p line session seat Ends) session (record seat { closed = true }) sixteen is refl (numbered session is) (λ id other new. new) numbered
  turn_numbered g p line session Rests sixteen is numbered = let seat = seat_at p session in
      numbered_with p (turn_by g p line session seat Rests) session (record seat { closed = false }) sixteen is refl (numbered session is) (λ id other new. new) numbered

  -- each step keeps each session's next number new
  pub step_numbered : (g : Geometry) (p : Play) (line : ℕ) (step : Step) → length p.seats ≡ 16 → IsSeated step → IsNumbered p → IsNumbered (play_step g p line step)
  step_numbered g p line (Clock reading) sixteen seated numbered =
      called_numbered p line (clock_call p.kept.cache p.kept.desk reading) ((laws.others g p.kept.cache p.kept.desk).clock reading) numbered
  step_numbered g p line (Keep kind) sixteen seated numbered = called_numbered p line (upkeep_call g p.kept.cache p.kept.desk kind) (upkeep_none g p kind) numbered
  step_numbered g p line (Say session bytes) sixteen seated numbered = feed_numbered p line session (bytes ++ 13 ∷ 10 ∷ []) sixteen seated numbered
  step_numbered g p line (Feed session bytes) sixteen seated numbered = feed_numbered p line session bytes sixteen seated numbered
  step_numbered g p line (Turn session) sixteen seated numbered = turn_numbered g p line session (need_of g (seat_at p session)) sixteen seated numbered
  step_numbered g p line (Run session) sixteen seated numbered =
      let seat = seat_at p session in
      let read = commands_of g.item_max seat.given in
      let left = drop (length seat.told) (steps_of read.asked) in
      let after = do_asks g session (p.kept, seat.told) left in
      numbered_with p (run g p session) session (seat_after_run seat read after.1) sixteen seated refl (asks_leave_own laws g session (p.kept, seat.told) left (numbered session seated))
      (λ id other new. asks_leave_other laws g session id (p.kept, seat.told) left other new) numbered

-- before the first step
pub first_numbered : (g : Geometry) → IsNumbered (first_play g)
first_numbered g session is = record { pass = is.some; seq = tt }
