-- The moment of the store: the readings of the clock alone change it.
use Rattle.std.proofs.Common.{◌≡◌, ℕ, ◌+◌, Bool, List, [], ◌∷◌, ◌++◌, length, drop, refl, ◌∙◌, ap}
use Rattle.std.specs.Prelude.{codes}
use Rattle.std.proofs.lemmas.Bool.{cond_both}
use Rattle.flash_names.specs.declared.geometry.Geometry.{Geometry}
use Rattle.flash_entry.specs.declared.ask.Ask.{Ask}
use Rattle.flash_entry.specs.declared.found.Told.{Told}
use Rattle.flash_calls.specs.Calls.{clock_call}
use Rattle.flash_calls.specs.Store.{Call}
use Rattle.flash_answers.specs.Laws.{AskLeavesTheMoment, CallsOfNoSession}
use Rattle.flash_commands.specs.Commands.{commands_of}
use Rattle.flash_session.specs.Talks.{steps_of}
use Rattle.flash_script.specs.declared.step.Upkeep.{Upkeep}
use Rattle.flash_script.specs.declared.step.Upkeep.TheVariants.{Room, Reap, Juggle}
use Rattle.flash_play.specs.Answers.{moment_with, moment_after}
use Rattle.flash_play.specs.Playing.{Seat, StoreState, Play, Need, Writes, Does, Ends, Rests, first_play, number_after, do_ask, do_asks, seat_at, with_seat, with_line, seat_with_more, feed, need_of, turn_by, called, upkeep_call, play_step, play_from, play_of}
use Rattle.flash_script.specs.Steps.{Step, Clock, Say, Feed, Turn, Run, Keep}
use Rattle.flash_play.proofs.Seating.{kept_called}

-- what the laws of the moment say
pub record MomentLaws : Type 0 where
  pub asks : AskLeavesTheMoment
  pub others : CallsOfNoSession

module _ (laws : MomentLaws) (g : Geometry) where
  -- a session's steps leave it
  asks_moment : (session : ℕ) (state : StoreState × List Told) (asks : List Ask) → (do_asks g session state asks).0.cache.now ≡ state.0.cache.now
  asks_moment session state [] = refl
  asks_moment session state (ask ∷ more) =
      asks_moment session (do_ask g session state ask) more ∙ laws.asks g state.0.cache state.0.desk (number_after session state.1) ask

  turn_moment : (p : Play) (line session : ℕ) (seat : Seat) (need : Need) → (turn_by g p line session seat need).kept.cache.now ≡ p.kept.cache.now
  turn_moment p line session seat (Writes piece) = refl
  turn_moment p line session seat (Does ask) = asks_moment session (p.kept, seat.told) (ask ∷ [])
  turn_moment p line session seat Ends = refl
  turn_moment p line session seat Rests = refl

  -- and so do bytes for it
  feed_moment : (p : Play) (line session : ℕ) (bytes : List ℕ) → (feed p line session bytes).kept.cache.now ≡ p.kept.cache.now
  feed_moment p line session bytes =
      let seat = seat_at p session in
      cond_both seat.closed (with_line (with_seat p session seat) (codes "closed") line) (with_seat p session (seat_with_more seat bytes)) (λ (q : Play). q.kept.cache.now ≡ p.kept.cache.now)
      (λ closed. refl) (λ takes. refl)

  -- a call that no session makes leaves the moment that it answers
  called_moment : (p : Play) (line : ℕ) (call : Call Bool) → (called p line call).kept.cache.now ≡ call.cache.now
  called_moment p line call = ap (λ (k : StoreState). k.cache.now) (kept_called p line call)

  upkeep_moment : (p : Play) (kind : Upkeep) → (upkeep_call g p.kept.cache p.kept.desk kind).cache.now ≡ p.kept.cache.now
  upkeep_moment p Room = (laws.others g p.kept.cache p.kept.desk).room_moment
  upkeep_moment p Reap = (laws.others g p.kept.cache p.kept.desk).reap_moment
  upkeep_moment p Juggle = (laws.others g p.kept.cache p.kept.desk).juggle_moment

  step_moment : (p : Play) (line : ℕ) (step : Step) → (play_step g p line step).kept.cache.now ≡ moment_with p.kept.cache.now step
  step_moment p line (Clock reading) =
      called_moment p line (clock_call p.kept.cache p.kept.desk reading) ∙ (laws.others g p.kept.cache p.kept.desk).moment reading
  step_moment p line (Keep kind) = called_moment p line (upkeep_call g p.kept.cache p.kept.desk kind) ∙ upkeep_moment p kind
  step_moment p line (Say session bytes) = feed_moment p line session (bytes ++ 13 ∷ 10 ∷ [])
  step_moment p line (Feed session bytes) = feed_moment p line session bytes
  step_moment p line (Turn session) = turn_moment p line session (seat_at p session) (need_of g (seat_at p session))
  step_moment p line (Run session) =
      let seat = seat_at p session in
      asks_moment session (p.kept, seat.told) (drop (length seat.told) (steps_of (commands_of g.item_max seat.given).asked))

  steps_moment : (p : Play) (line : ℕ) (steps : List Step) → (play_from g p line steps).kept.cache.now ≡ moment_after p.kept.cache.now steps
  steps_moment p line [] = refl
  steps_moment p line (step ∷ steps) =
      steps_moment (play_step g p line step) (line + 1) steps ∙ ap (λ now. moment_after now steps) (step_moment p line step)

  -- a script leaves the store at the moment that its readings make
  pub play_moment : (steps : List Step) → (play_of g steps).kept.cache.now ≡ moment_after 0 steps
  play_moment steps = steps_moment (first_play g) 2 steps
