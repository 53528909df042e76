-- The journal only grows.
use Rattle.std.proofs.Common.{ℕ, ◌+◌, Bool, List, [], ◌∷◌, ◌++◌, length, drop, refl, sym, ◌∙◌, ap, subst, append_assoc}
use Rattle.std.specs.Prelude.{codes}
use Rattle.std.proofs.lemmas.Bool.{cond_both}
use Rattle.std.proofs.lemmas.List.{append-nil}
use Rattle.flash_names.specs.declared.geometry.Geometry.{Geometry}
use Rattle.flash_entry.specs.declared.entry.Entry.{Entry}
use Rattle.flash_entry.specs.declared.ask.Ask.{Ask}
use Rattle.flash_entry.specs.declared.found.Told.{Told}
use Rattle.flash_calls.specs.Calls.{clock_call}
use Rattle.flash_calls.specs.Store.{Call}
use Rattle.flash_commands.specs.Commands.{commands_of}
use Rattle.flash_session.specs.Talks.{steps_of}
use Rattle.flash_play.specs.Fronts.{GoesOnFrom, EachFrontMakesAFront}
use Rattle.flash_play.specs.Playing.{Seat, StoreState, Play, Need, Writes, Does, Ends, Rests, need_of, turn_by, first_play, do_ask, do_asks, seat_with_more, feed, play_from, play_step, seat_at, with_line, with_seat, called, upkeep_call}
use Rattle.flash_script.specs.Steps.{Step, Clock, Say, Feed, Turn, Run, Keep}
use Rattle.flash_play.proofs.Seating.{kept_called}

same_front : (h : List Entry) → GoesOnFrom h h
same_front h = record { more = []; parts = sym (append-nil h) }

further : (a b c : List Entry) → GoesOnFrom a b → GoesOnFrom b c → GoesOnFrom a c
further a b c one two = record {
  more = one.more ++ two.more;
  parts = two.parts ∙ ap (λ (l : List Entry). l ++ two.more) one.parts ∙ append_assoc a one.more two.more;
}

module _ (g : Geometry) where
  asks_go_on : (pass : ℕ) (state : StoreState × List Told) (asks : List Ask) → GoesOnFrom state.0.journal (do_asks g pass state asks).0.journal
  asks_go_on pass state [] = same_front state.0.journal
  asks_go_on pass state (ask ∷ more) =
      let next = do_ask g pass state ask in
      further state.0.journal next.0.journal (do_asks g pass next more).0.journal (record { more = _; parts = refl }) (asks_go_on pass next more)

  feed_goes_on : (p : Play) (line session : ℕ) (bytes : List ℕ) → GoesOnFrom p.kept.journal (feed p line session bytes).kept.journal
  feed_goes_on p line session bytes =
      let seat = seat_at p session in
      cond_both seat.closed (with_line (with_seat p session seat) (codes "closed") line) (with_seat p session (seat_with_more seat bytes)) (λ (q : Play). GoesOnFrom p.kept.journal q.kept.journal)
      (λ closed. same_front p.kept.journal) (λ takes. same_front p.kept.journal)

  call_goes_on : (p : Play) (line : ℕ) (call : Call Bool) → GoesOnFrom p.kept.journal (called p line call).kept.journal
  call_goes_on p line call = subst (λ (k : StoreState). GoesOnFrom p.kept.journal k.journal) (sym (kept_called p line call)) (record { more = call.entries; parts = refl })

  turn_goes_on : (p : Play) (line session : ℕ) (seat : Seat) (need : Need) → GoesOnFrom p.kept.journal (turn_by g p line session seat need).kept.journal
  turn_goes_on p line session seat (Writes piece) = same_front p.kept.journal
  turn_goes_on p line session seat (Does ask) = asks_go_on session (p.kept, seat.told) (ask ∷ [])
  turn_goes_on p line session seat Ends = same_front p.kept.journal
  turn_goes_on p line session seat Rests = same_front p.kept.journal

  step_goes_on : (p : Play) (line : ℕ) (step : Step) → GoesOnFrom p.kept.journal (play_step g p line step).kept.journal
  step_goes_on p line (Clock reading) = call_goes_on p line (clock_call p.kept.cache p.kept.desk reading)
  step_goes_on p line (Keep kind) = call_goes_on p line (upkeep_call g p.kept.cache p.kept.desk kind)
  step_goes_on p line (Say session bytes) = feed_goes_on p line session (bytes ++ 13 ∷ 10 ∷ [])
  step_goes_on p line (Feed session bytes) = feed_goes_on p line session bytes
  step_goes_on p line (Turn session) = turn_goes_on p line session (seat_at p session) (need_of g (seat_at p session))
  step_goes_on p line (Run session) = let seat = seat_at p session in
      asks_go_on session (p.kept, seat.told) (drop (length seat.told) (steps_of (commands_of g.item_max seat.given).asked))

  steps_go_on : (p : Play) (line : ℕ) (steps : List Step) → GoesOnFrom p.kept.journal (play_from g p line steps).kept.journal
  steps_go_on p line [] = same_front p.kept.journal
  steps_go_on p line (step ∷ steps) =
      let next = play_step g p line step in
      further p.kept.journal next.kept.journal (play_from g next (line + 1) steps).kept.journal (step_goes_on p line step) (steps_go_on next (line + 1) steps)

  fronts_go_on : (p : Play) (line : ℕ) (steps more : List Step) → GoesOnFrom (play_from g p line steps).kept.journal (play_from g p line (steps ++ more)).kept.journal
  fronts_go_on p line [] more = steps_go_on p line more
  fronts_go_on p line (step ∷ steps) more = fronts_go_on (play_step g p line step) (line + 1) steps more

-- the law
pub each_front : EachFrontMakesAFront
each_front = λ g steps more. fronts_go_on g (first_play g) 2 steps more
