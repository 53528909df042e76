-- Every script's journal is a run, and each of its sessions is answered by it.
use Rattle.std.proofs.Common.{◌≡◌, ◌≢◌, ℕ, ◌+◌, ◌-◌, Bool, true, false, List, [], ◌∷◌, ◌++◌, length, drop, if◌then◌else◌, refl, sym, ◌∙◌, ap, subst, arith, append_assoc, Option}
use Rattle.std.specs.Prelude.{nat_eq, slice_get, ◌||◌, Some}
use Rattle.std.proofs.lemmas.Bool.Decides.{nat_tests}
use Rattle.std.proofs.lemmas.List.{append-nil}
use Rattle.flash_names.specs.Geometry.{Passes}
use Rattle.flash_names.specs.declared.geometry.Geometry.{Geometry}
use Rattle.flash_entry.specs.declared.ask.Ask.{Ask}
use Rattle.flash_entry.specs.declared.found.Told.{Told}
use Rattle.flash_machine.specs.Cache.{Cache}
use Rattle.flash_answers.specs.AskCalls.{ask_call}
use Rattle.flash_commands.specs.Parts.{Asked, Read}
use Rattle.flash_commands.specs.Commands.{commands_of}
use Rattle.flash_session.specs.Pieces.{next_piece}
use Rattle.flash_session.specs.Talks.{talk_of, steps_of}
use Rattle.flash_play.specs.Answers.{bytes_for, bytes_before_last_run, bytes_to, is_run, is_turn, turned_since, IsRight, EveryPlayIsRight}
use Rattle.flash_play.specs.Playing.{Seat, StoreState, Play, Need, Writes, Does, Ends, Rests, first_play, number_after, do_ask, do_asks, seat_at, with_seat, need_of, turn_by, turn, seat_after_run, run, is_end, play_step, play_from, play_of}
use Rattle.flash_script.specs.Steps.{Step, Clock, Say, Feed, Turn, Run, Keep, IsSession, IsSeated, AreSeated}
use Rattle.flash_play.proofs.BeforeLastRun.{turned_behind, turned_from_first}
use Rattle.flash_play.proofs.Holding.{Holds, each_with, other_up, clock_holds, upkeep_holds, feed_holds}
use Rattle.flash_play.proofs.Moments.{play_moment}
use Rattle.flash_play.proofs.Numbering.{step_numbered, first_numbered}
use Rattle.flash_play.proofs.Seating.{step_seats, nobody}
use Rattle.flash_play.proofs.Serving.{StepLaws, number_laws, IsKept, Serves, ask_serves, asks_serve}
use Rattle.flash_play.proofs.Turning.{writes_a_piece, does_an_ask, ends_there, rests_there, not_both, wrote, did, ended, rested}
use Rattle.flash_play.proofs.UpTo.{ByteLaws, IsUpTo, steps_in, pieces_in, behind_all, at_end, given_none, first_up, is_answered_so_far, is_answered}

-- what each session was given before its last run, and whether it took single turns since, after a step more
abbrev pub turned_by : Step → (ℕ → List ℕ) → (ℕ → List ℕ) → ℕ → List ℕ
turned_by step given turned session = if is_run session step then given session else turned session

abbrev pub since_by : Step → (ℕ → Bool) → ℕ → Bool
since_by step since session = if is_run session step then false else is_turn session step || since session

module _ (laws : StepLaws) (byte_laws : ByteLaws) (g : Geometry) where
  -- a session's single turn
  module _ (p : Play) (line session : ℕ) (given turned : ℕ → List ℕ) (since : ℕ → Bool) (was : Holds g p given turned since) (is : IsSession session) where
    abbrev turner : Seat
    turner = seat_at p session

    abbrev turner_up : IsUpTo g session (given session) (turned session) (since session) p.kept.journal turner
    turner_up = was.each session is

    -- the piece and the step that are next, and whether the bytes have an end
    abbrev piece_there : Option (List ℕ)
    piece_there = next_piece g.item_max turner.given turner.told turner.replies

    abbrev ask_there : Option Ask
    ask_there = slice_get (steps_in g turner.given) (length turner.told)

    abbrev end_there : Bool
    end_there = is_end (commands_of g.item_max turner.given).place

    -- which sessions took single turns with it
    abbrev since_then : ℕ → Bool
    since_then other = nat_eq session other || since other

    -- each session, where this one was left so
    turn_each : (p2 : Play) (seat : Seat) → p2.seats ≡ (with_seat p session seat).seats → IsUpTo g session (given session) (turned session) true p2.kept.journal seat
        → ((other : ℕ) → IsSession other → other ≢ session → IsUpTo g other (given other) (turned other) (since other) p2.kept.journal (seat_at p other))
        → (other : ℕ) → IsSession other → IsUpTo g other (given other ++ []) (turned other) (since_then other) p2.kept.journal (seat_at p2 other)
    turn_each p2 seat seats own others other is_other =
        let self : nat_eq session session ≡ true = grind (arith, nat_tests) in
        let turns : since_then session ≡ true = ap (λ b. b || since session) self in
        given_none byte_laws g other (given other) [] (turned other) (since_then other) p2.kept.journal (seat_at p2 other) refl
        (each_with laws g p p2 session seat given turned since_then was.sixteen is seats
        (subst (λ (b : Bool). IsUpTo g session (given session) (turned session) b p2.kept.journal seat) (sym turns) own)
        (λ third is_third differ.
        let no : nat_eq session third ≡ false = grind (arith, nat_tests, differ) in
        subst (λ (b : Bool). IsUpTo g third (given third) (turned third) (b || since third) p2.kept.journal (seat_at p third)) (sym no) (others third is_third differ))
        other is_other)

    -- a turn that does no step
    turn_without : (p2 : Play) (seat : Seat) → p2.kept ≡ p.kept → p2.seats ≡ (with_seat p session seat).seats → IsUpTo g session (given session) (turned session) true p.kept.journal seat
        → (other : ℕ) → IsSession other → IsUpTo g other (given other ++ []) (turned other) (since_then other) p2.kept.journal (seat_at p2 other)
    turn_without p2 seat kept seats own =
        turn_each p2 seat seats (subst (λ (k : StoreState). IsUpTo g session (given session) (turned session) true k.journal seat) (sym kept) own)
        (λ other is_other differ. subst (λ (k : StoreState). IsUpTo g other (given other) (turned other) (since other) k.journal (seat_at p other)) (sym kept) (was.each other is_other))

    abbrev before_ask : StoreState × List Told
    before_ask = (p.kept, turner.told)

    -- one that does a step
    module _ (ask : Ask) (next : ask_there ≡ Some ask) where
      abbrev after_ask : StoreState × List Told
      after_ask = do_ask g session before_ask ask

      ask_served : Serves laws g session after_ask (turner_up.done ++ ask ∷ [])
      ask_served = ask_serves laws g session before_ask turner_up.done ask (record { kept = was.kept; new = was.numbered session is; served = turner_up.served })

      does_each : (other : ℕ) → IsSession other → IsUpTo g other (given other ++ []) (turned other) (since_then other) after_ask.0.journal (seat_at (turn_by g p line session turner (Does ask)) other)
      does_each =
          turn_each (turn_by g p line session turner (Does ask)) (record turner { told = after_ask.1 }) refl
          (did byte_laws g session (given session) (turned session) (since session) p.kept.journal turner turner_up after_ask.0.journal ask (ask_call g p.kept.cache p.kept.desk (number_after session turner.told) ask).answer next ask_served.served)
          (λ other is_other differ. other_up laws g session other before_ask (ask ∷ []) (given other) (turned other) (since other) (seat_at p other) differ (was.each other is_other))

    -- what it leaves, by what it was
    turn_kept : (need : Need) → need_of g turner ≡ need → IsKept g (turn_by g p line session turner need).kept
    turn_kept (Writes piece) same = was.kept
    turn_kept (Does ask) same = (ask_served ask (does_an_ask piece_there ask_there end_there ask same)).kept
    turn_kept Ends same = was.kept
    turn_kept Rests same = was.kept

    turn_all : (need : Need) → need_of g turner ≡ need → (other : ℕ) → IsSession other
        → IsUpTo g other (given other ++ []) (turned other) (since_then other) (turn_by g p line session turner need).kept.journal (seat_at (turn_by g p line session turner need) other)
    turn_all (Writes piece) same =
        turn_without (turn_by g p line session turner (Writes piece)) (record turner { replies = turner.replies ++ piece }) refl refl
        (wrote byte_laws g session (given session) (turned session) (since session) p.kept.journal turner turner_up piece (writes_a_piece piece_there ask_there end_there piece same))
    turn_all (Does ask) same = does_each ask (does_an_ask piece_there ask_there end_there ask same)
    turn_all Ends same =
        turn_without (turn_by g p line session turner Ends) (record turner { closed = true }) refl refl
        (ended byte_laws g session (given session) (turned session) (since session) p.kept.journal turner turner_up (ends_there piece_there ask_there end_there same))
    turn_all Rests same =
        turn_without (turn_by g p line session turner Rests) (record turner { closed = false }) refl refl
        (rested byte_laws g session (given session) (turned session) (since session) p.kept.journal turner turner_up (rests_there piece_there ask_there end_there same))

    turn_holds : Holds g (turn g p line session) (λ other. given other ++ []) turned since_then
    turn_holds = record {
      kept = turn_kept (need_of g turner) refl;
      sixteen = step_seats g p line (Turn session) was.sixteen;
      numbered = step_numbered (number_laws laws) g p line (Turn session) was.sixteen is was.numbered;
      each = turn_all (need_of g turner) refl;
    }

  -- all turns of a session
  module _ (p : Play) (line session : ℕ) (given turned : ℕ → List ℕ) (since : ℕ → Bool) (was : Holds g p given turned since) (is : IsSession session) where
    abbrev seat : Seat
    seat = seat_at p session

    abbrev read : Read
    read = commands_of g.item_max seat.given

    abbrev before : StoreState × List Told
    before = (p.kept, seat.told)

    abbrev after : StoreState × List Told
    after = do_asks g session before (drop (length seat.told) (steps_of read.asked))

    -- what each session was given before its last run, and whether it took single turns since
    abbrev after_run : ℕ → List ℕ
    after_run other = if is_run other (Run session) then given other else turned other

    abbrev after_since : ℕ → Bool
    after_since other = if is_run other (Run session) then false else since other

    abbrev up : IsUpTo g session (given session) (turned session) (since session) p.kept.journal seat
    up = was.each session is

    -- the steps that it hasn't done
    left_are : drop (length seat.told) (steps_of read.asked) ≡ up.later
    left_are = ap (λ (l : List Ask). drop (length seat.told) l) up.later_are ∙ behind_all up.done up.later (length seat.told) up.served.count

    -- with them it has done all that its bytes ask
    all_done : up.done ++ drop (length seat.told) (steps_of read.asked) ≡ steps_in g (given session)
    all_done = ap (λ (l : List Ask). up.done ++ l) left_are ∙ sym up.later_are ∙ ap steps_of (sym up.alike.asked)

    run_serves : Serves laws g session after (steps_in g (given session))
    run_serves =
        subst (Serves laws g session after) all_done
        (asks_serve laws g session before up.done (drop (length seat.told) (steps_of read.asked)) (record { kept = was.kept; new = was.numbered session is; served = up.served }))

    -- a closed session had met the end before
    run_has : is_end read.place ≡ false → seat.given ≡ given session
    run_has free = has_by seat.closed refl
      where
        has_by : (closed : Bool) → seat.closed ≡ closed → seat.given ≡ given session
        has_by false is_open = up.has is_open
        has_by true is_closed = absurd (not_both read.place (up.ended is_closed) free)

    run_own : IsUpTo g session (given session) (given session) false after.0.journal (seat_after_run seat read after.1)
    run_own = record {
      has = run_has;
      alike = up.alike;
      ended = λ closed. at_end read.place closed;
      done = steps_in g (given session);
      later = [];
      later_are = ap steps_of (sym up.alike.asked) ∙ sym (append-nil (steps_in g (given session)));
      served = run_serves.served;
      said = pieces_in g seat.given after.1;
      unsaid = [];
      unsaid_are = sym (append-nil (pieces_in g seat.given after.1));
      replied = sym (byte_laws.joined_are read.asked after.1);
      exact = λ none. record {
        served = run_serves.served;
        replied = ap (λ (asked : List Asked). (talk_of asked after.1).replies) (sym up.alike.asked);
        is_closed = ap is_end (sym up.alike.place);
      };
    }

    -- it is up to its bytes
    run_turned : IsUpTo g session (given session) (after_run session) (after_since session) after.0.journal (seat_after_run seat read after.1)
    run_turned =
        let self : nat_eq session session ≡ true = grind (arith, nat_tests) in
        subst (λ (b : Bool). IsUpTo g session (given session) (if b then given session else turned session) (if b then false else since session) after.0.journal (seat_after_run seat read after.1)) (sym self) run_own

    -- and each other is where it was
    run_others : (other : ℕ) → IsSession other → other ≢ session → IsUpTo g other (given other) (after_run other) (after_since other) after.0.journal (seat_at p other)
    run_others other is_other differ =
        let no : nat_eq session other ≡ false = grind (arith, nat_tests, differ) in
        subst (λ (b : Bool). IsUpTo g other (given other) (if b then given other else turned other) (if b then false else since other) after.0.journal (seat_at p other)) (sym no)
        (other_up laws g session other before (drop (length seat.told) (steps_of read.asked)) (given other) (turned other) (since other) (seat_at p other) differ (was.each other is_other))

    run_holds : Holds g (run g p session) (λ other. given other ++ []) after_run after_since
    run_holds = record {
      kept = run_serves.kept;
      sixteen = step_seats g p line (Run session) was.sixteen;
      numbered = step_numbered (number_laws laws) g p line (Run session) was.sixteen is was.numbered;
      each = λ other is_other. given_none byte_laws g other (given other) [] (after_run other) (after_since other) after.0.journal (seat_at (run g p session) other) refl
          (each_with laws g p (run g p session) session (seat_after_run seat read after.1) given after_run after_since was.sixteen is refl run_turned run_others other is_other);
    }

  -- each step keeps all of it
  pub step_holds : (p : Play) (line : ℕ) (step : Step) (given turned : ℕ → List ℕ) (since : ℕ → Bool) → IsSeated step → Holds g p given turned since
      → Holds g (play_step g p line step) (λ session. given session ++ bytes_for session step) (turned_by step given turned) (since_by step since)
  step_holds p line (Clock reading) given turned since seated was = clock_holds laws g byte_laws p line reading given turned since was
  step_holds p line (Say session bytes) given turned since seated was = feed_holds laws g byte_laws p line session (bytes ++ 13 ∷ 10 ∷ []) given turned since was seated
  step_holds p line (Feed session bytes) given turned since seated was = feed_holds laws g byte_laws p line session bytes given turned since was seated
  step_holds p line (Keep kind) given turned since seated was = upkeep_holds laws g byte_laws p line kind given turned since was
  step_holds p line (Turn session) given turned since seated was = turn_holds p line session given turned since was seated
  step_holds p line (Run session) given turned since seated was = run_holds p line session given turned since was seated

  -- and so do all steps
  steps_hold : (p : Play) (line : ℕ) (steps : List Step) (given turned : ℕ → List ℕ) (since : ℕ → Bool) → AreSeated steps → Holds g p given turned since
      → Holds g (play_from g p line steps) (λ session. given session ++ bytes_to session steps) (λ session. turned_behind session (given session) (turned session) steps) (λ session. turned_since session (since session) steps)
  steps_hold p line [] given turned since seated was = subst (λ (given : ℕ → List ℕ). Holds g p given turned since) (λ j session. sym (append-nil (given session)) j) was
  steps_hold p line (step ∷ steps) given turned since seated was =
      let after = steps_hold (play_step g p line step) (line + 1) steps (λ session. given session ++ bytes_for session step) (turned_by step given turned) (since_by step since) seated.1 (step_holds p line step given turned since seated.0 was) in
      let with_more = λ (session : ℕ). turned_behind session (given session) (turned session) (step ∷ steps) in
      let turns = λ (session : ℕ). turned_since session (since session) (step ∷ steps) in
      subst (λ (all : ℕ → List ℕ). Holds g (play_from g p line (step ∷ steps)) all with_more turns) (λ j session. append_assoc (given session) (bytes_for session step) (bytes_to session steps) j) after

  -- before the first step, where the geometry keeps its rules
  first_holds : Passes g → Holds g (first_play g) (λ session. []) (λ session. []) (λ session. false)
  first_holds passes = record {
    kept = laws.first g passes;
    sixteen = refl;
    numbered = first_numbered g;
    each = λ session is. subst (IsUpTo g session [] [] false []) (sym (nobody 16 (session - 1))) (first_up byte_laws g session);
  }

  -- a script whose steps have a session each
  is_right : (steps : List Step) → Passes g → AreSeated steps → IsRight g steps
  is_right steps passes seated =
      let all = steps_hold (first_play g) 2 steps (λ session. []) (λ session. []) (λ session. false) seated (first_holds passes) in
      let journal = (play_of g steps).kept.journal in record {
        legal = all.kept.run.legal;
        moment = ap (λ (c : Cache). c.now) (sym all.kept.run.same) ∙ play_moment (record { asks = laws.moment; others = laws.others }) g steps;
        so_far = λ session is.
            is_answered_so_far byte_laws g session (bytes_to session steps) (turned_behind session [] [] steps) (turned_since session false steps) journal (seat_at (play_of g steps) session) (all.each session is);
        answered = λ session is none.
            let seat = seat_at (play_of g steps) session in
            is_answered byte_laws g session (bytes_to session steps) (bytes_before_last_run session steps) (turned_since session false steps) journal seat none
            (subst (λ (turns : List ℕ). IsUpTo g session (bytes_to session steps) turns (turned_since session false steps) journal seat) (turned_from_first session steps) (all.each session is));
      }

-- the law
pub every_play : StepLaws → ByteLaws → EveryPlayIsRight
every_play laws byte_laws = λ g steps passes seated. is_right laws byte_laws g steps passes seated
