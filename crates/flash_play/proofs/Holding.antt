-- What holds wherever a play stands: the store is kept, and each session is up to the bytes that it was given.
use Rattle.std.proofs.Common.{◌≡◌, ◌≢◌, ℕ, Bool, true, false, List, [], ◌++◌, length, if◌then◌else◌, refl, sym, ap, subst, arith, inl, inr}
use Rattle.std.specs.Prelude.{nat_eq, codes}
use Rattle.std.proofs.lemmas.Bool.{cases_eq, cond_both}
use Rattle.std.proofs.lemmas.Bool.Decides.{nat_tests}
use Rattle.flash_names.specs.declared.geometry.Geometry.{Geometry}
use Rattle.flash_entry.specs.declared.ask.Ask.{Ask}
use Rattle.flash_entry.specs.declared.entry.Entry.{Entry}
use Rattle.flash_entry.specs.declared.found.Told.{Told}
use Rattle.flash_calls.specs.Calls.{clock_call}
use Rattle.flash_calls.specs.Store.{Call}
use Rattle.flash_answers.specs.Records.{AreOfNoStep}
use Rattle.flash_script.specs.declared.step.Upkeep.{Upkeep}
use Rattle.flash_script.specs.declared.step.Upkeep.TheVariants.{Room, Reap, Juggle}
use Rattle.flash_play.specs.Answers.{bytes_for}
use Rattle.flash_play.specs.Numbers.{IsNumbered}
use Rattle.flash_play.specs.Playing.{Seat, StoreState, Play, after_call, do_asks, seat_at, with_seat, with_line, seat_with_more, feed, called, upkeep_call, play_step}
use Rattle.flash_script.specs.Steps.{Clock, Feed, Keep, IsSession}
use Rattle.flash_play.proofs.Numbering.{step_numbered, upkeep_none}
use Rattle.flash_play.proofs.Seating.{seat_is, seat_same, seat_other, kept_called, seats_called, step_seats}
use Rattle.flash_play.proofs.Serving.{StepLaws, number_laws, IsKept, IsServed, none_keeps, served_behind, asks_serve_other}
use Rattle.flash_play.proofs.UpTo.{ByteLaws, IsUpTo, steps_in, given_none, more_up, closed_up}

-- whatever was played: the store is kept, and each session is up to the bytes that it was given, and to those before its
-- last run unless it took single turns `since`
pub record Holds (g : Geometry) (p : Play) (given turned : ℕ → List ℕ) (since : ℕ → Bool) : Type 0 where
  pub kept : IsKept g p.kept
  pub sixteen : length p.seats ≡ 16
  pub numbered : IsNumbered p
  pub each : (session : ℕ) → IsSession session → IsUpTo g session (given session) (turned session) (since session) p.kept.journal (seat_at p session)

-- the bytes that a step gives to another session
other_bytes : (session other : ℕ) (bytes : List ℕ) → other ≢ session → bytes_for other (Feed session bytes) ≡ []
other_bytes session other bytes differ =
    let no : nat_eq session other ≡ false = grind (arith, nat_tests, differ) in ap (λ b. if b then bytes else []) no

-- and those that it gives to the session itself
own_bytes : (session : ℕ) (bytes : List ℕ) → bytes_for session (Feed session bytes) ≡ bytes
own_bytes session bytes = let self : nat_eq session session ≡ true = grind (arith, nat_tests) in ap (λ b. if b then bytes else []) self

-- a session is up to its bytes over another journal where it was served the same by that
over_journal : (g : Geometry) (session : ℕ) (h h2 : List Entry) (given turned : List ℕ) (since : Bool) (seat : Seat)
    → ((done : List Ask) → IsServed g session h done seat.told → IsServed g session h2 done seat.told)
    → IsUpTo g session given turned since h seat → IsUpTo g session given turned since h2 seat
over_journal g session h h2 given turned since seat served up = record {
  has = up.has;
  alike = up.alike;
  ended = up.ended;
  done = up.done;
  later = up.later;
  later_are = up.later_are;
  served = served up.done up.served;
  said = up.said;
  unsaid = up.unsaid;
  unsaid_are = up.unsaid_are;
  replied = up.replied;
  exact = λ none. let exact = up.exact none in record { served = served (steps_in g turned) exact.served; replied = exact.replied; is_closed = exact.is_closed };
}

module _ (laws : StepLaws) (g : Geometry) where
  -- the sessions after one was put in its place
  pub each_with : (p p2 : Play) (session : ℕ) (seat : Seat) (given turned : ℕ → List ℕ) (since : ℕ → Bool) → length p.seats ≡ 16 → IsSession session → p2.seats ≡ (with_seat p session seat).seats
      → IsUpTo g session (given session) (turned session) (since session) p2.kept.journal seat
      → ((other : ℕ) → IsSession other → other ≢ session → IsUpTo g other (given other) (turned other) (since other) p2.kept.journal (seat_at p other))
      → (other : ℕ) → IsSession other → IsUpTo g other (given other) (turned other) (since other) p2.kept.journal (seat_at p2 other)
  each_with p p2 session seat given turned since sixteen is seats own others other is_other = elim (cases_eq other session) [
    | inl same ↦
        subst (λ (n : ℕ). IsUpTo g n (given n) (turned n) (since n) p2.kept.journal (seat_at p2 n)) (sym same)
        (subst (IsUpTo g session (given session) (turned session) (since session) p2.kept.journal) (sym (seat_same p p2 session seat sixteen is seats)) own)
    | inr differ ↦ subst (IsUpTo g other (given other) (turned other) (since other) p2.kept.journal) (sym (seat_other p p2 session seat sixteen is seats other is_other differ)) (others other is_other differ)
  ]

  -- entries of no step leave a session up to its bytes
  behind_up : (session : ℕ) (h es : List Entry) (given turned : List ℕ) (since : Bool) (seat : Seat) → AreOfNoStep es → IsUpTo g session given turned since h seat → IsUpTo g session given turned since (h ++ es) seat
  behind_up session h es given turned since seat none up =
      over_journal g session h (h ++ es) given turned since seat (λ done served. served_behind laws g session h es done seat.told (none_keeps session done es none) served) up

  -- and so do the steps of another
  pub other_up : (session other : ℕ) (state : StoreState × List Told) (asks : List Ask) (given turned : List ℕ) (since : Bool) (seat : Seat) → other ≢ session → IsUpTo g other given turned since state.0.journal seat
      → IsUpTo g other given turned since (do_asks g session state asks).0.journal seat
  other_up session other state asks given turned since seat differ up =
      over_journal g other state.0.journal (do_asks g session state asks).0.journal given turned since seat (λ done served. asks_serve_other laws g session other state asks done seat.told differ served) up

  -- a call that no session makes leaves each session up to its bytes
  call_each : (p : Play) (line : ℕ) (call : Call Bool) (given turned : ℕ → List ℕ) (since : ℕ → Bool) → AreOfNoStep call.entries → Holds g p given turned since → (session : ℕ) → IsSession session
      → IsUpTo g session (given session) (turned session) (since session) (called p line call).kept.journal (seat_at (called p line call) session)
  call_each p line call given turned since none was session is =
      let seat = seat_at p session in
      let there : seat ≡ seat_at (called p line call) session = sym (seat_is p (called p line call) session (seats_called p line call)) in
      let after = behind_up session p.kept.journal call.entries (given session) (turned session) (since session) seat none (was.each session is) in
      subst (λ (k : StoreState). IsUpTo g session (given session) (turned session) (since session) k.journal (seat_at (called p line call) session)) (sym (kept_called p line call))
      (subst (IsUpTo g session (given session) (turned session) (since session) (after_call p.kept call).journal) there after)

  module _ (byte_laws : ByteLaws) where
    -- a reading of the clock
    pub clock_holds : (p : Play) (line reading : ℕ) (given turned : ℕ → List ℕ) (since : ℕ → Bool) → Holds g p given turned since
        → Holds g (play_step g p line (Clock reading)) (λ session. given session ++ []) turned since
    clock_holds p line reading given turned since was =
        let c = p.kept.cache in
        let call = clock_call c p.kept.desk reading in
        let other = (laws.others g c p.kept.desk).clock reading in record {
          kept = subst (IsKept g) (sym (kept_called p line call)) (laws.clock g c p.kept.journal p.kept.desk reading was.kept);
          sixteen = step_seats g p line (Clock reading) was.sixteen;
          numbered = step_numbered (number_laws laws) g p line (Clock reading) was.sixteen tt was.numbered;
          each = λ session is. given_none byte_laws g session (given session) [] (turned session) (since session) (called p line call).kept.journal (seat_at (called p line call) session) refl
              (call_each p line call given turned since other was session is);
        }

    -- upkeep of the store keeps it
    upkept : (p : Play) (kind : Upkeep) → IsKept g p.kept → IsKept g (after_call p.kept (upkeep_call g p.kept.cache p.kept.desk kind))
    upkept p Room was = laws.room g p.kept.cache p.kept.journal p.kept.desk was
    upkept p Reap was = laws.reaping g p.kept.cache p.kept.journal p.kept.desk was
    upkept p Juggle was = laws.juggling g p.kept.cache p.kept.journal p.kept.desk was

    pub upkeep_holds : (p : Play) (line : ℕ) (kind : Upkeep) (given turned : ℕ → List ℕ) (since : ℕ → Bool) → Holds g p given turned since
        → Holds g (play_step g p line (Keep kind)) (λ session. given session ++ []) turned since
    upkeep_holds p line kind given turned since was =
        let call = upkeep_call g p.kept.cache p.kept.desk kind in record {
          kept = subst (IsKept g) (sym (kept_called p line call)) (upkept p kind was.kept);
          sixteen = step_seats g p line (Keep kind) was.sixteen;
          numbered = step_numbered (number_laws laws) g p line (Keep kind) was.sixteen tt was.numbered;
          each = λ session is. given_none byte_laws g session (given session) [] (turned session) (since session) (called p line call).kept.journal (seat_at (called p line call) session) refl
              (call_each p line call given turned since (upkeep_none (number_laws laws) g p kind) was session is);
        }

    -- bytes for a session
    module _ (p : Play) (line session : ℕ) (bytes : List ℕ) (given turned : ℕ → List ℕ) (since : ℕ → Bool) (was : Holds g p given turned since) (is : IsSession session) where
      -- what each session was given with them
      abbrev after_feed : ℕ → List ℕ
      after_feed other = given other ++ bytes_for other (Feed session bytes)

      -- the session itself
      feed_own : (seat : Seat) → IsUpTo g session (given session ++ bytes) (turned session) (since session) p.kept.journal seat → IsUpTo g session (after_feed session) (turned session) (since session) p.kept.journal seat
      feed_own seat up = subst (λ (more : List ℕ). IsUpTo g session (given session ++ more) (turned session) (since session) p.kept.journal seat) (sym (own_bytes session bytes)) up

      -- and the others
      feed_others : (other : ℕ) → IsSession other → other ≢ session → IsUpTo g other (after_feed other) (turned other) (since other) p.kept.journal (seat_at p other)
      feed_others other is_other differ =
          given_none byte_laws g other (given other) (bytes_for other (Feed session bytes)) (turned other) (since other) p.kept.journal (seat_at p other) (other_bytes session other bytes differ) (was.each other is_other)

      -- where the session is closed, and where it takes them
      abbrev closed : Play
      closed = with_line (with_seat p session (seat_at p session)) (codes "closed") line

      abbrev takes : Play
      takes = with_seat p session (seat_with_more (seat_at p session) bytes)

      -- both ways each session is up to its bytes
      abbrev AllAreUp : Play → Type 0
      AllAreUp q = (other : ℕ) → IsSession other → IsUpTo g other (after_feed other) (turned other) (since other) q.kept.journal (seat_at q other)

      closed_holds : (seat_at p session).closed ≡ true → AllAreUp closed
      closed_holds is_closed =
          let seat = seat_at p session in
          each_with p closed session seat after_feed turned since was.sixteen is refl
          (feed_own seat (closed_up byte_laws g session (given session) bytes (turned session) (since session) p.kept.journal seat is_closed (was.each session is))) feed_others

      takes_holds : (seat_at p session).closed ≡ false → AllAreUp takes
      takes_holds is_open =
          let seat = seat_at p session in
          each_with p takes session (seat_with_more seat bytes) after_feed turned since was.sixteen is refl
          (feed_own (seat_with_more seat bytes) (more_up byte_laws g session (given session) bytes (turned session) (since session) p.kept.journal seat is_open (was.each session is))) feed_others

      pub feed_holds : Holds g (feed p line session bytes) after_feed turned since
      feed_holds = record {
        kept = cond_both (seat_at p session).closed closed takes (λ q. IsKept g q.kept) (λ is_closed. was.kept) (λ free. was.kept);
        sixteen = step_seats g p line (Feed session bytes) was.sixteen;
        numbered = step_numbered (number_laws laws) g p line (Feed session bytes) was.sixteen is was.numbered;
        each = cond_both (seat_at p session).closed closed takes AllAreUp closed_holds takes_holds;
      }
