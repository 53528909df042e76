-- What the steps of sessions make of a play.
use Rattle.std.proofs.Common.{◌≡◌, ℕ, ◌-◌, ◌≤◌, Bool, true, false, not, List, [], ◌∷◌, ◌++◌, length, Option, None, Some, IsTrue, is_some, if◌then◌else◌, refl, sym, ◌∙◌, ap, subst, length-set}
use Rattle.std.specs.Prelude.{slice_set, codes, decimal}
use Rattle.std.proofs.lemmas.Bool.{cond_both}
use Rattle.flash_names.specs.declared.geometry.Geometry.{Geometry}
use Rattle.flash_names.specs.declared.place.Id.{Id}
use Rattle.flash_entry.specs.declared.entry.Entry.{Entry}
use Rattle.flash_machine.specs.NewSteps.{IsNew}
use Rattle.flash_core.specs.Sound.{IsNewTold}
use Rattle.flash_calls.specs.Store.{Store}
use Rattle.flash_commands.specs.Commands.{commands_of}
use Rattle.flash_play.specs.Numbers.{StepsLeaveNumbersNew}
use Rattle.flash_play.specs.Playing as play
use Rattle.flash_play.specs.Playing.{Seat, StoreState, Play, Need, Writes, Does, Ends, Rests, need_of, turned, with_need_line, number_after, seat_at, with_seat, with_line, seat_with_more, feed, seat_after_run, run, play_step}
use Rattle.flash_script.specs.Steps.{IsSession, IsSeated}
use Rattle.flash_script.specs.declared.step.Step as code_step
use Rattle.flash_script.specs.declared.step.Step.TheVariants as steps
use Rattle.flash_seats.specs.declared.seat.Seat as code
use Rattle.flash_seats.specs.declared.seat.Turn.{Turn}
use Rattle.flash_seats.specs.Laws.{ASeatHasTheNextNumber}
use Rattle.flash_seats.specs.Seats.{entries_of, IsSeat}
use Rattle.flash_seats.specs.Turns.{steps_left, turn_of, next_id, HasTurned, HasRun}
use Rattle.flash_script.specs.CodeScripts.{step_meant}
use Rattle.flash_trace.specs.Seats.{AreSeats, IsPlay, TraceGoesOn, with_turn_line}
use Rattle.flash_trace.specs.declared.play.Play as code_play
use Rattle.flash_trace.proofs.Playing.SeatLists.{are_put_back}

-- bytes for a session
module _ (item_max : ℕ) (p : Play) (line number : ℕ) (bytes printed printed2 : List ℕ) (old taken_out put : List (Option code.Seat)) (new : code.Seat) (some : 1 ≤ number)
    (takes : taken_out ≡ slice_set old (number - 1) None) (puts : put ≡ slice_set taken_out (number - 1) (Some new)) (are : AreSeats item_max 1 p.seats old) (said : p.printed ≡ printed) where
  abbrev seat : Seat
  seat = seat_at p number

  abbrev IsFed : Play → Type 0
  IsFed q = AreSeats item_max 1 q.seats put × (q.printed ≡ printed2)

  pub fed : (taken : Bool) → taken ≡ not seat.closed → IsSeat item_max number (if taken then seat_with_more seat bytes else seat) new
      → printed2 ≡ (if taken then printed else printed ++ codes "closed" ++ 32 ∷ decimal line ++ 10 ∷ []) → IsFed (feed p line number bytes)
  fed taken is heard lines =
      cond_both seat.closed (with_line (with_seat p number seat) (codes "closed") line) (with_seat p number (seat_with_more seat bytes)) IsFed
      (λ closed.
      let none : taken ≡ false = is ∙ ap not closed in (
        are_put_back item_max number p.seats old taken_out put seat new some takes puts (subst (λ (b : Bool). IsSeat item_max number (if b then seat_with_more seat bytes else seat) new) none heard) are,
        ap (λ (l : List ℕ). l ++ codes "closed" ++ 32 ∷ decimal line ++ 10 ∷ []) said
            ∙ sym (lines ∙ ap (λ (b : Bool). if b then printed else printed ++ codes "closed" ++ 32 ∷ decimal line ++ 10 ∷ []) none),
      ))
      (λ free.
      let all : taken ≡ true = is ∙ ap not free in (
        are_put_back item_max number p.seats old taken_out put (seat_with_more seat bytes) new some takes puts (subst (λ (b : Bool). IsSeat item_max number (if b then seat_with_more seat bytes else seat) new) all heard) are,
        said ∙ sym (lines ∙ ap (λ (b : Bool). if b then printed else printed ++ codes "closed" ++ 32 ∷ decimal line ++ 10 ∷ []) all),
      ))

-- a number that is new where a journal tells its entries
new_told : (told : Option (List Entry)) (id : Id) → IsNew (entries_of told) id → IsNewTold told id
new_told None id new = λ h tells. absurd (cc tells)
new_told (Some entries) id new = λ h tells. let one : entries ≡ h = cc tells in subst (λ (j : List Entry). IsNew j id) one new

-- the number that a session's turn begins with
pub next_new : ASeatHasTheNextNumber → (s : Store) (p : code_play.Play) (number : ℕ) (code : code.Seat) (going : TraceGoesOn s p) → IsSession number → IsSeat s.geometry.item_max number (seat_at going.play number) code → IsNewTold s.told (next_id code)
next_new law s p number code going session own =
    let told = (seat_at going.play number).told in
    let new : IsNew (entries_of s.told) (number_after number told) = subst (λ (k : StoreState). IsNew k.journal (number_after number told)) going.is.kept (going.numbered number session) in
    subst (IsNewTold s.told) (sym (law s.geometry.item_max number (seat_at going.play number) code own)) (new_told s.told (number_after number told) new)

-- a turn of a session
pub ran : (s s2 : Store) (p p2 taken_out : code_play.Play) (q : Play) (number : ℕ) (new : code.Seat) → 1 ≤ number → taken_out.seats.items ≡ slice_set p.seats.items (number - 1) None
    → p2.seats.items ≡ slice_set taken_out.seats.items (number - 1) (Some new) → p2.printed.items ≡ p.printed.items → s2.geometry ≡ s.geometry → HasRun number (seat_at q number) s s2 new → IsPlay q s p → IsPlay (run s.geometry q number) s2 p2
ran s s2 p p2 taken_out q number new some takes puts printed geometry has was =
    let seat = seat_at q number in
    let read = commands_of s.geometry.item_max seat.given in
    let after = λ (k : StoreState). steps_left s.geometry seat.given seat.told (k, seat.told) number in
    let own : IsSeat s.geometry.item_max number (seat_after_run seat read (after q.kept).1) new = subst (λ (k : StoreState). IsSeat s.geometry.item_max number (seat_after_run seat read (after k).1) new) (sym was.kept) has.seat in
    record {
      kept = ap (λ (k : StoreState). (after k).0) was.kept ∙ sym has.kept;
      printed = was.printed ∙ sym printed;
      sixteen = length-set q.seats (number - 1) _ ∙ was.sixteen;
      seats =
          subst (λ (g : Geometry). AreSeats g.item_max 1 (run s.geometry q number).seats p2.seats.items) (sym geometry)
          (are_put_back s.geometry.item_max number q.seats p.seats.items taken_out.seats.items p2.seats.items (seat_after_run seat read (after q.kept).1) new some takes puts own was.seats);
    }

-- the line of a turn is printed where there was none
need_line : (q : Play) (line : ℕ) (need : Need) → (with_need_line q line need).printed ≡ with_turn_line q.printed line (turn_of need)
need_line q line (Writes piece) = refl
need_line q line (Does ask) = refl
need_line q line Ends = refl
need_line q line Rests = refl

-- and the rest is as the turn leaves it
need_kept : (q : Play) (line : ℕ) (need : Need) → (with_need_line q line need).kept ≡ q.kept
need_kept q line (Writes piece) = refl
need_kept q line (Does ask) = refl
need_kept q line Ends = refl
need_kept q line Rests = refl

need_seats : (q : Play) (line : ℕ) (need : Need) → (with_need_line q line need).seats ≡ q.seats
need_seats q line (Writes piece) = refl
need_seats q line (Does ask) = refl
need_seats q line Ends = refl
need_seats q line Rests = refl

-- a single turn of a session
pub took_turn : (s s2 : Store) (p p2 taken_out : code_play.Play) (q : Play) (number line : ℕ) (turn : Turn) (new : code.Seat) → 1 ≤ number → taken_out.seats.items ≡ slice_set p.seats.items (number - 1) None
    → p2.seats.items ≡ slice_set taken_out.seats.items (number - 1) (Some new) → p2.printed.items ≡ with_turn_line p.printed.items line turn → s2.geometry ≡ s.geometry
    → HasTurned turn number (seat_at q number) s s2 new → IsPlay q s p → IsPlay (play.turn s.geometry q line number) s2 p2
took_turn s s2 p p2 taken_out q number line turn new some takes puts printed geometry has was =
    let seat = seat_at q number in
    let need = need_of s.geometry seat in
    let after = λ (k : StoreState). turned s.geometry number k seat need in
    let own : IsSeat s.geometry.item_max number (after q.kept).1 new = subst (λ (k : StoreState). IsSeat s.geometry.item_max number (after k).1 new) (sym was.kept) has.seat in
    let put = with_seat (record q { kept = (after q.kept).0 }) number (after q.kept).1 in
    record {
      kept = need_kept put line need ∙ ap (λ (k : StoreState). (after k).0) was.kept ∙ sym has.kept;
      printed = need_line put line need ∙ ap (λ (l : List ℕ). with_turn_line l line (turn_of need)) was.printed ∙ ap (with_turn_line p.printed.items line) (sym has.turn_is) ∙ sym printed;
      sixteen = ap (λ (l : List (Option Seat)). length l) (need_seats put line need) ∙ length-set q.seats (number - 1) _ ∙ was.sixteen;
      seats =
          subst (λ (l : List (Option Seat)). AreSeats s2.geometry.item_max 1 l p2.seats.items) (sym (need_seats put line need))
          (subst (λ (g : Geometry). AreSeats g.item_max 1 put.seats p2.seats.items) (sym geometry)
          (are_put_back s.geometry.item_max number q.seats p.seats.items taken_out.seats.items p2.seats.items (after q.kept).1 new some takes puts own was.seats));
    }

-- each step of the code has a session
pub seated_meant : (script : List ℕ) (step : code_step.Step) → IsSeated (step_meant script step)
seated_meant script (steps.Clock reading) = tt
seated_meant script (steps.Keep kind) = tt
seated_meant script (steps.Say session first last) = record { some = session.some; within = session.within }
seated_meant script (steps.Feed session first last) = record { some = session.some; within = session.within }
seated_meant script (steps.Turn session) = record { some = session.some; within = session.within }
seated_meant script (steps.Run session) = record { some = session.some; within = session.within }

-- a trace goes on by a step
pub trace_goes_on : StepsLeaveNumbersNew → (s s2 : Store) (p p2 : code_play.Play) (script : List ℕ) (step : code_step.Step) (line : ℕ) → (going : TraceGoesOn s p)
    → ((q : Play) → IsPlay q s p → IsPlay (play_step s.geometry q line (step_meant script step)) s2 p2) → length p2.seats.items ≡ 16 → IsTrue (is_some s2.told) → TraceGoesOn s2 p2
trace_goes_on law s s2 p p2 script step line going done places tells = record {
  tells = tells;
  places = places;
  play = play_step s.geometry going.play line (step_meant script step);
  is = done going.play going.is;
  numbered = law s.geometry going.play line (step_meant script step) going.is.sixteen (seated_meant script step) going.numbered;
}
