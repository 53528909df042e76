-- What a session's single turn makes of it.
use Rattle.std.proofs.Common.{◌≡◌, ℕ, zero, suc, ◌+◌, Bool, true, false, List, [], ◌∷◌, ◌++◌, length, take, drop, Option, None, Some, IsTrue, is_some, refl, sym, ◌∙◌, ap, subst, append_assoc}
use Rattle.std.specs.Prelude.{slice_get}
use Rattle.std.proofs.lemmas.List.{append-nil, take-append-drop}
use Rattle.flash_names.specs.declared.geometry.Geometry.{Geometry}
use Rattle.flash_names.specs.declared.place.Id.{Id}
use Rattle.flash_entry.specs.declared.ask.Ask.{Ask}
use Rattle.flash_entry.specs.declared.found.Told.{Told}
use Rattle.flash_calls.specs.Store.{Store, Becomes}
use Rattle.flash_answers.specs.AskCalls.{ask_call}
use Rattle.flash_commands.specs.declared.place.Place.TheVariants.{AtQuit, TooLong}
use Rattle.flash_commands.specs.Commands.{commands_of}
use Rattle.flash_commands.specs.Laws.{IsEnd, joined}
use Rattle.flash_reader.specs.Readers.{fed}
use Rattle.flash_session.specs.Pieces.{pieces_of, piece_after, next_piece, HoldsAPiece}
use Rattle.flash_session.specs.Stands.{Stands}
use Rattle.flash_session.specs.States.{Session, front_now, told_at, sent}
use Rattle.flash_session.specs.Talks.{ends_command, talk_of}
use Rattle.flash_session.specs.Todos.{IsAtRest, Needs}
use Rattle.flash_session.specs.declared.todo.Todo.TheVariants.{Write, Do, Closed, Input}
use Rattle.flash_session.specs.declared.todo.Ending.{Ending}
use Rattle.flash_session.specs.declared.todo.Ending.TheVariants.{Quit, LineTooLong, UsedUp}
use Rattle.flash_session.proofs.Pieces.{piece_behind}
use Rattle.flash_play.specs.Laws.{EachAnswerHadMemory}
use Rattle.flash_play.specs.Playing.{Seat, StoreState, Need, Writes, Does, Ends, Rests, need_by, need_of, turned, number_after, after_call, is_end}
use Rattle.flash_seats.specs.declared.seat.Seat as code
use Rattle.flash_seats.specs.declared.seat.Turn.{Turn}
use Rattle.flash_seats.specs.declared.seat.Turn.TheVariants as turns
use Rattle.flash_seats.specs.Laws.{SessionLaws}
use Rattle.flash_seats.specs.Seats.{kept_of, rest_of, IsSeat}
use Rattle.flash_seats.specs.Turns.{turn_of, HasTurned, FedOrTurned, fed_now, HasFed, HasEnded}
use Rattle.flash_seats.proofs.Parts.{idle_if, take_all, kept_after}
use Rattle.flash_seats.proofs.Turning.{IsDone, steps_in, all_had, answered, step_there, number_is, done_at_rest, done_at_end, no_end}

-- all that there is, dropped
none_left : (xs : List ℕ) → drop (length xs) xs ≡ []
none_left [] = refl
none_left (x ∷ xs) = none_left xs

-- behind all that there is, nothing stands
none_at : (xs : List Ask) (k : ℕ) → drop k xs ≡ [] → slice_get xs k ≡ None
none_at [] k none = refl
none_at (x ∷ xs) zero none = absurd (cc none)
none_at (x ∷ xs) (suc k) none = none_at xs k none

-- where nothing is to be sent, it is no piece
nothing_held : (bytes : List ℕ) (told : List Told) (gone : List ℕ) (s : Session) → s.out ≡ [] → HoldsAPiece bytes told gone s
nothing_held bytes told gone s none some = absurd (some none)

-- a turn of a store that was left as it was is one of that
pub turned_from : (turn : Turn) (number : ℕ) (was : Seat) (s0 s s2 : Store) (new : code.Seat) → s.geometry ≡ s0.geometry → kept_of s ≡ kept_of s0 → HasTurned turn number was s s2 new → HasTurned turn number was s0 s2 new
turned_from turn number was s0 s s2 new geometry kept has = record {
  turn_is = has.turn_is ∙ ap (λ (g : Geometry). turn_of (need_of g was)) geometry;
  kept =
      has.kept ∙ ap (λ (g : Geometry). (turned g number (kept_of s) was (need_of g was)).0) geometry
      ∙ ap (λ (k : StoreState). (turned s0.geometry number k was (need_of s0.geometry was)).0) kept;
  seat =
      subst (λ (k : StoreState). IsSeat s0.geometry.item_max number (turned s0.geometry number k was (need_of s0.geometry was)).1 new) kept
      (subst (λ (g : Geometry). IsSeat g.item_max number (turned g number (kept_of s) was (need_of g was)).1 new) geometry has.seat);
}

module _ (laws : SessionLaws) (number : ℕ) (was : Seat) (s : Store) where
  abbrev item_max : ℕ
  item_max = s.geometry.item_max

  -- a turn that is known is the session's
  by_need : (need : Need) (s2 : Store) (new : code.Seat) → need_of s.geometry was ≡ need → kept_of s2 ≡ (turned s.geometry number (kept_of s) was need).0 → IsSeat item_max number (turned s.geometry number (kept_of s) was need).1 new
      → HasTurned (turn_of need) number was s s2 new
  by_need need s2 new is kept seat = record {
    turn_is = ap turn_of (sym is);
    kept = kept ∙ ap (λ (n : Need). (turned s.geometry number (kept_of s) was n).0) (sym is);
    seat = subst (λ (n : Need). IsSeat item_max number (turned s.geometry number (kept_of s) was n).1 new) (sym is) seat;
  }

  module _ (old : code.Seat) (is : IsSeat item_max number was old) where
    abbrev steps : List Ask
    steps = steps_in item_max was.given

    -- what is next, by the bytes that were fed and those that weren't
    next_of : (piece : Option (List ℕ)) (ask : Option Ask) (end : Bool) → next_piece item_max (is.fed ++ rest_of old) was.told was.replies ≡ piece → slice_get (steps_in item_max (is.fed ++ rest_of old)) (length was.told) ≡ ask
        → is_end (commands_of item_max (is.fed ++ rest_of old)).place ≡ end → need_of s.geometry was ≡ need_by piece ask end
    next_of piece ask end pieces asks ends =
        ap (λ (l : List ℕ). need_by (next_piece item_max l was.told was.replies) (slice_get (steps_in item_max l) (length was.told)) (is_end (commands_of item_max l).place)) is.given
        ∙ ap (λ (p : Option (List ℕ)). need_by p (slice_get (steps_in item_max (is.fed ++ rest_of old)) (length was.told)) (is_end (commands_of item_max (is.fed ++ rest_of old)).place)) pieces
        ∙ ap (λ (a : Option Ask). need_by piece a (is_end (commands_of item_max (is.fed ++ rest_of old)).place)) asks
        ∙ ap (need_by piece ask) ends

    -- what holds of the session that it has come to be
    module _ (mid : Session) (size : mid.reads.item_max ≡ old.session.reads.item_max) (stands : Stands is.fed was.told was.replies mid) where
      abbrev size_is : mid.reads.item_max ≡ item_max
      size_is = size ∙ is.size

      -- a piece of its replies
      pub took : (new : code.Seat) → Needs old.session Write mid → new.replies.items ≡ old.replies.items ++ mid.out → new.session ≡ sent mid (length mid.out) → rest_of new ≡ rest_of old → new.closed ≡ old.closed
          → HasTurned turns.Taken number was s s new
      took new needs replies session rest closed =
          let held : next_piece item_max is.fed was.told was.replies ≡ Some mid.out = subst (λ (m : ℕ). next_piece m is.fed was.told was.replies ≡ Some mid.out) size_is (needs.piece is.fed was.told was.replies is.stands is.piece needs.next) in
          let piece = laws.piece item_max is.fed (rest_of old) was.told was.replies mid.out held in
          let gone : was.replies ++ take (length mid.out) mid.out ≡ was.replies ++ mid.out = ap (λ (l : List ℕ). was.replies ++ l) (take_all mid.out) in
          let after : Stands is.fed was.told (was.replies ++ mid.out) new.session =
          subst (Stands is.fed was.told (was.replies ++ mid.out)) (sym session) (subst (λ (l : List ℕ). Stands is.fed was.told l (sent mid (length mid.out))) gone (laws.send is.fed was.told was.replies mid (length mid.out) stands)) in
          by_need (Writes mid.out) s new (next_of (Some mid.out) _ _ piece refl refl) refl
          (record {
            fed = is.fed;
            given = is.given ∙ ap (λ (l : List ℕ). is.fed ++ l) (sym rest);
            stands = after;
            piece = nothing_held is.fed was.told (was.replies ++ mid.out) new.session (ap (λ (t : Session). t.out) session ∙ none_left mid.out);
            each = is.each;
            replies = replies ∙ ap (λ (l : List ℕ). l ++ mid.out) is.replies;
            closed = closed ∙ is.closed;
            size = ap (λ (t : Session). t.reads.item_max) session ∙ size_is;
            pass = ap (λ (t : Session). t.pass) session ∙ needs.pass ∙ is.pass;
            free = ap (λ (t : Session). t.owed) session ∙ needs.counted.0 ∙ is.free;
          })

      -- a step
      pub did_one : EachAnswerHadMemory → (s2 : Store) (new : code.Seat) (id : Id) (ask : Ask) (answer : Told) → Needs old.session (Do id ask) mid → IsTrue (is_some s.told)
          → Becomes s (ask_call s.geometry s.cache s.desk id ask) s2 → answer ≡ (ask_call s.geometry s.cache s.desk id ask).answer → new.session ≡ told_at mid (front_now mid) answer → rest_of new ≡ rest_of old
          → new.replies.items ≡ old.replies.items → new.closed ≡ old.closed → HasTurned turns.Taken number was s s2 new
      did_one had s2 new id ask answer needs tells becomes told_is session rest replies closed =
          let told = was.told in
          let owes : mid.owed ≡ true = needs.next.1 in
          let none : next_piece item_max (is.fed ++ rest_of old) told was.replies ≡ None =
          subst (λ (m : ℕ). next_piece m (is.fed ++ rest_of old) told was.replies ≡ None) size_is (laws.none is.fed (rest_of old) told was.replies mid ask needs.next.0 needs.next.3 stands) in
          let there = step_there laws item_max is.fed (rest_of old) told was.replies mid size_is is.each stands ask needs.next.3 in
          let after = answered mid ask answer needs.next.3 in
          let last : mid.last ≡ length told + 1 = number_is laws item_max is.fed (rest_of old) told was.replies mid size_is is.each stands owes in
          let id_is : id ≡ number_after number told =
          needs.next.2 ∙ ap (λ (n : ℕ). record { pass = n; seq = mid.last }) (needs.pass ∙ is.pass) ∙ ap (λ (n : ℕ). record { pass = number; seq = n }) last in
          let call = λ (i : Id). ask_call s.geometry s.cache s.desk i ask in
          let answer_is : answer ≡ (call (number_after number told)).answer = told_is ∙ ap (λ (i : Id). (call i).answer) id_is in
          let told2 = told ++ answer ∷ [] in
          let seat2 : IsSeat item_max number (record was { told = told2 }) new = record {
            fed = is.fed;
            given = is.given ∙ ap (λ (l : List ℕ). is.fed ++ l) (sym rest);
            stands = subst (Stands is.fed told2 was.replies) (sym session) (laws.answer is.fed told was.replies mid answer owes stands);
            piece = subst (HoldsAPiece is.fed told2 was.replies) (sym session) (laws.told is.fed told was.replies mid answer needs.next.0 owes stands);
            each = all_had told answer is.each (ap ends_command told_is ∙ had s.geometry s.cache s.desk id ask);
            replies = replies ∙ is.replies;
            closed = closed ∙ is.closed;
            size = ap (λ (t : Session). t.reads.item_max) session ∙ after.item_max ∙ size_is;
            pass = ap (λ (t : Session). t.pass) session ∙ after.pass ∙ needs.pass ∙ is.pass;
            free = ap (λ (t : Session). t.owed) session ∙ after.free;
          } in
          by_need (Does ask) s2 new (next_of None (Some ask) _ none there refl)
          (kept_after s s2 (call id) tells becomes ∙ ap (λ (i : Id). after_call (kept_of s) (call i)) id_is)
          (subst (λ (a : Told). IsSeat item_max number (record was { told = told ++ a ∷ [] }) new) answer_is seat2)

      -- no piece is next where all replies were taken
      all_taken : (bytes : List ℕ) → (talk_of (commands_of item_max bytes).asked was.told).replies ≡ was.replies → next_piece item_max bytes was.told was.replies ≡ None
      all_taken bytes said =
          let pieces = pieces_of (commands_of item_max bytes).asked was.told in
          let whole : joined pieces ≡ was.replies = laws.pieces (commands_of item_max bytes).asked was.told ∙ said in
          ap (λ (l : List ℕ). piece_after (length l) pieces) (sym whole) ∙ ap (piece_after (length (joined pieces))) (sym (append-nil pieces)) ∙ piece_behind pieces []

      -- no turn
      none_next : (end : Bool) (need : Need) (new : code.Seat) (done : IsDone laws item_max is.fed (rest_of old) was.told was.replies mid size_is is.each stands) → is_end mid.reads.reader.place ≡ end
          → mid.pass ≡ old.session.pass → mid.owed ≡ old.session.owed → mid.out ≡ [] → new.session ≡ mid → rest_of new ≡ rest_of old → new.replies.items ≡ old.replies.items
          → need_of s.geometry was ≡ need_by None None end × IsSeat item_max number (record was { closed = new.closed }) new
      none_next end need new done place pass owed sent_all session rest replies = (
        next_of None None end (all_taken (is.fed ++ rest_of old) done.replies) (none_at (steps_in item_max (is.fed ++ rest_of old)) (length was.told) done.none) (ap is_end done.place ∙ place),
        record {
          fed = is.fed;
          given = is.given ∙ ap (λ (l : List ℕ). is.fed ++ l) (sym rest);
          stands = subst (Stands is.fed was.told was.replies) (sym session) stands;
          piece = nothing_held is.fed was.told was.replies new.session (ap (λ (t : Session). t.out) session ∙ sent_all);
          each = is.each;
          replies = replies ∙ is.replies;
          closed = refl;
          size = ap (λ (t : Session). t.reads.item_max) session ∙ size_is;
          pass = ap (λ (t : Session). t.pass) session ∙ pass ∙ is.pass;
          free = ap (λ (t : Session). t.owed) session ∙ owed ∙ is.free;
        },
      )

      -- it was fed more, or has no bytes left
      pub fed_or_idle : (mid_code new : code.Seat) (last : Bool) → Needs old.session Input mid → mid_code.session ≡ mid → rest_of mid_code ≡ rest_of old → mid_code.replies.items ≡ old.replies.items → mid_code.closed ≡ old.closed
          → HasFed last mid_code new → FedOrTurned (idle_if last) number was s s new
      fed_or_idle mid_code new true needs same rest replies shut has =
          let at = needs.next.0 in
          let none : rest_of old ≡ [] = sym rest ∙ has.0 in
          let done = done_at_rest laws item_max is.fed (rest_of old) was.told was.replies mid size_is is.each stands none at.free.sent at.rests in
          let next = none_next false Rests new done (no_end mid.reads.reader.place needs.next.1) needs.pass needs.counted.0 at.free.sent (has.2 ∙ same) (has.1 ∙ sym none) (has.3 ∙ replies) in
          by_need Rests s new next.0 refl (subst (λ (b : Bool). IsSeat item_max number (record was { closed = b }) new) has.4 next.1)
      fed_or_idle mid_code new false needs same rest replies shut has =
          let n = fed_now mid_code in
          let more = take n (rest_of old) in
          let session : new.session ≡ record mid { reads = record mid.reads { reader = fed mid.reads.reader more } } =
          (has.2 ∙ ap (λ (t : Session). record t { reads = record t.reads { reader = fed t.reads.reader (take n (rest_of mid_code)) } }) same
          ∙ ap (λ (l : List ℕ). record mid { reads = record mid.reads { reader = fed mid.reads.reader (take n l) } }) rest) in (
            refl,
            record {
              fed = is.fed ++ more;
              given =
                  is.given ∙ ap (λ (l : List ℕ). is.fed ++ l) (sym (take-append-drop n (rest_of old)))
                  ∙ sym (append_assoc is.fed more (drop n (rest_of old))) ∙ ap (λ (l : List ℕ). (is.fed ++ more) ++ l) (sym (has.0 ∙ ap (λ (l : List ℕ). drop n l) rest));
              stands = subst (Stands (is.fed ++ more) was.told was.replies) (sym session) (laws.feed is.fed more was.told was.replies mid stands);
              piece = nothing_held (is.fed ++ more) was.told was.replies new.session (ap (λ (t : Session). t.out) session ∙ needs.next.0.free.sent);
              each = is.each;
              replies = has.1 ∙ replies ∙ is.replies;
              closed = has.3 ∙ shut ∙ is.closed;
              size = ap (λ (t : Session). t.reads.item_max) session ∙ size_is;
              pass = ap (λ (t : Session). t.pass) session ∙ needs.pass ∙ is.pass;
              free = ap (λ (t : Session). t.owed) session ∙ needs.counted.0 ∙ is.free;
            },
          )

      -- its bytes have an end
      closed_at : (new : code.Seat) → IsAtRest mid → IsEnd mid.reads.reader.place → is_end mid.reads.reader.place ≡ true → mid.pass ≡ old.session.pass → mid.owed ≡ old.session.owed
          → new.session ≡ mid → rest_of new ≡ rest_of old → new.replies.items ≡ old.replies.items → new.closed ≡ true → HasTurned turns.Closed number was s s new
      closed_at new at end is_it pass owed session rest replies closed =
          let done = done_at_end laws item_max is.fed (rest_of old) was.told was.replies mid size_is is.each stands end at.free.sent at.rests in
          let next = none_next true Ends new done is_it pass owed at.free.sent session rest replies in
          by_need Ends s new next.0 refl (subst (λ (b : Bool). IsSeat item_max number (record was { closed = b }) new) closed next.1)

      pub closed_now : (mid_code new : code.Seat) (ending : Ending) → Needs old.session (Closed ending) mid → mid_code.session ≡ mid → rest_of mid_code ≡ rest_of old → mid_code.replies.items ≡ old.replies.items → HasEnded ending mid_code new
          → HasTurned turns.Closed number was s s new
      closed_now mid_code new Quit needs same rest replies has =
          let place : mid.reads.reader.place ≡ AtQuit = needs.next.1 in
          closed_at new needs.next.0 (subst IsEnd (sym place) tt) (ap is_end place) needs.pass needs.counted.0 (has.1 ∙ same) (has.0 ∙ rest) (has.2 ∙ replies) has.3
      closed_now mid_code new LineTooLong needs same rest replies has =
          let place : mid.reads.reader.place ≡ TooLong = needs.next.1 in
          closed_at new needs.next.0 (subst IsEnd (sym place) tt) (ap is_end place) needs.pass needs.counted.0 (has.1 ∙ same) (has.0 ∙ rest) (has.2 ∙ replies) has.3
      closed_now mid_code new UsedUp needs same rest replies has = absurd has
