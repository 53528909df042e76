-- What each turn makes of all turns that a run takes.
use Rattle.std.proofs.Common.{◌≡◌, ℕ, ◌+◌, Bool, true, false, List, [], ◌∷◌, ◌++◌, length, take, drop, Option, None, Some, IsTrue, is_some, refl, sym, ◌∙◌, ap, subst, append_assoc}
use Rattle.std.specs.Prelude.{min, Result, Ok, Err, IfOk, OnOk}
use Rattle.std.proofs.lemmas.List.{take-append-drop, length-append}
use Rattle.flash_names.specs.Told.{with_more}
use Rattle.flash_names.specs.declared.geometry.Geometry.{Geometry}
use Rattle.flash_names.specs.declared.place.Id.{Id}
use Rattle.flash_entry.specs.declared.ask.Ask.{Ask}
use Rattle.flash_entry.specs.declared.entry.Entry.{Entry}
use Rattle.flash_entry.specs.declared.found.Told.{Told}
use Rattle.flash_machine.specs.NewSteps.{IsNew}
use Rattle.flash_core.specs.Sound.{IsNewTold}
use Rattle.flash_calls.specs.Store.{Store, Call, Becomes}
use Rattle.flash_answers.specs.AskCalls.{ask_call}
use Rattle.flash_answers.specs.Laws.{EachAskRecordsItself, NumbersStayNew}
use Rattle.flash_commands.specs.Commands.{commands_of}
use Rattle.flash_commands.specs.Laws.{IsEnd}
use Rattle.flash_reader.specs.Readers.{room_of, fed}
use Rattle.flash_session.specs.Stands.{Stands}
use Rattle.flash_session.specs.States.{Session, front_now, told_at, sent}
use Rattle.flash_session.specs.Talks.{ends_command, talk_of}
use Rattle.flash_session.specs.Todos.{IsAtRest, Needs}
use Rattle.flash_session.specs.declared.todo.Todo.TheVariants.{Write, Do, Closed, Input}
use Rattle.flash_session.specs.declared.todo.Ending.{Ending}
use Rattle.flash_session.specs.declared.todo.Ending.TheVariants.{Quit, LineTooLong, UsedUp}
use Rattle.flash_commands.specs.declared.place.Place.TheVariants.{AtQuit, TooLong}
use Rattle.flash_play.specs.Laws.{EachAnswerHadMemory}
use Rattle.flash_play.specs.Playing.{Seat, StoreState, after_call, number_after, do_ask, do_asks, is_end}
use Rattle.flash_seats.specs.declared.seat.Seat as code
use Rattle.flash_seats.specs.declared.seat.Turn.{Turn}
use Rattle.flash_seats.specs.declared.seat.Turn.TheVariants.{Idle}
use Rattle.flash_seats.specs.Laws.{SessionLaws}
use Rattle.flash_seats.specs.Seats.{entries_of, kept_of, rest_of, IsSeat}
use Rattle.flash_seats.specs.Turns.{steps_left, IsMidway, IsOver, AfterPart, next_id, fed_now, HasFed, HasEnded, HasRun}
use Rattle.flash_seats.proofs.Turning.{EachHad, steps_in, all_had, answered, step_ahead, number_is, done_at_rest, done_at_end, no_end}

pub take_all : (xs : List ℕ) → take (length xs) xs ≡ xs
take_all [] = refl
take_all (x ∷ xs) = ap (λ (l : List ℕ). x ∷ l) (take_all xs)

-- a store after a call, where the journal tells its entries
entries_more : (es : List Entry) (told : Option (List Entry)) → IsTrue (is_some told) → entries_of (with_more es told) ≡ entries_of told ++ es
entries_more es None tells = absurd (cc tells)
entries_more es (Some h) tells = refl

pub kept_after : (s s2 : Store) (call : Call Told) → IsTrue (is_some s.told) → Becomes s call s2 → kept_of s2 ≡ after_call (kept_of s) call
kept_after s s2 call tells becomes =
    ap kept_of becomes ∙ ap (λ (j : List Entry). record { journal = j; cache = call.cache; desk = call.desk }) (entries_more call.entries s.told tells)

-- the number after the same ones is the same
same_number : (pass pass2 last last2 : ℕ) → pass2 ≡ pass → last2 ≡ last → ◌≡◌ {A = Id} (record { pass = pass; seq = last + 1 }) (record { pass = pass2; seq = last2 + 1 })
same_number pass pass2 last last2 one two =
    ap (λ (n : ℕ). record { pass = n; seq = last + 1 }) (sym one) ∙ ap (λ (n : ℕ). record { pass = pass2; seq = n + 1 }) (sym two)

pub still_new : (told : Option (List Entry)) (pass pass2 last last2 : ℕ) → pass2 ≡ pass → last2 ≡ last → IsNewTold told (record { pass = pass; seq = last + 1 }) → IsNewTold told (record { pass = pass2; seq = last2 + 1 })
still_new told pass pass2 last last2 one two new = subst (IsNewTold told) (same_number pass pass2 last last2 one two) new

-- what a feed answers, by whether no bytes are left
abbrev pub idle_if : Bool → Option Turn
idle_if true = Some Idle
idle_if false = None

module _ (laws : SessionLaws) (g : Geometry) (number : ℕ) (given : List ℕ) (final : StoreState × List Told) where
  -- replies that were taken
  pub wrote : (kept : StoreState) (old new : code.Seat) (mid : Session) → Needs old.session Write mid → new.replies.items ≡ old.replies.items ++ mid.out → new.session ≡ sent mid (length mid.out)
      → rest_of new ≡ rest_of old → IsMidway g number given final kept old → IsMidway g number given final kept new
  wrote kept old new mid needs replies session rest was =
      let gone : old.replies.items ++ take (length mid.out) mid.out ≡ new.replies.items = ap (λ (l : List ℕ). old.replies.items ++ l) (take_all mid.out) ∙ sym replies in
      let stands : Stands was.fed was.told (old.replies.items ++ take (length mid.out) mid.out) (sent mid (length mid.out)) =
      laws.send was.fed was.told old.replies.items mid (length mid.out) (needs.stands was.fed was.told old.replies.items was.stands) in
      record {
        fed = was.fed;
        told = was.told;
        given_is = was.given_is ∙ ap (λ (l : List ℕ). was.fed ++ l) (sym rest);
        stands = subst (λ (l : List ℕ). Stands was.fed was.told l new.session) gone (subst (Stands was.fed was.told (old.replies.items ++ take (length mid.out) mid.out)) (sym session) stands);
        each = was.each;
        size = ap (λ (s : Session). s.reads.item_max) session ∙ needs.item_max ∙ was.size;
        pass = ap (λ (s : Session). s.pass) session ∙ needs.pass ∙ was.pass;
        free = ap (λ (s : Session). s.owed) session ∙ needs.counted.0 ∙ was.free;
        ahead = was.ahead;
      }

  -- bytes that were fed
  fed_more : (kept : StoreState) (old new : code.Seat) (mid : Session) → Needs old.session Input mid → (n : ℕ) → rest_of new ≡ drop n (rest_of old) → new.replies.items ≡ old.replies.items
      → new.session ≡ record mid { reads = record mid.reads { reader = fed mid.reads.reader (take n (rest_of old)) } } → IsMidway g number given final kept old → IsMidway g number given final kept new
  fed_more kept old new mid needs n rest replies session was =
      let more = take n (rest_of old) in
      let stands = laws.feed was.fed more was.told old.replies.items mid (needs.stands was.fed was.told old.replies.items was.stands) in
      record {
        fed = was.fed ++ more;
        told = was.told;
        given_is =
            was.given_is ∙ ap (λ (l : List ℕ). was.fed ++ l) (sym (take-append-drop n (rest_of old)))
            ∙ sym (append_assoc was.fed more (drop n (rest_of old))) ∙ ap (λ (l : List ℕ). (was.fed ++ more) ++ l) (sym rest);
        stands = subst (λ (l : List ℕ). Stands (was.fed ++ more) was.told l new.session) (sym replies) (subst (Stands (was.fed ++ more) was.told old.replies.items) (sym session) stands);
        each = was.each;
        size = ap (λ (s : Session). s.reads.item_max) session ∙ needs.item_max ∙ was.size;
        pass = ap (λ (s : Session). s.pass) session ∙ needs.pass ∙ was.pass;
        free = ap (λ (s : Session). s.owed) session ∙ needs.counted.0 ∙ was.free;
        ahead = was.ahead;
      }

  -- a turn at whose end all is done
  over : (kept : StoreState) (old new : code.Seat) (mid : Session) (was : IsMidway g number given final kept old) → ((bytes : List ℕ) (told : List Told) (gone : List ℕ) → Stands bytes told gone old.session → Stands bytes told gone mid)
      → mid.reads.item_max ≡ old.session.reads.item_max → mid.pass ≡ old.session.pass → mid.owed ≡ old.session.owed → mid.out ≡ []
      → new.session ≡ mid → rest_of new ≡ rest_of old → new.replies.items ≡ old.replies.items → new.closed ≡ is_end mid.reads.reader.place
      → drop (length was.told) (steps_in g.item_max (was.fed ++ rest_of old)) ≡ []
      → (talk_of (commands_of g.item_max (was.fed ++ rest_of old)).asked was.told).replies ≡ old.replies.items
      → (commands_of g.item_max (was.fed ++ rest_of old)).place ≡ mid.reads.reader.place
      → IsOver g number given final kept new
  over kept old new mid was stands size pass owed sent_all session rest replies closed none said place =
      let left : drop (length was.told) (steps_in g.item_max given) ≡ [] = ap (λ (l : List ℕ). drop (length was.told) (steps_in g.item_max l)) was.given_is ∙ none in
      let end : (kept, was.told) ≡ final = ap (λ (l : List Ask). do_asks g number (kept, was.told) l) (sym left) ∙ was.ahead in
      record {
        midway = record {
          fed = was.fed;
          told = was.told;
          given_is = was.given_is ∙ ap (λ (l : List ℕ). was.fed ++ l) (sym rest);
          stands =
              subst (λ (l : List ℕ). Stands was.fed was.told l new.session) (sym replies)
              (subst (Stands was.fed was.told old.replies.items) (sym session) (stands was.fed was.told old.replies.items was.stands));
          each = was.each;
          size = ap (λ (s : Session). s.reads.item_max) session ∙ size ∙ was.size;
          pass = ap (λ (s : Session). s.pass) session ∙ pass ∙ was.pass;
          free = ap (λ (s : Session). s.owed) session ∙ owed ∙ was.free;
          ahead = was.ahead;
        };
        sent_is = ap (λ (s : Session). s.out) session ∙ sent_all;
        kept_is = ap (λ (f : StoreState × List Told). f.0) end;
        told_is = ap (λ (f : StoreState × List Told). f.1) end;
        replies_are = replies ∙ sym said ∙ ap (λ (l : List ℕ). (talk_of (commands_of g.item_max l).asked was.told).replies) (sym was.given_is);
        closed_is = closed ∙ ap is_end (sym place) ∙ ap (λ (l : List ℕ). is_end (commands_of g.item_max l).place) (sym was.given_is);
      }

  -- what it was fed, or had none left
  pub fed_part : (kept : StoreState) (old mid_code new : code.Seat) (mid : Session) (last : Bool) → Needs old.session Input mid → mid_code.session ≡ mid → rest_of mid_code ≡ rest_of old → mid_code.replies.items ≡ old.replies.items
      → HasFed last mid_code new → IsMidway g number given final kept old → AfterPart (idle_if last) g number given final kept new
  fed_part kept old mid_code new mid true needs same rest replies has was =
      let at = needs.next.0 in
      let size : mid.reads.item_max ≡ g.item_max = needs.item_max ∙ was.size in
      let stands = needs.stands was.fed was.told old.replies.items was.stands in
      let none : rest_of old ≡ [] = sym rest ∙ has.0 in
      let done = done_at_rest laws g.item_max was.fed (rest_of old) was.told old.replies.items mid size was.each stands none at.free.sent at.rests in
      over kept old new mid was needs.stands needs.item_max needs.pass needs.counted.0 at.free.sent (has.2 ∙ same) (has.1 ∙ sym none) (has.3 ∙ replies)
      (has.4 ∙ sym (no_end mid.reads.reader.place needs.next.1)) done.none done.replies done.place
  fed_part kept old mid_code new mid false needs same rest replies has was =
      let at : fed_now mid_code ≡ min (length (rest_of old)) (room_of mid.reads) = ap (λ (l : List ℕ). min (length l) (room_of mid_code.session.reads)) rest ∙ ap (λ (s : Session). min (length (rest_of old)) (room_of s.reads)) same in
      fed_more kept old new mid needs (fed_now mid_code) (has.0 ∙ ap (λ (l : List ℕ). drop (fed_now mid_code) l) rest) (has.1 ∙ replies)
      (has.2 ∙ ap (λ (s : Session). record s { reads = record s.reads { reader = fed s.reads.reader (take (fed_now mid_code) (rest_of mid_code)) } }) same
      ∙ ap (λ (l : List ℕ). record mid { reads = record mid.reads { reader = fed mid.reads.reader (take (fed_now mid_code) l) } }) rest) was

  -- an end
  pub ended : (kept : StoreState) (old new : code.Seat) (mid : Session) → ((bytes : List ℕ) (told : List Told) (gone : List ℕ) → Stands bytes told gone old.session → Stands bytes told gone mid)
      → mid.reads.item_max ≡ old.session.reads.item_max → mid.pass ≡ old.session.pass → mid.owed ≡ old.session.owed → IsAtRest mid
      → IsEnd mid.reads.reader.place → is_end mid.reads.reader.place ≡ true → new.session ≡ mid → rest_of new ≡ rest_of old → new.replies.items ≡ old.replies.items → new.closed ≡ true
      → IsMidway g number given final kept old → IsOver g number given final kept new
  ended kept old new mid stands size pass owed at end is_it session rest replies closed was =
      let done = done_at_end laws g.item_max was.fed (rest_of old) was.told old.replies.items mid (size ∙ was.size) was.each (stands was.fed was.told old.replies.items was.stands) end at.free.sent at.rests in
      over kept old new mid was stands size pass owed at.free.sent session rest replies (closed ∙ sym is_it) done.none done.replies done.place

  pub end_part : (kept : StoreState) (old mid_code new : code.Seat) (mid : Session) (ending : Ending) → Needs old.session (Closed ending) mid → mid_code.session ≡ mid → rest_of mid_code ≡ rest_of old
      → mid_code.replies.items ≡ old.replies.items → HasEnded ending mid_code new → IsMidway g number given final kept old → IsOver g number given final kept new
  end_part kept old mid_code new mid Quit needs same rest replies has was =
      let place : mid.reads.reader.place ≡ AtQuit = needs.next.1 in
      ended kept old new mid needs.stands needs.item_max needs.pass needs.counted.0 needs.next.0 (subst IsEnd (sym place) tt) (ap is_end place) (has.1 ∙ same) (has.0 ∙ rest) (has.2 ∙ replies) has.3 was
  end_part kept old mid_code new mid LineTooLong needs same rest replies has was =
      let place : mid.reads.reader.place ≡ TooLong = needs.next.1 in
      ended kept old new mid needs.stands needs.item_max needs.pass needs.counted.0 needs.next.0 (subst IsEnd (sym place) tt) (ap is_end place) (has.1 ∙ same) (has.0 ∙ rest) (has.2 ∙ replies) has.3 was
  end_part kept old mid_code new mid UsedUp needs same rest replies has was = absurd has

  -- a step that was done
  pub did : EachAnswerHadMemory → (s s2 : Store) (old new : code.Seat) (mid : Session) (id : Id) (ask : Ask) (answer : Told) → Needs old.session (Do id ask) mid → IsTrue (is_some s.told) → s.geometry ≡ g
      → Becomes s (ask_call s.geometry s.cache s.desk id ask) s2 → answer ≡ (ask_call s.geometry s.cache s.desk id ask).answer → new.session ≡ told_at mid (front_now mid) answer → rest_of new ≡ rest_of old
      → new.replies.items ≡ old.replies.items → IsMidway g number given final (kept_of s) old → IsMidway g number given final (kept_of s2) new
  did had s s2 old new mid id ask answer needs tells same becomes told_is session rest replies was =
      let told = was.told in
      let gone = old.replies.items in
      let stands = needs.stands was.fed told gone was.stands in
      let size : mid.reads.item_max ≡ g.item_max = needs.item_max ∙ was.size in
      let owes : mid.owed ≡ true = needs.next.1 in
      let after = answered mid ask answer needs.next.3 in
      let last : mid.last ≡ length told + 1 = number_is laws g.item_max was.fed (rest_of old) told gone mid size was.each stands owes in
      let id_is : id ≡ number_after number told =
      needs.next.2 ∙ ap (λ (n : ℕ). record { pass = n; seq = mid.last }) (needs.pass ∙ was.pass) ∙ ap (λ (n : ℕ). record { pass = number; seq = n }) last in
      let call = λ (h : Geometry) (i : Id). ask_call h s.cache s.desk i ask in
      let call_is : call s.geometry id ≡ call g (number_after number told) = ap (λ (h : Geometry). call h id) same ∙ ap (call g) id_is in
      let next : (kept_of s2, told ++ answer ∷ []) ≡ do_ask g number (kept_of s, told) ask =
      ap (λ (k : StoreState). (k, told ++ answer ∷ [])) (kept_after s s2 (call s.geometry id) tells becomes ∙ ap (λ (c : Call Told). after_call (kept_of s) c) call_is)
      ∙ ap (λ (a : Told). (after_call (kept_of s) (call g (number_after number told)), told ++ a ∷ [])) (told_is ∙ ap (λ (c : Call Told). c.answer) call_is) in
      let more : length (told ++ answer ∷ []) ≡ length told + 1 = length-append told (answer ∷ []) in
      let left : drop (length told) (steps_in g.item_max given) ≡ ask ∷ drop (length told + 1) (steps_in g.item_max given) =
      subst (λ (l : List ℕ). drop (length told) (steps_in g.item_max l) ≡ ask ∷ drop (length told + 1) (steps_in g.item_max l)) (sym was.given_is)
      (step_ahead laws g.item_max was.fed (rest_of old) told gone mid size was.each stands ask needs.next.3) in
      record {
        fed = was.fed;
        told = told ++ answer ∷ [];
        given_is = was.given_is ∙ ap (λ (l : List ℕ). was.fed ++ l) (sym rest);
        stands =
            subst (λ (l : List ℕ). Stands was.fed (told ++ answer ∷ []) l new.session) (sym replies)
            (subst (Stands was.fed (told ++ answer ∷ []) gone) (sym session) (laws.answer was.fed told gone mid answer owes stands));
        each = all_had told answer was.each (ap ends_command told_is ∙ had s.geometry s.cache s.desk id ask);
        size = ap (λ (s : Session). s.reads.item_max) session ∙ after.item_max ∙ size;
        pass = ap (λ (s : Session). s.pass) session ∙ after.pass ∙ needs.pass ∙ was.pass;
        free = ap (λ (s : Session). s.owed) session ∙ after.free;
        ahead =
            ap (λ (n : ℕ). do_asks g number (kept_of s2, told ++ answer ∷ []) (drop n (steps_in g.item_max given))) more
            ∙ ap (λ (f : StoreState × List Told). do_asks g number f (drop (length told + 1) (steps_in g.item_max given))) next
            ∙ sym (ap (λ (l : List Ask). do_asks g number (kept_of s, told) l) left) ∙ was.ahead;
      }

-- what follows of an answer's value
pub if_ok : {T E : Type 0} (r : Result T E) (P Q : T → Type 0) → ((x : T) → P x → Q x) → IfOk r P → IfOk r Q
if_ok (Ok x) P Q follows holds = follows x holds
if_ok (Err e) P Q follows holds = tt

pub on_if : {T E : Type 0} (r : Result T E) (P : T → Type 0) (Q : Type 0) → ((x : T) → P x → Q) → IfOk r P → OnOk r Q
on_if (Ok x) P Q follows holds = follows x holds
on_if (Err e) P Q follows holds = tt

-- the number that is asked is the session's next one
pub asked_new : (told : Option (List Entry)) (old : code.Seat) (mid : Session) (id : Id) (ask : Ask) → Needs old.session (Do id ask) mid → IsNewTold told (next_id old) → IsNewTold told id
asked_new told old mid id ask needs new =
    let same : next_id old ≡ id =
    ap (λ (n : ℕ). record { pass = n; seq = old.session.last + 1 }) (sym needs.pass) ∙ ap (λ (n : ℕ). record { pass = mid.pass; seq = n }) (sym needs.counted.1) ∙ sym needs.next.2 in
    subst (IsNewTold told) same new

-- after a step the next number is new
more_new : (told : Option (List Entry)) (es : List Entry) (id next : Id) → ((h : List Entry) → IsNew h id → IsNew (h ++ es) next) → IsNewTold told id → IsNewTold (with_more es told) next
more_new None es id next more new = λ h is. absurd (cc is)
more_new (Some h) es id next more new = λ x is. let same : h ++ es ≡ x = cc is in subst (λ (l : List Entry). IsNew l next) same (more h (new h refl))

pub did_new : EachAskRecordsItself → NumbersStayNew → (s s2 : Store) (old : code.Seat) (mid next : Session) (id : Id) (ask : Ask) (answer : Told) → Needs old.session (Do id ask) mid
    → Becomes s (ask_call s.geometry s.cache s.desk id ask) s2 → next ≡ told_at mid (front_now mid) answer → IsNewTold s.told (next_id old) → IsNewTold s2.told (record { pass = next.pass; seq = next.last + 1 })
did_new records numbers s s2 old mid next id ask answer needs becomes session is_new =
    let call = ask_call s.geometry s.cache s.desk id ask in
    let after = answered mid ask answer needs.next.3 in
    let pass : next.pass ≡ id.pass = ap (λ (t : Session). t.pass) session ∙ after.pass ∙ sym (ap (λ (i : Id). i.pass) needs.next.2) in
    let last : next.last ≡ id.seq = ap (λ (t : Session). t.last) session ∙ after.last ∙ sym (ap (λ (i : Id). i.seq) needs.next.2) in
    let new : IsNewTold (with_more call.entries s.told) (record { pass = id.pass; seq = id.seq + 1 }) =
    more_new s.told call.entries id (record { pass = id.pass; seq = id.seq + 1 }) (λ h new. (numbers h call.entries).next id ask (records s.geometry s.cache s.desk id ask) new) (asked_new s.told old mid id ask needs is_new) in
    subst (λ (t : Option (List Entry)). IsNewTold t (record { pass = next.pass; seq = next.last + 1 })) (sym (ap (λ (t : Store). t.told) becomes)) (still_new (with_more call.entries s.told) id.pass next.pass id.seq next.last pass last new)

tells_more : (told : Option (List Entry)) (es : List Entry) → IsTrue (is_some told) → IsTrue (is_some (with_more es told))
tells_more None es tells = tells
tells_more (Some h) es tells = tells

pub did_tells : (s s2 : Store) (call : Call Told) → Becomes s call s2 → IsTrue (is_some s.told) → IsTrue (is_some s2.told)
did_tells s s2 call becomes tells = subst (λ (t : Option (List Entry)). IsTrue (is_some t)) (sym (ap (λ (t : Store). t.told) becomes)) (tells_more s.told call.entries tells)

-- taking replies and feeding leave the session's numbers
pub fed_new : (told : Option (List Entry)) (old mid_code new : code.Seat) (mid : Session) (last : Bool) → Needs old.session Input mid → mid_code.session ≡ mid → HasFed last mid_code new → IsNewTold told (next_id old) → IsNewTold told (next_id new)
fed_new told old mid_code new mid true needs same has is_new =
    let one : new.session ≡ mid = has.2 ∙ same in
    still_new told old.session.pass new.session.pass old.session.last new.session.last (ap (λ (t : Session). t.pass) one ∙ needs.pass) (ap (λ (t : Session). t.last) one ∙ needs.counted.1) is_new
fed_new told old mid_code new mid false needs same has is_new =
    still_new told old.session.pass new.session.pass old.session.last new.session.last
    (ap (λ (t : Session). t.pass) has.2 ∙ ap (λ (t : Session). t.pass) same ∙ needs.pass) (ap (λ (t : Session). t.last) has.2 ∙ ap (λ (t : Session). t.last) same ∙ needs.counted.1) is_new

pub end_new : (told : Option (List Entry)) (old mid_code new : code.Seat) (mid : Session) (ending : Ending) → Needs old.session (Closed ending) mid → mid_code.session ≡ mid → HasEnded ending mid_code new → IsNewTold told (next_id old) → IsNewTold told (next_id new)
end_new told old mid_code new mid Quit needs same has is_new =
    let one : new.session ≡ mid = has.1 ∙ same in
    still_new told old.session.pass new.session.pass old.session.last new.session.last (ap (λ (t : Session). t.pass) one ∙ needs.pass) (ap (λ (t : Session). t.last) one ∙ needs.counted.1) is_new
end_new told old mid_code new mid LineTooLong needs same has is_new =
    let one : new.session ≡ mid = has.1 ∙ same in
    still_new told old.session.pass new.session.pass old.session.last new.session.last (ap (λ (t : Session). t.pass) one ∙ needs.pass) (ap (λ (t : Session). t.last) one ∙ needs.counted.1) is_new
end_new told old mid_code new mid UsedUp needs same has is_new = absurd has

pub wrote_new : (told : Option (List Entry)) (old new : code.Seat) (mid : Session) → Needs old.session Write mid → new.session ≡ sent mid (length mid.out) → IsNewTold told (next_id old) → IsNewTold told (next_id new)
wrote_new told old new mid needs session is_new =
    still_new told old.session.pass new.session.pass old.session.last new.session.last (ap (λ (t : Session). t.pass) session ∙ needs.pass) (ap (λ (t : Session). t.last) session ∙ needs.counted.1) is_new

-- a session at the begin of its turns
pub begins : (s : Store) (code : code.Seat) (number : ℕ) (seat : Seat) → IsSeat s.geometry.item_max number seat code
    → IsMidway s.geometry number seat.given (steps_left s.geometry seat.given seat.told (kept_of s, seat.told) number) (kept_of s) code
begins s code number seat is = record {
  fed = is.fed;
  told = seat.told;
  given_is = is.given;
  stands = subst (λ (l : List ℕ). Stands is.fed seat.told l code.session) (sym is.replies) is.stands;
  each = is.each;
  size = is.size;
  pass = is.pass;
  free = is.free;
  ahead = refl;
}

-- and at its end
pub has_run : (s s2 : Store) (code : code.Seat) (number : ℕ) (seat : Seat) → IsOver s.geometry number seat.given (steps_left s.geometry seat.given seat.told (kept_of s, seat.told) number) (kept_of s2) code → HasRun number seat s s2 code
has_run s s2 code number seat over =
    let final = steps_left s.geometry seat.given seat.told (kept_of s, seat.told) number in
    let asked = (commands_of s.geometry.item_max seat.given).asked in
    let said = λ (t : List Told). (talk_of asked t).replies in
    let stands : Stands over.midway.fed over.midway.told (said over.midway.told) code.session = subst (λ (l : List ℕ). Stands over.midway.fed over.midway.told l code.session) over.replies_are over.midway.stands in
    record {
      kept = over.kept_is;
      seat = record {
        fed = over.midway.fed;
        given = over.midway.given_is;
        stands = subst (λ (t : List Told). Stands over.midway.fed t (said t) code.session) over.told_is stands;
        piece = λ some. absurd (some over.sent_is);
        each = subst EachHad over.told_is over.midway.each;
        replies = over.replies_are ∙ ap said over.told_is;
        closed = over.closed_is;
        size = over.midway.size;
        pass = over.midway.pass;
        free = over.midway.free;
      };
    }
