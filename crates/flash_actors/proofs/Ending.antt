-- A session that is served, at its end.
use Rattle.std.proofs.Common.{◌≡◌, ℕ, ◌+◌, ◌-◌, ◌<◌, ◌^◌, Bool, false, List, [], ◌++◌, length, Option, None, Some, refl, sym, ◌∙◌, ap, subst, append_assoc, arith}
use Rattle.std.specs.Prelude.{slice_get, IsSome}
use Rattle.std.proofs.lemmas.List.{append-nil, length-append}
use Rattle.std.proofs.lemmas.Option.{slice_get_within}
use mathlib.Core.List.{IsPrefix}
use Rattle.flash_names.specs.declared.geometry.Geometry.{Geometry}
use Rattle.flash_streams.specs.Writing.{IsWritten, IsBegun}
use Rattle.flash_entry.specs.declared.ask.Ask.{Ask}
use Rattle.flash_entry.specs.declared.entry.Entry.{Entry}
use Rattle.flash_entry.specs.declared.found.Told.{Told}
use Rattle.flash_machine.specs.Legal.{Legal}
use Rattle.flash_answers.specs.Records.{Keeps}
use Rattle.flash_commands.specs.Commands.{commands_of}
use Rattle.flash_commands.specs.Laws.{IsEnd, EndsAlike}
use Rattle.flash_commands.specs.Parts.{Asked, Rest}
use Rattle.flash_commands.specs.declared.place.Place.{Place}
use Rattle.flash_session.specs.Laws.{IsAllSaid}
use Rattle.flash_session.specs.Stands.{one_if}
use Rattle.flash_session.specs.States.{Session, front_now, ask_at}
use Rattle.flash_session.specs.Talks.{Talk, talk_of}
use Rattle.flash_actors.specs.declared.service.Service.{Service}
use Rattle.flash_actors.specs.declared.session_end.SessionEnd.{SessionEnd}
use Rattle.flash_actors.specs.declared.session_end.SessionEnd.TheVariants as ends
use Rattle.flash_actors.specs.Headline.{Outside, talk_over, IsAnswered, HasAnswered, EndsAt, IsUsedUp, IsHeadline}
use Rattle.flash_actors.specs.Laws.{SessionLaws}
use Rattle.flash_actors.specs.Serving.{rest_of, IsServed, IsUnwritten, IsUnread}
use Rattle.flash_actors.proofs.Saying.{keeps_more, asks_longer, replies_longer, said_first}
use Rattle.flash_actors.proofs.Streams.{written_both, begun_after}

-- the ends that leave a front part of the replies
abbrev pub IsCut : SessionEnd → Type 0
IsCut ends.UsedUp = Unit {0}
IsCut ends.SinkFault = Unit {0}
IsCut ends.NoMemory = Unit {0}
IsCut _ = ⊥

-- and those that leave all of them
abbrev pub IsWhole : SessionEnd → Type 0
IsWhole ends.Quit = Unit {0}
IsWhole ends.End = Unit {0}
IsWhole ends.LineTooLong = Unit {0}
IsWhole ends.SourceFault = Unit {0}
IsWhole _ = ⊥

cut_answered : (end : SessionEnd) (talk : Talk) (told : List Told) (held held_after : Option (List ℕ)) → IsCut end → IsBegun talk.replies held held_after → HasAnswered end talk told held held_after
cut_answered ends.UsedUp talk told held held_after cut begun = begun
cut_answered ends.SinkFault talk told held held_after cut begun = begun
cut_answered ends.NoMemory talk told held held_after cut begun = begun
cut_answered ends.Quit talk told held held_after cut begun = absurd cut
cut_answered ends.End talk told held held_after cut begun = absurd cut
cut_answered ends.LineTooLong talk told held held_after cut begun = absurd cut
cut_answered ends.SourceFault talk told held held_after cut begun = absurd cut

cut_place : (end : SessionEnd) (place : Place) → IsCut end → EndsAt end place
cut_place ends.UsedUp place cut = tt
cut_place ends.SinkFault place cut = tt
cut_place ends.NoMemory place cut = tt
cut_place ends.Quit place cut = absurd cut
cut_place ends.End place cut = absurd cut
cut_place ends.LineTooLong place cut = absurd cut
cut_place ends.SourceFault place cut = absurd cut

whole_answered : (end : SessionEnd) (talk : Talk) (told : List Told) (held held_after : Option (List ℕ)) → IsWhole end → IsAnswered talk told held held_after → HasAnswered end talk told held held_after
whole_answered ends.Quit talk told held held_after whole answered = answered
whole_answered ends.End talk told held held_after whole answered = answered
whole_answered ends.LineTooLong talk told held held_after whole answered = answered
whole_answered ends.SourceFault talk told held held_after whole answered = answered
whole_answered ends.UsedUp talk told held held_after whole answered = absurd whole
whole_answered ends.SinkFault talk told held held_after whole answered = absurd whole
whole_answered ends.NoMemory talk told held held_after whole answered = absurd whole

whole_used : (end : SessionEnd) (talk : Talk) → IsWhole end → IsUsedUp end talk
whole_used ends.Quit talk whole = tt
whole_used ends.End talk whole = tt
whole_used ends.LineTooLong talk whole = tt
whole_used ends.SourceFault talk whole = tt
whole_used ends.UsedUp talk whole = absurd whole
whole_used ends.SinkFault talk whole = absurd whole
whole_used ends.NoMemory talk whole = absurd whole

module _ (laws : SessionLaws) (g : Geometry) (n k : ℕ) (start now : Outside) (service : Service) (h : List Entry) (is : IsServed g n k start now service h) where
  abbrev gathered : List ℕ
  gathered = service.output.gathered.items

  abbrev session : Session
  session = service.session

  -- all bytes that were read
  abbrev bytes : List ℕ
  bytes = is.fed ++ rest_of service.input

  kept : (talk_asks : List Ask) → IsPrefix (talk_over g is.fed is.told).asks talk_asks → Keeps talk_asks n h
  kept talk_asks longer = keeps_more (talk_over g is.fed is.told).asks talk_asks n h longer is.keeps

  -- what is sent, gathered and to be sent comes first in the replies
  first : (said : List ℕ) × ((talk_over g bytes is.told).replies ≡ (is.sent ++ (gathered ++ session.out)) ++ said)
  first =
      let here = subst (λ (m : ℕ). IsPrefix ((is.sent ++ gathered) ++ session.out) (talk_of (commands_of m is.fed).asked is.told).replies) is.size
      (said_first is.fed is.told (is.sent ++ gathered) session is.stands) in
      let longer = replies_longer laws.more g.item_max is.fed (rest_of service.input) is.told in
      let parts : (is.sent ++ gathered) ++ session.out ≡ is.sent ++ (gathered ++ session.out) = append_assoc is.sent gathered session.out in (
        here.0 ++ longer.0,
        sym longer.1 ∙ ap (λ (l : List ℕ). l ++ longer.0) (sym here.1) ∙ append_assoc ((is.sent ++ gathered) ++ session.out) here.0 longer.0
            ∙ ap (λ (l : List ℕ). l ++ (here.0 ++ longer.0)) parts,
      )

  -- it is cut off, with a front part of what is gathered and to be sent written
  pub cut_off : (end : SessionEnd) (held_after : Option (List ℕ)) → IsCut end → Legal g h → IsBegun (gathered ++ session.out) now.held held_after → IsUsedUp end (talk_over g bytes is.told)
      → IsHeadline g n k end start (record now { held = held_after }) h
  cut_off end held_after cut legal begun used =
      let all = begun_after is.sent (gathered ++ session.out) start.held now.held held_after is.written begun in
      record {
        bytes = bytes;
        told = is.told;
        taken = is.taken;
        legal = legal;
        outcomes = is.outcomes;
        keeps = kept (talk_over g bytes is.told).asks (asks_longer laws.more g.item_max is.fed (rest_of service.input) is.told);
        timed = λ all told. (is.read all told).timed;
        answered =
            cut_answered end (talk_over g bytes is.told) is.told start.held held_after cut
            (record {
              front = all.front;
              rest = all.rest ++ first.0;
              parts = first.1 ∙ ap (λ (l : List ℕ). l ++ first.0) all.parts ∙ append_assoc all.front all.rest first.0;
              written = all.written;
            });
        place = cut_place end (commands_of g.item_max bytes).place cut;
        used = used;
      }

  -- numbers are used up only where more steps are asked
  pub used_up : session.owed ≡ false → session.last ≡ 2 ^ 64 - 1 → IsSome (ask_at session.step (front_now session)) → 2 ^ 64 - 1 < length (talk_over g bytes is.told).asks
  used_up free last some = by_ask (ask_at session.step (front_now session)) refl some
    where
      by_ask : (found : Option Ask) → ask_at session.step (front_now session) ≡ found → IsSome found → 2 ^ 64 - 1 < length (talk_over g bytes is.told).asks
      by_ask None asked there = absurd (cc there)
      by_ask (Some ask) asked there =
          let counted : session.last ≡ length is.told + 0 = laws.counted is.fed is.told (is.sent ++ gathered) session is.stands ∙ ap (λ (b : Bool). length is.told + one_if b) free in
          let at : slice_get (talk_over g is.fed is.told).asks (length is.told) ≡ Some ask =
          subst (λ (m : ℕ). slice_get (talk_of (commands_of m is.fed).asked is.told).asks (length is.told) ≡ Some ask) is.size
          (laws.step is.fed is.told (is.sent ++ gathered) session ask asked is.stands) in
          let within = slice_get_within (talk_over g is.fed is.told).asks (length is.told) ask at in
          let longer = asks_longer laws.more g.item_max is.fed (rest_of service.input) is.told in
          let size : length (talk_over g bytes is.told).asks ≡ length (talk_over g is.fed is.told).asks + length longer.0 = ap (λ (l : List Ask). length l) (sym longer.1) ∙ length-append (talk_over g is.fed is.told).asks longer.0 in
          omega (arith, within, size, counted, last)

  -- it ends with all said, and all that is gathered written
  module _ (end : SessionEnd) (held_after : Option (List ℕ)) (whole : IsWhole end) (legal : Legal g h) (none : session.out ≡ []) (rests : front_now session ≡ Rest) where
    ends_alike : IsWritten gathered now.held held_after → EndsAt end session.reads.reader.place → EndsAlike (commands_of g.item_max is.fed) (commands_of g.item_max bytes) → IsHeadline g n k end start (record now { held = held_after }) h
    ends_alike written place alike =
        let all : IsAllSaid is.fed is.told (is.sent ++ gathered) session = laws.said is.fed is.told (is.sent ++ gathered) session none rests is.stands in
        let asks : length (talk_over g is.fed is.told).asks ≡ length is.told = subst (λ (m : ℕ). length (talk_of (commands_of m is.fed).asked is.told).asks ≡ length is.told) is.size all.asks in
        let replies : (talk_over g is.fed is.told).replies ≡ is.sent ++ gathered = subst (λ (m : ℕ). (talk_of (commands_of m is.fed).asked is.told).replies ≡ is.sent ++ gathered) is.size all.replies in
        let at : (commands_of g.item_max is.fed).place ≡ session.reads.reader.place = subst (λ (m : ℕ). (commands_of m is.fed).place ≡ session.reads.reader.place) is.size all.place in
        let talk : talk_over g bytes is.told ≡ talk_over g is.fed is.told = ap (λ (a : List Asked). talk_of a is.told) alike.asked in
        record {
          bytes = bytes;
          told = is.told;
          taken = is.taken;
          legal = legal;
          outcomes = is.outcomes;
          keeps = kept (talk_over g bytes is.told).asks (asks_longer laws.more g.item_max is.fed (rest_of service.input) is.told);
          timed = λ all told. (is.read all told).timed;
          answered =
              whole_answered end (talk_over g bytes is.told) is.told start.held held_after whole
              (record {
                each = sym (ap (λ (t : Talk). length t.asks) talk ∙ asks);
                written =
                    subst (λ (l : List ℕ). IsWritten l start.held held_after) (sym (ap (λ (t : Talk). t.replies) talk ∙ replies))
                    (written_both is.sent gathered start.held now.held held_after is.written written);
              });
          place = subst (EndsAt end) (sym (alike.place ∙ at)) place;
          used = whole_used end (talk_over g bytes is.told) whole;
        }

    -- at the end of the commands
    pub ends_there : IsWritten gathered now.held held_after → IsEnd session.reads.reader.place → EndsAt end session.reads.reader.place → IsHeadline g n k end start (record now { held = held_after }) h
    ends_there written over place =
        let all : IsAllSaid is.fed is.told (is.sent ++ gathered) session = laws.said is.fed is.told (is.sent ++ gathered) session none rests is.stands in
        let at : (commands_of g.item_max is.fed).place ≡ session.reads.reader.place = subst (λ (m : ℕ). (commands_of m is.fed).place ≡ session.reads.reader.place) is.size all.place in
        ends_alike written place (laws.stays g.item_max is.fed (rest_of service.input) (subst IsEnd (sym at) over))

    -- and where all bytes that were read were fed
    pub ends_fed : IsWritten gathered now.held held_after → rest_of service.input ≡ [] → EndsAt end session.reads.reader.place → IsHeadline g n k end start (record now { held = held_after }) h
    ends_fed written nothing place =
        let same : bytes ≡ is.fed = ap (λ (l : List ℕ). is.fed ++ l) nothing ∙ append-nil is.fed in
        ends_alike written place (record { asked = ap (λ (l : List ℕ). (commands_of g.item_max l).asked) same; place = ap (λ (l : List ℕ). (commands_of g.item_max l).place) same })

-- the ends for want of a sink or of memory cut off, and those by the source are whole
pub unwritten_cut : (end : SessionEnd) → IsUnwritten end → IsCut end
unwritten_cut ends.SinkFault is = tt
unwritten_cut ends.NoMemory is = tt
unwritten_cut ends.UsedUp is = tt
unwritten_cut ends.Quit is = absurd is
unwritten_cut ends.End is = absurd is
unwritten_cut ends.LineTooLong is = absurd is
unwritten_cut ends.SourceFault is = absurd is

pub unwritten_used : (end : SessionEnd) (talk : Talk) → IsUnwritten end → IsUsedUp end talk
unwritten_used ends.UsedUp talk is = absurd is
unwritten_used ends.SinkFault talk is = tt
unwritten_used ends.NoMemory talk is = tt
unwritten_used ends.Quit talk is = tt
unwritten_used ends.End talk is = tt
unwritten_used ends.LineTooLong talk is = tt
unwritten_used ends.SourceFault talk is = tt

pub unread_whole : (end : SessionEnd) → IsUnread end → IsWhole end
unread_whole ends.End is = tt
unread_whole ends.SourceFault is = tt
unread_whole ends.Quit is = tt
unread_whole ends.LineTooLong is = tt
unread_whole ends.UsedUp is = absurd is
unread_whole ends.SinkFault is = absurd is
unread_whole ends.NoMemory is = absurd is

pub unread_place : (end : SessionEnd) (place : Place) → IsUnread end → (IsEnd place → ⊥) → EndsAt end place
unread_place ends.End place is going = going
unread_place ends.SourceFault place is going = going
unread_place ends.Quit place is going = absurd is
unread_place ends.LineTooLong place is going = absurd is
unread_place ends.UsedUp place is going = absurd is
unread_place ends.SinkFault place is going = absurd is
unread_place ends.NoMemory place is going = absurd is
