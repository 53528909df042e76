-- Where a session stands between its turns.
use Rattle.std.proofs.Common.{◌≡◌, ℕ, zero, suc, ◌+◌, Bool, true, false, List, [], ◌∷◌, ◌++◌, length, take, drop, Some, refl, sym, ◌∙◌, ap, subst, append_assoc, arith}
use Rattle.std.specs.Prelude.{slice_get}
use Rattle.std.specs.List.{AllByRecursion}
use Rattle.std.proofs.lemmas.List.{append-nil, length-take}
use Rattle.flash_entry.specs.declared.ask.Ask.{Ask}
use Rattle.flash_entry.specs.declared.found.Told.{Told}
use Rattle.flash_commands.specs.declared.place.Place.{Place}
use Rattle.flash_commands.specs.declared.place.Place.TheVariants.{InLine, InSkip, AtQuit, TooLong}
use Rattle.flash_commands.specs.Parts.{Asked, Asks, Refused, Front, Takes, Rest, Read}
use Rattle.flash_commands.specs.Commands.{line_limit, read_from, commands_of}
use Rattle.flash_commands.specs.Asks.{asks_of}
use Rattle.flash_commands.specs.Laws.{IsEnd, EndsAlike}
use Rattle.flash_session.specs.Laws.{IsAllSaid}
use Rattle.flash_session.specs.Stands.{one_if, Stands}
use Rattle.flash_session.specs.States.{Session, front_now, ask_at, is_done, told_at}
use Rattle.flash_session.specs.Talks.{ends_command, talk_of, steps_of}
use Rattle.flash_play.specs.Playing.{is_end}
use Rattle.flash_seats.specs.Laws.{SessionLaws}

-- the steps that these bytes ask
abbrev pub steps_in : ℕ → List ℕ → List Ask
steps_in item_max bytes = steps_of (commands_of item_max bytes).asked

abbrev pub EachHad : List Told → Type 0
EachHad told = AllByRecursion (λ answer. ends_command answer ≡ false) told

-- the steps of commands and of more
steps_append : (xs ys : List Asked) → steps_of (xs ++ ys) ≡ steps_of xs ++ steps_of ys
steps_append [] ys = refl
steps_append (Refused refusal ∷ xs) ys = steps_append xs ys
steps_append (Asks command block ∷ xs) ys =
    ap (λ (l : List Ask). asks_of command block ++ l) (steps_append xs ys) ∙ sym (append_assoc (asks_of command block) (steps_of xs) (steps_of ys))

-- a place in the first ones, and in all
front_place : (n k : ℕ) (xs : List Ask) (ask : Ask) → slice_get (take n xs) k ≡ Some ask → slice_get xs k ≡ Some ask
front_place zero k xs ask at = absurd (cc at)
front_place (suc n) k [] ask at = at
front_place (suc n) zero (x ∷ xs) ask at = at
front_place (suc n) (suc k) (x ∷ xs) ask at = front_place n k xs ask at

more_place : (xs ys : List Ask) (k : ℕ) (ask : Ask) → slice_get xs k ≡ Some ask → slice_get (xs ++ ys) k ≡ Some ask
more_place [] ys k ask at = absurd (cc at)
more_place (x ∷ xs) ys zero ask at = at
more_place (x ∷ xs) ys (suc k) ask at = more_place xs ys k ask at

-- what is left begins with it
left_at : (xs : List Ask) (k : ℕ) (ask : Ask) → slice_get xs k ≡ Some ask → drop k xs ≡ ask ∷ drop (k + 1) xs
left_at [] k ask at = absurd (cc at)
left_at (x ∷ xs) zero ask at = let same : x ≡ ask = cc at in ap (λ (a : Ask). a ∷ xs) same
left_at (x ∷ xs) (suc k) ask at = let more : suc (k + 1) ≡ suc k + 1 = omega arith in left_at xs k ask at ∙ ap (λ (n : ℕ). ask ∷ drop n (x ∷ xs)) more

-- nothing is left behind as many as there are
none_left : (xs : List Ask) (k : ℕ) → length (take (k + 1) xs) ≡ k → drop k xs ≡ []
none_left xs k counted = dropped xs k (let size = length-take (k + 1) xs in omega (arith, size, counted))
  where
    dropped : (xs : List Ask) (k : ℕ) → length xs ≡ k → drop k xs ≡ []
    dropped [] zero is = refl
    dropped [] (suc k) is = absurd (omega (arith, is))
    dropped (x ∷ xs) zero is = absurd (omega (arith, is))
    dropped (x ∷ xs) (suc k) is = dropped xs k (omega (arith, is))

pub all_had : (told : List Told) (answer : Told) → EachHad told → ends_command answer ≡ false → EachHad (told ++ answer ∷ [])
all_had [] answer each last = (last, tt)
all_had (first ∷ told) answer each last = (each.0, all_had told answer each.1 last)

-- what a session is told an answer leaves
pub record Answered (s : Session) (answer : Told) : Type 0 where
  pub free : (told_at s (front_now s) answer).owed ≡ false
  pub pass : (told_at s (front_now s) answer).pass ≡ s.pass
  pub item_max : (told_at s (front_now s) answer).reads.item_max ≡ s.reads.item_max
  pub last : (told_at s (front_now s) answer).last ≡ s.last

record AnsweredAt (s : Session) (front : Front) (answer : Told) : Type 0 where
  free : (told_at s front answer).owed ≡ false
  pass : (told_at s front answer).pass ≡ s.pass
  item_max : (told_at s front answer).reads.item_max ≡ s.reads.item_max
  last : (told_at s front answer).last ≡ s.last

module _ (s : Session) (ask : Ask) (answer : Told) where
  answered_by : (front : Front) → ask_at s.step front ≡ Some ask → AnsweredAt s front answer
  answered_by (Takes (Asks command block ∷ []) n next) is = by_done (is_done answer (s.step + 1) (asks_of command block)) refl
    where
      by_done : (done : Bool) → is_done answer (s.step + 1) (asks_of command block) ≡ done → AnsweredAt s (Takes (Asks command block ∷ []) n next) answer
      by_done true done = record { free = rw done refl; pass = rw done refl; item_max = rw done refl; last = rw done refl }
      by_done false done = record { free = rw done refl; pass = rw done refl; item_max = rw done refl; last = rw done refl }
  answered_by _ is = absurd (cc is)

  pub answered : ask_at s.step (front_now s) ≡ Some ask → Answered s answer
  answered is = let at = answered_by (front_now s) is in record { free = at.free; pass = at.pass; item_max = at.item_max; last = at.last }

module _ (laws : SessionLaws) (item_max : ℕ) (fed rest : List ℕ) (told : List Told) (gone : List ℕ) (s : Session) (size : s.reads.item_max ≡ item_max) (each : EachHad told) (stands : Stands fed told gone s) where
  -- the steps of the bytes that were fed are the first of all
  abbrev later : List Ask
  later = steps_of (read_from item_max line_limit (commands_of item_max fed).skip (commands_of item_max fed).place ((commands_of item_max fed).rest ++ rest)).asked

  steps_later : steps_in item_max (fed ++ rest) ≡ steps_in item_max fed ++ later
  steps_later =
      ap (λ (read : Read). steps_of read.asked) (laws.more item_max fed rest)
      ∙ steps_append (commands_of item_max fed).asked (read_from item_max line_limit (commands_of item_max fed).skip (commands_of item_max fed).place ((commands_of item_max fed).rest ++ rest)).asked

  -- the step at the front is the next one of all
  pub step_there : (ask : Ask) → ask_at s.step (front_now s) ≡ Some ask → slice_get (steps_in item_max (fed ++ rest)) (length told) ≡ Some ask
  step_there ask is =
      let next : slice_get (talk_of (commands_of item_max fed).asked told).asks (length told) ≡ Some ask = subst (λ (m : ℕ). slice_get (talk_of (commands_of m fed).asked told).asks (length told) ≡ Some ask) size (laws.step fed told gone s ask is stands) in
      let taken : slice_get (take (length told + 1) (steps_in item_max fed)) (length told) ≡ Some ask = ap (λ (l : List Ask). slice_get l (length told)) (sym (laws.order (commands_of item_max fed).asked told each)) ∙ next in
      let there : slice_get (steps_in item_max fed ++ later) (length told) ≡ Some ask = more_place (steps_in item_max fed) later (length told) ask (front_place (length told + 1) (length told) (steps_in item_max fed) ask taken) in
      ap (λ (l : List Ask). slice_get l (length told)) steps_later ∙ there

  pub step_ahead : (ask : Ask) → ask_at s.step (front_now s) ≡ Some ask → drop (length told) (steps_in item_max (fed ++ rest)) ≡ ask ∷ drop (length told + 1) (steps_in item_max (fed ++ rest))
  step_ahead ask is = left_at (steps_in item_max (fed ++ rest)) (length told) ask (step_there ask is)

  -- the number of that step
  pub number_is : s.owed ≡ true → s.last ≡ length told + 1
  number_is owes = laws.counted fed told gone s stands ∙ ap (λ (b : Bool). length told + one_if b) owes

  pub number_free : s.owed ≡ false → s.last ≡ length told
  number_free free = let counted = laws.counted fed told gone s stands in let none : one_if s.owed ≡ 0 = ap one_if free in omega (arith, counted, none)

  -- where all is said, no step is left, and the replies are all
  pub record IsDone : Type 0 where
    pub none : drop (length told) (steps_in item_max (fed ++ rest)) ≡ []
    pub replies : (talk_of (commands_of item_max (fed ++ rest)).asked told).replies ≡ gone
    pub place : (commands_of item_max (fed ++ rest)).place ≡ s.reads.reader.place

  done_by : EndsAlike (commands_of item_max fed) (commands_of item_max (fed ++ rest)) → s.out ≡ [] → front_now s ≡ Rest → IsDone
  done_by alike sent rests =
      let said : IsAllSaid fed told gone s = laws.said fed told gone s sent rests stands in
      let asks : length (talk_of (commands_of item_max fed).asked told).asks ≡ length told = subst (λ (m : ℕ). length (talk_of (commands_of m fed).asked told).asks ≡ length told) size said.asks in
      let taken : length (take (length told + 1) (steps_in item_max fed)) ≡ length told = ap (λ (l : List Ask). length l) (sym (laws.order (commands_of item_max fed).asked told each)) ∙ asks in
      record {
        none = ap (λ (l : List Asked). drop (length told) (steps_of l)) alike.asked ∙ none_left (steps_in item_max fed) (length told) taken;
        replies =
            ap (λ (l : List Asked). (talk_of l told).replies) alike.asked
            ∙ subst (λ (m : ℕ). (talk_of (commands_of m fed).asked told).replies ≡ gone) size said.replies;
        place = alike.place ∙ subst (λ (m : ℕ). (commands_of m fed).place ≡ s.reads.reader.place) size said.place;
      }

  -- at the end of all bytes
  pub done_at_rest : rest ≡ [] → s.out ≡ [] → front_now s ≡ Rest → IsDone
  done_at_rest none sent rests =
      done_by (subst (λ (l : List ℕ). EndsAlike (commands_of item_max fed) (commands_of item_max l)) (sym (ap (λ (l : List ℕ). fed ++ l) none ∙ append-nil fed)) (record { asked = refl; place = refl })) sent rests

  -- and at an end
  pub done_at_end : IsEnd s.reads.reader.place → s.out ≡ [] → front_now s ≡ Rest → IsDone
  done_at_end end sent rests =
      let said : IsAllSaid fed told gone s = laws.said fed told gone s sent rests stands in
      let place : (commands_of item_max fed).place ≡ s.reads.reader.place = subst (λ (m : ℕ). (commands_of m fed).place ≡ s.reads.reader.place) size said.place in
      done_by (laws.stays item_max fed rest (subst IsEnd (sym place) end)) sent rests

pub no_end : (place : Place) → (IsEnd place → ⊥) → is_end place ≡ false
no_end AtQuit not = absurd (not tt)
no_end TooLong not = absurd (not tt)
no_end InLine not = refl
no_end InSkip not = refl
