-- The laws over every string of bytes, by its cut and by its fronts.
use Rattle.std.proofs.Common.{◌≡◌, ℕ, ◌+◌, ◌<◌, ◌≤◌, Bool, true, false, nat_lt, List, [], ◌∷◌, ◌++◌, length, take, Option, None, Some, Result, Ok, Err, if◌then◌else◌, refl, sym, ◌∙◌, ap, arith, take_at, drop_at}
use Rattle.std.specs.Prelude.{is_ok, codes}
use Rattle.std.specs.List.{AllByRecursion}
use Rattle.std.specs.Option.{ok_or}
use Rattle.std.specs.Str.{bytes_eq}
use Rattle.std.proofs.lemmas.Bool.Decides.{nat_tests}
use Rattle.std.proofs.lemmas.Slice.Eq.{bytes_eq-Decides}
use Rattle.flash_names.specs.declared.geometry.Geometry.{Geometry}
use Rattle.flash_names.specs.Cut.{cut_at}
use Rattle.flash_names.specs.Words.{words}
use Rattle.flash_script.specs.declared.fault.Why.{Why}
use Rattle.flash_script.specs.declared.fault.Why.TheVariants.{BadNumber, Short, TooLong}
use Rattle.flash_script.specs.declared.fault.ScriptFault.{ScriptFault}
use Rattle.flash_script.specs.Steps.{Step, Feed}
use Rattle.flash_script.specs.Scripts.{StepAt, ◌>>=◌, session_of, fed_before, fed_of, line_step, step_cut, step_at, geometry_of, fault_or, too_long, steps_fault, fault_from, cut_fault, fault_of}
use Rattle.flash_script.specs.ScriptLaws.{IsGoodFront, HasGoodFronts, IsFeed, IsFeedOf}
use Rattle.flash_script.proofs.Scripts.Cuts.{cut_joins}
use Rattle.flash_script.proofs.Scripts.Feeds.{feed_parts, at_line, at_feed}
use Rattle.flash_script.proofs.Scripts.FirstLine.{by_cut}

-- what was read has no fault
pass : {A : Type 0} (line : ℕ) (r : Result A Why) (later : Option ScriptFault) → is_ok r ≡ true → fault_or line r later ≡ later
pass line (Ok x) later good = refl
pass line (Err why) later good = absurd (cc good)

-- the first fault is that of what follows after good steps
good_ahead : (line : ℕ) (good next : List (List ℕ)) → line + length good ≤ 1048578 → AllByRecursion IsGoodFront good → steps_fault line (good ++ next) ≡ steps_fault (line + length good) next
good_ahead line [] next few steps = let same : line ≡ line + 0 = omega arith in ap (λ (n : ℕ). steps_fault n next) same
good_ahead line (front ∷ good) next few steps =
    let in_range : nat_lt 1048577 line ≡ false = grind (arith, nat_tests) in
    let later = steps_fault (line + 1) (good ++ next) in
    let same : line + 1 + length good ≡ line + length (front ∷ good) = omega arith in
    ap (λ t. if t then too_long else fault_or line (step_at front) later) in_range ∙ pass line (step_at front) later steps.0
    ∙ good_ahead (line + 1) good next (omega arith) steps.1 ∙ ap (λ (n : ℕ). steps_fault n next) same

module _ (bytes : List ℕ) (good next : List (List ℕ)) (small : length bytes ≤ 16777216) (few : length good ≤ 1048576) (has : HasGoodFronts bytes good next) where
  -- the same of a whole script
  fault_ahead : fault_of bytes ≡ steps_fault (length good + 2) next
  fault_ahead =
      let same : 2 + length good ≡ length good + 2 = omega arith in
      by_cut bytes small ∙ ap cut_fault has.first ∙ pass 1 (geometry_of has.first_line) (fault_from 2 has.behind) has.geometry
      ∙ ap (steps_fault 2) has.parts ∙ good_ahead 2 good next (omega arith) has.steps ∙ ap (λ (n : ℕ). steps_fault n next) same

-- a bad step
pub first_bad : (bytes bad : List ℕ) (good more : List (List ℕ)) (why : Why) → length bytes ≤ 16777216 → length good < 1048576 → HasGoodFronts bytes good (bad ∷ more) → step_at bad ≡ Err why
    → fault_of bytes ≡ Some (record { line = length good + 2; why = why })
first_bad bytes bad good more why small few has is =
    let in_range : nat_lt 1048577 (length good + 2) ≡ false = grind (arith, nat_tests) in
    let later = steps_fault (length good + 2 + 1) more in
    fault_ahead bytes good (bad ∷ more) small (omega arith) has
    ∙ ap (λ t. if t then too_long else fault_or (length good + 2) (step_at bad) later) in_range
    ∙ ap (λ (r : Result StepAt Why). fault_or (length good + 2) r later) is

-- a bad first line
pub bad_first_line : (bytes first_line behind : List ℕ) (why : Why) → length bytes ≤ 16777216 → cut_at 10 bytes ≡ Some (first_line, behind) → geometry_of first_line ≡ Err why
    → fault_of bytes ≡ Some (record { line = 1; why = why })
bad_first_line bytes first_line behind why small cut bad =
    by_cut bytes small ∙ ap cut_fault cut ∙ ap (λ (r : Result Geometry Why). fault_or 1 r (fault_from 2 behind)) bad

-- a last line that no line feed ends
pub short_line : (bytes last : List ℕ) (good more : List (List ℕ)) → length bytes ≤ 16777216 → length good < 1048576 → HasGoodFronts bytes good (last ∷ more) → cut_at 10 last ≡ None
    → fault_of bytes ≡ Some (record { line = length good + 2; why = Short })
short_line bytes last good more small few has none = first_bad bytes last good more Short small few has (ap step_cut none)

-- a step too many
pub too_many_steps : (bytes front : List ℕ) (good more : List (List ℕ)) → length bytes ≤ 16777216 → length good ≡ 1048576 → HasGoodFronts bytes good (front ∷ more)
    → fault_of bytes ≡ Some (record { line = 0; why = TooLong })
too_many_steps bytes front good more small most has =
    let beyond : nat_lt 1048577 (length good + 2) ≡ true = grind (arith, nat_tests) in
    fault_ahead bytes good (front ∷ more) small (omega arith) has
    ∙ ap (λ t. if t then too_long else fault_or (length good + 2) (step_at front) (steps_fault (length good + 2 + 1) more)) beyond

-- what isn't true is false
not_true : (test : Bool) → (test ≡ true → ⊥) → test ≡ false
not_true true other = absurd (other refl)
not_true false other = refl

-- a line that is a step alone
pub is_a_line : (front line behind word : List ℕ) (more : List (List ℕ)) → cut_at 10 front ≡ Some (line, behind) → words line ≡ word ∷ more → (word ≡ codes "feed" → ⊥) → step_at front ≡ line_step line
is_a_line front line behind word more cut line_words other = at_line front line behind word more cut line_words (not_true (bytes_eq word (codes "feed")) (λ same. other ((bytes_eq-Decides word (codes "feed")).0 same)))

-- a feed that was read
pub is_a_feed : (front line behind : List ℕ) (more : List (List ℕ)) (read : StepAt) → cut_at 10 front ≡ Some (line, behind) → words line ≡ codes "feed" ∷ more → step_at front ≡ Ok read → IsFeedOf front line read
is_a_feed front line behind more read cut line_words is =
    let parts = feed_parts more (length line + 1) behind read (sym (at_feed front line behind (codes "feed") more cut line_words refl) ∙ is) in (
      parts.fed,
      parts.rest,
      record {
        parts = cut_joins 10 front line behind cut ∙ ap (λ (l : List ℕ). line ++ 10 ∷ l) parts.behind_is;
        session_word = parts.session_word;
        number_word = parts.number_word;
        line_words = line_words ∙ ap (λ (ws : List (List ℕ)). codes "feed" ∷ ws) parts.more_are;
        number = parts.number;
        session = parts.session;
        seat = parts.seat;
        step = sym (ap (λ (one : StepAt). one.step) parts.is);
        size = sym (ap (λ (one : StepAt). one.size) parts.is);
      },
    )

-- a feed is read
pub feed_is_read : (front line fed rest : List ℕ) (read : StepAt) → cut_at 10 front ≡ Some (line, fed ++ 10 ∷ rest) → IsFeed front line fed rest read → step_at front ≡ Ok read
feed_is_read front line fed rest read cut is =
    let more = is.session_word ∷ is.number_word ∷ [] in
    let size = length line + 1 in
    let behind = fed ++ 10 ∷ rest in
    let fed_is : fed_of (length fed) behind ≡ Ok fed =
    ap (fed_before (take (length fed) behind)) (drop_at fed (10 ∷ rest) (length fed) refl) ∙ ap (λ (l : List ℕ). Ok l) (take_at fed (10 ∷ rest) (length fed) refl) in
    at_feed front line behind (codes "feed") more cut is.line_words refl
    ∙ ap (λ (o : Option ℕ). ok_or o BadNumber >>= (λ n. fed_of n behind >>= (λ l. ok_or (session_of is.session_word) BadNumber >>= (λ s. Ok (record { step = Feed s l; size = size + n + 1 }))))) is.number
    ∙ ap (λ (r : Result (List ℕ) Why). r >>= (λ l. ok_or (session_of is.session_word) BadNumber >>= (λ s. Ok (record { step = Feed s l; size = size + length fed + 1 })))) fed_is
    ∙ ap (λ (o : Option ℕ). ok_or o BadNumber >>= (λ s. Ok (record { step = Feed s fed; size = size + length fed + 1 }))) is.seat
    ∙ ap (λ (s : Step). Ok (record { step = s; size = size + length fed + 1 })) (sym is.step)
    ∙ ap (λ (n : ℕ). Ok (record { step = read.step; size = n })) (sym is.size)
