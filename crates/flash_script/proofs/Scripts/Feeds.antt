-- How a step is read at the front of bytes, and what a feed is.
use Rattle.std.proofs.Common.{◌≡◌, ℕ, ◌+◌, ◌≤◌, Bool, true, false, ◌==◌, List, [], ◌∷◌, ◌++◌, length, take, drop, Option, None, Some, Result, Ok, Err, if◌then◌else◌, refl, sym, ◌∙◌, ap, arith, length-append, length-drop, length-take-le}
use Rattle.std.specs.Prelude.{codes}
use Rattle.std.specs.Option.{ok_or}
use Rattle.std.specs.Result.{result_map_both}
use Rattle.std.specs.Str.{bytes_eq}
use Rattle.std.proofs.lemmas.Bool.Decides.{nat_tests}
use Rattle.std.proofs.lemmas.List.{take-append-drop}
use Rattle.flash_names.specs.Cut.{cut_at}
use Rattle.flash_names.specs.Numbers.{number_of}
use Rattle.flash_names.specs.Words.{words}
use Rattle.flash_script.specs.declared.fault.Why.{Why}
use Rattle.flash_script.specs.declared.fault.Why.TheVariants.{BadWord, BadNumber}
use Rattle.flash_script.specs.Steps.{Step, Feed}
use Rattle.flash_script.specs.Scripts.{StepAt, ◌>>=◌, two_of, session_of, fed_before, fed_of, feed_of, step_of, line_step, step_behind, step_cut, step_at}
use Rattle.flash_script.proofs.Scripts.Cuts.{cut_length}

-- what was read first, where all was good
pub bind_ok : {A B : Type 0} (r : Result A Why) (f : A → Result B Why) (y : B) → (r >>= f) ≡ Ok y → (x : A) × (r ≡ Ok x) × (f x ≡ Ok y)
bind_ok (Ok x) f y is = (x, refl, is)
bind_ok (Err why) f y is = absurd (cc is)

-- what there is, where it is good
pub some_ok : {A : Type 0} (o : Option A) (why : Why) (x : A) → ok_or o why ≡ Ok x → o ≡ Some x
some_ok None why x is = absurd (cc is)
some_ok (Some y) why x is = let same : y ≡ x = cc in ap Some same

-- words that are two
two_are : (more : List (List ℕ)) (two : List ℕ × List ℕ) → two_of more ≡ Some two → more ≡ two.0 ∷ two.1 ∷ []
two_are [] two is = absurd (cc is)
two_are (one ∷ []) two is = absurd (cc is)
two_are (one ∷ other ∷ []) two is =
    let same : (one, other) ≡ two = cc in ap (λ (p : List ℕ × List ℕ). p.0 ∷ p.1 ∷ []) same
two_are (one ∷ other ∷ third ∷ more) two is = absurd (cc is)

-- fed bytes, and what stands behind them
record AreFed (n : ℕ) (behind fed : List ℕ) : Type 0 where
  rest : List ℕ
  parts : behind ≡ fed ++ 10 ∷ rest
  size : length fed ≡ n

fed_test : (n b : ℕ) (behind fed rest : List ℕ) (test : Bool) → (b == 10) ≡ test → drop n behind ≡ b ∷ rest → (if test then Ok (take n behind) else Err BadWord) ≡ Ok fed → AreFed n behind fed
fed_test n b behind fed rest false here left is = absurd (cc is)
fed_test n b behind fed rest true here left is =
    let same : take n behind ≡ fed = cc in
    let feed : b ≡ 10 = grind (arith, nat_tests) in
    let some : n ≤ length behind = omega (arith, ap length left, length-drop n behind) in
    record {
      rest = rest;
      parts = sym (take-append-drop n behind) ∙ ap (λ (l : List ℕ). take n behind ++ l) left ∙ ap (λ (x : ℕ). take n behind ++ x ∷ rest) feed ∙ ap (λ (l : List ℕ). l ++ 10 ∷ rest) same;
      size = sym (ap length same) ∙ length-take-le n behind some;
    }

fed_by : (n : ℕ) (behind fed left : List ℕ) → drop n behind ≡ left → fed_before (take n behind) left ≡ Ok fed → AreFed n behind fed
fed_by n behind fed [] here is = absurd (cc is)
fed_by n behind fed (b ∷ rest) here is = fed_test n b behind fed rest (b == 10) refl here is

-- bytes that are fed
fed_are : (n : ℕ) (behind fed : List ℕ) → fed_of n behind ≡ Ok fed → AreFed n behind fed
fed_are n behind fed is = fed_by n behind fed (drop n behind) refl is

-- what a feed is made of, with these words behind `feed`, and these bytes behind its line
pub record FeedParts (more : List (List ℕ)) (size : ℕ) (behind : List ℕ) (read : StepAt) : Type 0 where
  pub session_word : List ℕ
  pub number_word : List ℕ
  pub more_are : more ≡ session_word ∷ number_word ∷ []
  pub fed : List ℕ
  pub rest : List ℕ
  pub number : number_of number_word ≡ Some (length fed)
  pub behind_is : behind ≡ fed ++ 10 ∷ rest
  pub session : ℕ
  pub seat : session_of session_word ≡ Some session
  pub is : record { step = Feed session fed; size = size + length fed + 1 } ≡ read

-- a feed that was read, by what was read for it
feed_made : (more : List (List ℕ)) (size : ℕ) (behind : List ℕ) (read : StepAt) (two : List ℕ × List ℕ) (n : ℕ) (fed : List ℕ) (session : ℕ) → two_of more ≡ Some two → number_of two.1 ≡ Some n
    → fed_of n behind ≡ Ok fed → session_of two.0 ≡ Some session → record { step = Feed session fed; size = size + n + 1 } ≡ read → FeedParts more size behind read
feed_made more size behind read two n fed session is_two is_number is_fed is_session made =
    let parts = fed_are n behind fed is_fed in
    record {
      session_word = two.0;
      number_word = two.1;
      more_are = two_are more two is_two;
      fed = fed;
      rest = parts.rest;
      number = is_number ∙ ap Some (sym parts.size);
      behind_is = parts.parts;
      session = session;
      seat = is_session;
      is = ap (λ (k : ℕ). record { step = Feed session fed; size = size + k + 1 }) parts.size ∙ made;
    }

-- a feed that was read
pub feed_parts : (more : List (List ℕ)) (size : ℕ) (behind : List ℕ) (read : StepAt) → feed_of more size behind ≡ Ok read → FeedParts more size behind read
feed_parts more size behind read good =
    let two = bind_ok (ok_or (two_of more) BadWord) _ read good in
    let n = bind_ok (ok_or (number_of two.0.1) BadNumber) _ read two.2 in
    let fed = bind_ok (fed_of n.0 behind) _ read n.2 in
    let session = bind_ok (ok_or (session_of two.0.0) BadNumber) _ read fed.2 in
    feed_made more size behind read two.0 n.0 fed.0 session.0 (some_ok (two_of more) BadWord two.0 two.1)
    (some_ok (number_of two.0.1) BadNumber n.0 n.1) fed.1 (some_ok (session_of two.0.0) BadNumber session.0 session.1) (cc)

-- the number of the bytes of a step is within those that there are
pub record IsSized (bytes : List ℕ) (read : StepAt) : Type 0 where
  pub some : 1 ≤ read.size
  pub within : read.size ≤ length bytes

-- a line's step has the line's bytes
line_sized : (line : List ℕ) (r : Result Step Why) (read : StepAt) → result_map_both (λ step. record { step = step; size = length line + 1 }) (λ why. why) r ≡ Ok read → read.size ≡ length line + 1
line_sized line (Err why) read is = absurd (cc is)
line_sized line (Ok step) read is = let same : record { step = step; size = length line + 1 } ≡ read = cc in sym (ap (λ (one : StepAt). one.size) same)

test_sized : (test : Bool) (more : List (List ℕ)) (bytes line behind : List ℕ) (read : StepAt) → length bytes ≡ length line + 1 + length behind
    → (if test then feed_of more (length line + 1) behind else line_step line) ≡ Ok read → IsSized bytes read
test_sized true more bytes line behind read whole is =
    let parts = feed_parts more (length line + 1) behind read is in
    let size : read.size ≡ length line + 1 + length parts.fed + 1 = sym (ap (λ (one : StepAt). one.size) parts.is) in
    let left : length behind ≡ length parts.fed + length (10 ∷ parts.rest) = ap length parts.behind_is ∙ length-append parts.fed (10 ∷ parts.rest) in
    record { some = omega (arith, size); within = omega (arith, size, left, whole) }
test_sized false more bytes line behind read whole is =
    let size = line_sized line (step_of line) read is in record { some = omega (arith, size); within = omega (arith, size, whole) }

words_sized : (ws : List (List ℕ)) (bytes line behind : List ℕ) (read : StepAt) → length bytes ≡ length line + 1 + length behind → step_behind ws line behind ≡ Ok read → IsSized bytes read
words_sized [] bytes line behind read whole is = absurd (cc is)
words_sized (word ∷ more) bytes line behind read whole is = test_sized (bytes_eq word (codes "feed")) more bytes line behind read whole is

cut_sized : (bytes : List ℕ) (cut : Option (List ℕ × List ℕ)) (read : StepAt) → cut_at 10 bytes ≡ cut → step_cut cut ≡ Ok read → IsSized bytes read
cut_sized bytes None read here is = absurd (cc is)
cut_sized bytes (Some parts) read here is = words_sized (words parts.0) bytes parts.0 parts.1 read (cut_length 10 bytes parts.0 parts.1 here) is

-- so it is for a step that was read
pub sized : (bytes : List ℕ) (read : StepAt) → step_at bytes ≡ Ok read → IsSized bytes read
sized bytes read is = cut_sized bytes (cut_at 10 bytes) read refl is

-- the step at the front of bytes, by its line
module _ (front line behind word : List ℕ) (more : List (List ℕ)) (cut : cut_at 10 front ≡ Some (line, behind)) (line_words : words line ≡ word ∷ more) where
  by_words : step_at front ≡ step_behind (word ∷ more) line behind
  by_words = ap step_cut cut ∙ ap (λ (ws : List (List ℕ)). step_behind ws line behind) line_words

  -- a line with another word is a step alone
  pub at_line : bytes_eq word (codes "feed") ≡ false → step_at front ≡ line_step line
  at_line other = by_words ∙ ap (λ (t : Bool). if t then feed_of more (length line + 1) behind else line_step line) other

  -- and with this one it is a feed
  pub at_feed : bytes_eq word (codes "feed") ≡ true → step_at front ≡ feed_of more (length line + 1) behind
  at_feed this = by_words ∙ ap (λ (t : Bool). if t then feed_of more (length line + 1) behind else line_step line) this
