-- What the definitions of a script say of every string of bytes.
use Rattle.std.specs.Prelude.{◌≡◌, ◌<◌, ◌≤◌, ℕ, ◌+◌, true, List, [], ◌∷◌, ◌++◌, length, map, drop, sum_by, Some, None, Ok, Err, is_some, is_none, is_ok, codes}
use Rattle.std.specs.List.{AllByRecursion}
use Rattle.std.specs.Result.{result_map_both}
use Rattle.flash_names.specs.Cut.{cut_at}
use Rattle.flash_names.specs.Numbers.{number_of}
use Rattle.flash_names.specs.Words.{words}
use Rattle.flash_script.specs.declared.fault.Why.{Why}
use Rattle.flash_script.specs.declared.fault.Why.TheVariants.{BadNumber, Short, TooLong}
use Rattle.flash_script.specs.Steps.{Feed, Turn, AreSeated}
use Rattle.flash_script.specs.Scripts.{Script, StepAt, geometry_of, session_of, step_of, step_at, fronts, steps_of, fault_from, script_of, fault_of}
use Rattle.flash_script.specs.declared.script.TheConstants.{MAX_BYTES, MAX_STEPS}

-- bytes are read as a script exactly where no line of theirs is bad
abbrev pub AreReadOrBad : Type 0
AreReadOrBad = (bytes : List ℕ) → is_some (script_of bytes) ≡ is_none (fault_of bytes)

-- the bytes are a first line without a line feed in it, a line feed, and what is behind it
pub record HasFirstLine (bytes first_line behind : List ℕ) : Type 0 where
  pub parts : bytes ≡ first_line ++ 10 ∷ behind
  pub first : cut_at 10 bytes ≡ Some (first_line, behind)

-- the script of these bytes: the first line is its geometry's, and behind it stand its steps, in order, of which each
-- begins where the one before it ends; the last one ends with the bytes
pub record IsOfFronts (bytes : List ℕ) (script : Script) : Type 0 where
  pub first_line : List ℕ
  pub behind : List ℕ
  pub parts : HasFirstLine bytes first_line behind
  pub line_is : script.first_line ≡ first_line ++ 10 ∷ []
  pub geometry : geometry_of first_line ≡ Ok script.geometry
  pub read : List StepAt
  pub each : map step_at (fronts 0 behind) ≡ map Ok read
  pub steps : script.steps ≡ map (λ one. one.step) read
  pub sizes : sum_by (λ one. one.size) read ≡ length behind
  pub few : length script.steps ≤ MAX_STEPS

-- a script that was read is its parts
abbrev pub IsReadByFronts : Type 0
IsReadByFronts = (bytes : List ℕ) (script : Script) → script_of bytes ≡ Some script → IsOfFronts bytes script

-- behind a step's bytes the next step begins
abbrev pub IsNextFront : Type 0
IsNextFront =
    (bytes : List ℕ) (read : StepAt) → step_at bytes ≡ Ok read
    → fronts 0 bytes ≡ bytes ∷ fronts 0 (drop read.size bytes)

-- a step that is good begins there
abbrev pub IsGoodFront : List ℕ → Type 0
IsGoodFront front = is_ok (step_at front) ≡ true

-- bytes behind a good first line that have these good steps first, and then go on as these do
pub record HasGoodFronts (bytes : List ℕ) (good next : List (List ℕ)) : Type 0 where
  pub first_line : List ℕ
  pub behind : List ℕ
  pub first : cut_at 10 bytes ≡ Some (first_line, behind)
  pub geometry : is_ok (geometry_of first_line) ≡ true
  pub parts : fronts 0 behind ≡ good ++ next
  pub steps : AllByRecursion IsGoodFront good

-- the first bad step is the fault, with the number of its line: the steps are on the lines from 2 on
abbrev pub IsFirstBadFront : Type 0
IsFirstBadFront =
    (bytes bad : List ℕ) (good more : List (List ℕ)) (why : Why) → length bytes ≤ MAX_BYTES
    → length good < MAX_STEPS → HasGoodFronts bytes good (bad ∷ more) → step_at bad ≡ Err why
    → fault_of bytes ≡ Some (record { line = length good + 2; why = why })

-- a first line that is bad is the fault
abbrev pub IsBadFirstLine : Type 0
IsBadFirstLine =
    (bytes first_line behind : List ℕ) (why : Why) → length bytes ≤ MAX_BYTES
    → cut_at 10 bytes ≡ Some (first_line, behind) → geometry_of first_line ≡ Err why
    → fault_of bytes ≡ Some (record { line = 1; why = why })

-- the line that no line feed ends is short, with its number
abbrev pub IsShortLine : Type 0
IsShortLine =
    (bytes last : List ℕ) (good more : List (List ℕ)) → length bytes ≤ MAX_BYTES → length good < MAX_STEPS
    → HasGoodFronts bytes good (last ∷ more) → cut_at 10 last ≡ None
    → fault_of bytes ≡ Some (record { line = length good + 2; why = Short })

-- without a line feed line 1 is short
abbrev pub IsShortFirstLine : Type 0
IsShortFirstLine =
    (bytes : List ℕ) → length bytes ≤ MAX_BYTES → cut_at 10 bytes ≡ None
    → fault_of bytes ≡ Some (record { line = 1; why = Short })

-- too many bytes are before all other faults
abbrev pub HasTooManyBytes : Type 0
HasTooManyBytes =
    (bytes : List ℕ) → MAX_BYTES < length bytes → fault_of bytes ≡ Some (record { line = 0; why = TooLong })

-- as many good steps as there may be, and a step more, good or bad
abbrev pub HasTooManySteps : Type 0
HasTooManySteps =
    (bytes front : List ℕ) (good more : List (List ℕ)) → length bytes ≤ MAX_BYTES → length good ≡ MAX_STEPS
    → HasGoodFronts bytes good (front ∷ more)
    → fault_of bytes ≡ Some (record { line = 0; why = TooLong })

-- a step whose line doesn't begin with the word `feed` is that line alone, with its line feed
abbrev pub IsALine : Type 0
IsALine =
    (front line behind word : List ℕ) (more : List (List ℕ)) → cut_at 10 front ≡ Some (line, behind)
    → words line ≡ word ∷ more → (word ≡ codes "feed" → ⊥)
    → step_at front
    ≡ result_map_both (λ step. record { step = step; size = length line + 1 }) (λ why. why) (step_of line)

-- a line `feed <session> <n>`, n bytes behind it, and a line feed behind them
pub record IsFeed (front line fed rest : List ℕ) (read : StepAt) : Type 0 where
  pub parts : front ≡ line ++ 10 ∷ (fed ++ 10 ∷ rest)
  pub session_word : List ℕ
  pub number_word : List ℕ
  pub line_words : words line ≡ codes "feed" ∷ session_word ∷ number_word ∷ []
  pub number : number_of number_word ≡ Some (length fed)
  pub session : ℕ
  pub seat : session_of session_word ≡ Some session
  pub step : read.step ≡ Feed session fed
  pub size : read.size ≡ length line + 1 + length fed + 1

-- some bytes behind its line are a feed's
abbrev pub IsFeedOf : List ℕ → List ℕ → StepAt → Type 0
IsFeedOf front line read = (fed : List ℕ) × (rest : List ℕ) × IsFeed front line fed rest read

-- a good step whose line begins with the word `feed` is a feed
abbrev pub IsAFeed : Type 0
IsAFeed =
    (front line behind : List ℕ) (more : List (List ℕ)) (read : StepAt) → cut_at 10 front ≡ Some (line, behind)
    → words line ≡ codes "feed" ∷ more → step_at front ≡ Ok read → IsFeedOf front line read

-- each feed is read so, whatever its bytes are
abbrev pub EachFeedIsRead : Type 0
EachFeedIsRead =
    (front line fed rest : List ℕ) (read : StepAt) → cut_at 10 front ≡ Some (line, fed ++ 10 ∷ rest)
    → IsFeed front line fed rest read → step_at front ≡ Ok read

-- the sessions of a script that was read are from 1 to 16
abbrev pub HasSeats : Type 0
HasSeats = (bytes : List ℕ) (script : Script) → script_of bytes ≡ Some script → AreSeated script.steps

-- two steps: a feed of three bytes, of which the second is a line feed, and a turn
abbrev pub IsAnExample : Type 0
IsAnExample =
    steps_of (fronts 0 (codes "feed 1 3\na\nb\nstep 2\n")) ≡ Some (Feed 1 (97 ∷ 10 ∷ 98 ∷ []) ∷ Turn 2 ∷ [])

-- a feed of a line feed is on line 2, and the step behind it, whose session isn't one, on line 3
abbrev pub IsAnExampleOfAFault : Type 0
IsAnExampleOfAFault =
    fault_from 2 (codes "feed 1 1\n\n\nstep 17\n") ≡ Some (record { line = 3; why = BadNumber })
