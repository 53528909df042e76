-- The sessions of a script that was read.
use Rattle.std.proofs.Common.{◌≡◌, ℕ, ◌+◌, ◌≤◌, Bool, true, false, ◌&&◌, nat_le, List, [], ◌∷◌, ◌++◌, length, Option, None, Some, Result, Ok, Err, option_map, if◌then◌else◌, refl, subst, arith}
use Rattle.std.specs.Prelude.{is_none, codes}
use Rattle.std.specs.Option.{option_and_then, ok_or}
use Rattle.std.specs.Result.{result_ok, result_map_both}
use Rattle.std.specs.Str.{bytes_eq}
use Rattle.std.proofs.lemmas.Bool.Decides.{nat_tests}
use Rattle.flash_names.specs.declared.geometry.Geometry.{Geometry}
use Rattle.flash_names.specs.Cut.{cut_at}
use Rattle.flash_names.specs.Numbers.{number_of}
use Rattle.flash_names.specs.Words.{words}
use Rattle.flash_script.specs.declared.fault.Why.{Why}
use Rattle.flash_script.specs.declared.fault.Why.TheVariants.{BadWord, BadNumber}
use Rattle.flash_script.specs.declared.step_line.StepWord.{StepWord}
use Rattle.flash_script.specs.declared.step_line.StepWord.TheVariants as begins
use Rattle.flash_script.specs.Steps.{Step, Clock, Say, Turn, Run, Keep, IsSession, IsSeated, AreSeated}
use Rattle.flash_script.specs.Scripts.{Script, StepAt, behind_word, session_of, step_word, step_of_word, step_of_words, step_of, feed_of, line_step, step_behind, step_cut, step_at, fronts, geometry_of, fault_of, steps_of, script_of_parts, cut_script, script_of}
use Rattle.flash_script.proofs.Scripts.Feeds.{feed_parts}

-- the number of a session
session_by : (in_range : Bool) (n session : ℕ) → (nat_le 1 n && nat_le n 16) ≡ in_range → (if in_range then Some n else None) ≡ Some session → IsSession session
session_by true n session test is =
    let low : 1 ≤ n = grind (arith, nat_tests) in let high : n ≤ 16 = grind (arith, nat_tests) in
    subst IsSession (cc is) (record { some = low; within = high })
session_by false n session test is = absurd (cc is)

-- the number of a session, where there is one
session_is : (number : Option ℕ) (session : ℕ) → option_and_then (λ n. if nat_le 1 n && nat_le n 16 then Some n else None) number ≡ Some session → IsSession session
session_is None session is = absurd (cc is)
session_is (Some n) session is = session_by (nat_le 1 n && nat_le n 16) n session refl is

-- a step of a number that was read
number_seat : (make : ℕ → Step) (number : Option ℕ) (step : Step) → ((n : ℕ) → number ≡ Some n → IsSeated (make n)) → ok_or (option_map make number) BadNumber ≡ Ok step → IsSeated step
number_seat make None step each is = absurd (cc is)
number_seat make (Some n) step each is = let same : make n ≡ step = cc in subst IsSeated same (each n refl)

-- a step that was read has a session's number
step_seat : (begin : StepWord) (more : List (List ℕ)) (text : List ℕ) (step : Step) → step_of_word begin more text ≡ Ok step → IsSeated step
step_seat begins.Clock [] text step is = absurd (cc is)
step_seat begins.Clock (number ∷ []) text step is = number_seat Clock (number_of number) step (λ n here. tt) is
step_seat begins.Clock (number ∷ word ∷ more) text step is = absurd (cc is)
step_seat begins.Turn [] text step is = absurd (cc is)
step_seat begins.Turn (number ∷ []) text step is = number_seat Turn (session_of number) step (λ n here. session_is (number_of number) n here) is
step_seat begins.Turn (number ∷ word ∷ more) text step is = absurd (cc is)
step_seat begins.Run [] text step is = absurd (cc is)
step_seat begins.Run (number ∷ []) text step is = number_seat Run (session_of number) step (λ n here. session_is (number_of number) n here) is
step_seat begins.Run (number ∷ word ∷ more) text step is = absurd (cc is)
step_seat begins.Say [] text step is = absurd (cc is)
step_seat (begins.Keep kind) [] text step is = let same : Keep kind ≡ step = cc in subst IsSeated same tt
step_seat (begins.Keep kind) (word ∷ more) text step is = absurd (cc is)
step_seat begins.Say (number ∷ []) text step is = absurd (cc is)
step_seat begins.Say (number ∷ word ∷ more) text step is = number_seat (λ n. Say n text) (session_of number) step (λ n here. session_is (number_of number) n here) is

-- by the word that the line begins with
word_seat : (begin : Option StepWord) (more : List (List ℕ)) (text : List ℕ) (step : Step) → elim begin as (λ b. Result Step Why) [ None ↦ Err BadWord | Some begin ↦ step_of_word begin more text ] ≡ Ok step → IsSeated step
word_seat None more text step is = absurd (cc is)
word_seat (Some begin) more text step is = step_seat begin more text step is

-- by the words of the line
words_seat : (ws : List (List ℕ)) (text : List ℕ) (step : Step) → step_of_words ws text ≡ Ok step → IsSeated step
words_seat [] text step is = absurd (cc is)
words_seat (word ∷ more) text step is = word_seat (step_word word) more text step is

-- of a line alone
line_seat : (line : List ℕ) (r : Result Step Why) (read : StepAt) → ((step : Step) → r ≡ Ok step → IsSeated step)
    → result_map_both (λ step. record { step = step; size = length line + 1 }) (λ why. why) r ≡ Ok read → IsSeated read.step
line_seat line (Err why) read each is = absurd (cc is)
line_seat line (Ok step) read each is =
    let same : record { step = step; size = length line + 1 } ≡ read = cc in subst (λ (one : StepAt). IsSeated one.step) same (each step refl)

-- of a feed, or of a line alone
test_seat : (test : Bool) (more : List (List ℕ)) (line behind : List ℕ) (read : StepAt) → (if test then feed_of more (length line + 1) behind else line_step line) ≡ Ok read → IsSeated read.step
test_seat true more line behind read is =
    let parts = feed_parts more (length line + 1) behind read is in
    subst (λ (one : StepAt). IsSeated one.step) parts.is (session_is (number_of parts.session_word) parts.session parts.seat)
test_seat false more line behind read is = line_seat line (step_of line) read (λ step here. words_seat (words line) (behind_word (behind_word line)) step here) is

behind_seat : (ws : List (List ℕ)) (line behind : List ℕ) (read : StepAt) → step_behind ws line behind ≡ Ok read → IsSeated read.step
behind_seat [] line behind read is = absurd (cc is)
behind_seat (word ∷ more) line behind read is = test_seat (bytes_eq word (codes "feed")) more line behind read is

-- a step at a front
front_seat : (cut : Option (List ℕ × List ℕ)) (read : StepAt) → step_cut cut ≡ Ok read → IsSeated read.step
front_seat None read is = absurd (cc is)
front_seat (Some parts) read is = behind_seat (words parts.0) parts.0 parts.1 read is

-- the steps at fronts, where the first front has this step
seats_more : (r : Result StepAt Why) (more : Option (List Step)) (steps : List Step) → ((read : StepAt) → r ≡ Ok read → IsSeated read.step) → ((all : List Step) → more ≡ Some all → AreSeated all)
    → option_and_then (λ read. option_map (λ all. read.step ∷ all) more) (result_ok r) ≡ Some steps → AreSeated steps
seats_more (Err why) more steps one rest is = absurd (cc is)
seats_more (Ok read) None steps one rest is = absurd (cc is)
seats_more (Ok read) (Some all) steps one rest is = let same : read.step ∷ all ≡ steps = cc in subst AreSeated same (one read refl, rest all refl)

-- the steps at fronts
steps_seats : (all : List (List ℕ)) (steps : List Step) → steps_of all ≡ Some steps → AreSeated steps
steps_seats [] steps is = let same : [] ≡ steps = cc in subst AreSeated same tt
steps_seats (front ∷ more) steps is = seats_more (step_at front) (steps_of more) steps (λ read here. front_seat (cut_at 10 front) read here) (λ all here. steps_seats more all here) is

-- the steps of a script, by its parts
parts_seats : (first_line : List ℕ) (geometry : Option Geometry) (steps : Option (List Step)) (script : Script) → ((all : List Step) → steps ≡ Some all → AreSeated all)
    → script_of_parts first_line geometry steps ≡ Some script → AreSeated script.steps
parts_seats first_line None steps script each is = absurd (cc is)
parts_seats first_line (Some g) None script each is = absurd (cc is)
parts_seats first_line (Some g) (Some all) script each is =
    let same : record { geometry = g; first_line = first_line ++ 10 ∷ []; steps = all } ≡ script = cc in
    subst (λ (s : Script). AreSeated s.steps) same (each all refl)

-- by its cut
cut_seats : (cut : Option (List ℕ × List ℕ)) (script : Script) → cut_script cut ≡ Some script → AreSeated script.steps
cut_seats None script is = absurd (cc is)
cut_seats (Some parts) script is =
    parts_seats parts.0 (result_ok (geometry_of parts.0)) (steps_of (fronts 0 parts.1)) script (λ all here. steps_seats (fronts 0 parts.1) all here) is

-- by its bytes
bytes_seats : (cut : Option (List ℕ × List ℕ)) (good : Bool) (script : Script) → (if good then cut_script cut else None) ≡ Some script → AreSeated script.steps
bytes_seats cut true script is = cut_seats cut script is
bytes_seats cut false script is = absurd (cc is)

-- the sessions of a script that was read are from 1 to 16
pub has_seats : (bytes : List ℕ) (script : Script) → script_of bytes ≡ Some script → AreSeated script.steps
has_seats bytes script is = bytes_seats (cut_at 10 bytes) (is_none (fault_of bytes)) script is
