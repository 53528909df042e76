-- What a script without a bad line is read as.
use Rattle.std.proofs.Common.{◌≡◌, ℕ, zero, suc, ◌+◌, ◌-◌, ◌≤◌, Bool, true, false, nat_lt, List, [], ◌∷◌, ◌++◌, length, map, Option, None, Some, Result, Ok, Err, option_map, if◌then◌else◌, refl, sym, ◌∙◌, ap, subst, arith}
use Rattle.std.specs.Prelude.{is_some, is_none, is_ok, sum_by}
use Rattle.std.specs.Option.{option_and_then}
use Rattle.std.specs.Result.{result_ok}
use Rattle.std.proofs.lemmas.Bool.Decides.{nat_tests}
use Rattle.std.proofs.lemmas.List.{length-map}
use Rattle.std.proofs.lemmas.List.Sums.{sum_by-cons}
use Rattle.flash_names.specs.declared.geometry.Geometry.{Geometry}
use Rattle.flash_names.specs.Cut.{cut_at}
use Rattle.flash_script.specs.declared.fault.Why.{Why}
use Rattle.flash_script.specs.declared.fault.ScriptFault.{ScriptFault}
use Rattle.flash_script.specs.Steps.{Step}
use Rattle.flash_script.specs.Scripts.{Script, StepAt, step_at, size_or, size_at, fronts, geometry_of, fault_or, too_long, steps_fault, fault_from, cut_fault, fault_of, steps_of, script_of_parts, cut_script, script_of}
use Rattle.flash_script.specs.ScriptLaws.{IsOfFronts}
use Rattle.flash_script.proofs.Scripts.Cuts.{cut_joins}
use Rattle.flash_script.proofs.Scripts.Feeds.{sized}

-- what was read without a fault, and no fault after it
pub record IsGood {A : Type 0} (r : Result A Why) (later : Option ScriptFault) : Type 0 where
  pub one : is_ok r ≡ true
  pub more : later ≡ None

-- no fault on a line and after it
pub good_line : {A : Type 0} (line : ℕ) (r : Result A Why) (later : Option ScriptFault) → fault_or line r later ≡ None → IsGood r later
good_line line (Ok x) later none = record { one = refl; more = none }
good_line line (Err why) later none = absurd (cc none)

-- the same of a step, which isn't one too many
good_step : (line : ℕ) (many : Bool) (r : Result StepAt Why) (later : Option ScriptFault) → (if many then too_long else fault_or line r later) ≡ None → IsGood r later
good_step line true r later none = absurd (cc none)
good_step line false r later none = good_line line r later none

-- a step and the steps after it
some_step : (r : Result StepAt Why) (rest : Option (List Step)) → is_ok r ≡ true → is_some rest ≡ true → is_some (option_and_then (λ read. option_map (λ steps. read.step ∷ steps) rest) (result_ok r)) ≡ true
some_step (Err why) rest one more = absurd (cc one)
some_step (Ok read) None one more = absurd (cc more)
some_step (Ok read) (Some steps) one more = refl

-- steps without a fault are all read
steps_read : (line : ℕ) (all : List (List ℕ)) → steps_fault line all ≡ None → is_some (steps_of all) ≡ true
steps_read line [] none = refl
steps_read line (front ∷ more) none =
    let good = good_step line (nat_lt 1048577 line) (step_at front) (steps_fault (line + 1) more) none in
    some_step (step_at front) (steps_of more) good.one (steps_read (line + 1) more good.more)

-- a first line and the steps after it
some_script : (first_line : List ℕ) (r : Result Geometry Why) (steps : Option (List Step)) → is_ok r ≡ true → is_some steps ≡ true → is_some (script_of_parts first_line (result_ok r) steps) ≡ true
some_script first_line (Err why) steps one more = absurd (cc one)
some_script first_line (Ok g) None one more = absurd (cc more)
some_script first_line (Ok g) (Some steps) one more = refl

-- a script without a fault is read, by its cut
cut_read : (cut : Option (List ℕ × List ℕ)) → cut_fault cut ≡ None → is_some (cut_script cut) ≡ true
cut_read None none = absurd (cc none)
cut_read (Some parts) none =
    let good = good_line 1 (geometry_of parts.0) (fault_from 2 parts.1) none in
    some_script parts.0 (geometry_of parts.0) (steps_of (fronts 0 parts.1)) good.one (steps_read 2 (fronts 0 parts.1) good.more)

-- and bytes that aren't too many
bytes_read : (cut : Option (List ℕ × List ℕ)) (large : Bool) → (if large then too_long else cut_fault cut) ≡ None → is_some (cut_script cut) ≡ true
bytes_read cut true none = absurd (cc none)
bytes_read cut false none = cut_read cut none

-- a script is read where there is no fault
read_or_bad_by : (cut : Option (List ℕ × List ℕ)) (found : Option ScriptFault) → (found ≡ None → is_some (cut_script cut) ≡ true) → is_some (if is_none found then cut_script cut else None) ≡ is_none found
read_or_bad_by cut None read = read refl
read_or_bad_by cut (Some fault) read = refl

-- bytes are read exactly where they have no fault
pub read_or_bad : (bytes : List ℕ) → is_some (script_of bytes) ≡ is_none (fault_of bytes)
read_or_bad bytes = read_or_bad_by (cut_at 10 bytes) (fault_of bytes) (bytes_read (cut_at 10 bytes) (nat_lt 16777216 (length bytes)))

-- a step without a fault isn't one too many
not_many : (line : ℕ) (many : Bool) (found : Option ScriptFault) → nat_lt 1048577 line ≡ many → (if many then too_long else found) ≡ None → line ≤ 1048577
not_many line true found test none = absurd (cc none)
not_many line false found test none = grind (arith, nat_tests)

-- fronts without a fault aren't too many
few_fronts : (line : ℕ) (all : List (List ℕ)) → line ≤ 1048578 → steps_fault line all ≡ None → line + length all ≤ 1048578
few_fronts line [] few none = omega arith
few_fronts line (front ∷ more) few none =
    let good = good_step line (nat_lt 1048577 line) (step_at front) (steps_fault (line + 1) more) none in
    let here = not_many line (nat_lt 1048577 line) (fault_or line (step_at front) (steps_fault (line + 1) more)) refl none in
    omega (arith, few_fronts (line + 1) more (omega arith) good.more)

-- the steps of fronts, with the numbers of their bytes
pub record AreRead (all : List (List ℕ)) (steps : List Step) (size : ℕ) : Type 0 where
  pub read : List StepAt
  pub each : map step_at all ≡ map Ok read
  pub steps_are : steps ≡ map (λ one. one.step) read
  pub sizes : sum_by (λ one. one.size) read ≡ size

-- steps and one step before them
pub record HasMore (one : StepAt) (more : Option (List Step)) (steps : List Step) : Type 0 where
  pub rest : List Step
  pub rest_is : more ≡ Some rest
  pub whole : one.step ∷ rest ≡ steps

has_more : (one : StepAt) (more : Option (List Step)) (steps : List Step) → option_map (λ rest. one.step ∷ rest) more ≡ Some steps → HasMore one more steps
has_more one None steps is = absurd (cc is)
has_more one (Some rest) steps is = record { rest = rest; rest_is = refl; whole = cc }

-- the steps of a front that was read and of those behind it
read_behind : (b size : ℕ) (bytes : List ℕ) (one : StepAt) (steps : List Step) → step_at (b ∷ bytes) ≡ Ok one
    → ((k : ℕ) (rest : List Step) → k ≤ length bytes → steps_of (fronts k bytes) ≡ Some rest → AreRead (fronts k bytes) rest (length bytes - k))
    → size_at (b ∷ bytes) ≡ size → option_map (λ rest. one.step ∷ rest) (steps_of (fronts (size - 1) bytes)) ≡ Some steps
    → AreRead ((b ∷ bytes) ∷ fronts (size - 1) bytes) steps (length (b ∷ bytes))
read_behind b size bytes one steps here more size_is is =
    let within = sized (b ∷ bytes) one here in
    let same : size ≡ one.size = sym size_is ∙ ap (size_or (length (b ∷ bytes))) here in
    let behind = has_more one (steps_of (fronts (size - 1) bytes)) steps is in
    let rest = more (size - 1) behind.rest (omega (arith, same, within.within)) behind.rest_is in
    record {
      read = one ∷ rest.read;
      each = ap (λ (r : Result StepAt Why). r ∷ map step_at (fronts (size - 1) bytes)) here ∙ ap (λ (l : List (Result StepAt Why)). Ok one ∷ l) rest.each;
      steps_are = sym behind.whole ∙ ap (λ (l : List Step). one.step ∷ l) rest.steps_are;
      sizes = omega (arith, sum_by-cons (λ (x : StepAt). x.size) one rest.read, rest.sizes, same, within.some, within.within);
    }

-- by how the first front was read
front_read : (b : ℕ) (bytes : List ℕ) (r : Result StepAt Why) (steps : List Step) → step_at (b ∷ bytes) ≡ r
    → ((k : ℕ) (rest : List Step) → k ≤ length bytes → steps_of (fronts k bytes) ≡ Some rest → AreRead (fronts k bytes) rest (length bytes - k))
    → option_and_then (λ one. option_map (λ rest. one.step ∷ rest) (steps_of (fronts (size_at (b ∷ bytes) - 1) bytes))) (result_ok r) ≡ Some steps
    → AreRead ((b ∷ bytes) ∷ fronts (size_at (b ∷ bytes) - 1) bytes) steps (length (b ∷ bytes))
front_read b bytes (Err why) steps here more is = absurd (cc is)
front_read b bytes (Ok one) steps here more is = read_behind b (size_at (b ∷ bytes)) bytes one steps here more refl is

-- the steps of bytes, after some that are passed over
are_read : (k : ℕ) (bytes : List ℕ) (steps : List Step) → k ≤ length bytes → steps_of (fronts k bytes) ≡ Some steps → AreRead (fronts k bytes) steps (length bytes - k)
are_read k [] steps within is = record { read = []; each = refl; steps_are = cc; sizes = omega arith }
are_read (suc k) (b ∷ bytes) steps within is =
    let same : length bytes - k ≡ length (b ∷ bytes) - suc k = omega arith in
    subst (λ (n : ℕ). AreRead (fronts k bytes) steps n) same (are_read k bytes steps (omega arith) is)
are_read zero (b ∷ bytes) steps within is =
    let same : length (b ∷ bytes) ≡ length (b ∷ bytes) - 0 = omega arith in
    subst (λ (n : ℕ). AreRead (fronts 0 (b ∷ bytes)) steps n) same
    (front_read b bytes (step_at (b ∷ bytes)) steps refl (λ n rest. are_read n bytes rest) is)

-- a script, by its first line and its steps
parts_of : (bytes first_line behind : List ℕ) (r : Result Geometry Why) (steps : Option (List Step)) (script : Script) → cut_at 10 bytes ≡ Some (first_line, behind) → geometry_of first_line ≡ r
    → steps_of (fronts 0 behind) ≡ steps → fault_from 2 behind ≡ None → script_of_parts first_line (result_ok r) steps ≡ Some script → IsOfFronts bytes script
parts_of bytes first_line behind (Err why) steps script cut geometry read none is = absurd (cc is)
parts_of bytes first_line behind (Ok g) None script cut geometry read none is = absurd (cc is)
parts_of bytes first_line behind (Ok g) (Some all) script cut geometry read none is =
    let few = few_fronts 2 (fronts 0 behind) (omega arith) none in
    let are = are_read 0 behind all (omega arith) read in
    let count : length all ≡ length (fronts 0 behind) =
    ap length are.steps_are ∙ length-map are.read (λ (one : StepAt). one.step) ∙ sym (length-map are.read (λ (one : StepAt). let r : Result StepAt Why = Ok one in r))
    ∙ sym (ap length are.each) ∙ length-map (fronts 0 behind) step_at in
    let same : record { geometry = g; first_line = first_line ++ 10 ∷ []; steps = all } ≡ script = cc in
    subst (λ (s : Script). IsOfFronts bytes s) same (record {
      first_line = first_line;
      behind = behind;
      parts = record { parts = cut_joins 10 bytes first_line behind cut; first = cut };
      line_is = refl;
      geometry = geometry;
      read = are.read;
      each = are.each;
      steps = are.steps_are;
      sizes = omega (arith, are.sizes);
      few = omega (arith, few, count);
    })

-- by its cut
cut_of_script : (bytes : List ℕ) (cut : Option (List ℕ × List ℕ)) (script : Script) → cut_at 10 bytes ≡ cut → cut_fault cut ≡ None → cut_script cut ≡ Some script → IsOfFronts bytes script
cut_of_script bytes None script here none is = absurd (cc is)
cut_of_script bytes (Some parts) script here none is =
    let good = good_line 1 (geometry_of parts.0) (fault_from 2 parts.1) none in
    parts_of bytes parts.0 parts.1 (geometry_of parts.0) (steps_of (fronts 0 parts.1)) script here refl refl good.more is

-- by its bytes, which have no fault
bytes_of_script : (bytes : List ℕ) (large : Bool) (found : Option ScriptFault) (script : Script) → (if large then too_long else cut_fault (cut_at 10 bytes)) ≡ found
    → (if is_none found then cut_script (cut_at 10 bytes) else None) ≡ Some script → IsOfFronts bytes script
bytes_of_script bytes large (Some fault) script here is = absurd (cc is)
bytes_of_script bytes true None script here is = absurd (cc here)
bytes_of_script bytes false None script here is = cut_of_script bytes (cut_at 10 bytes) script refl here is

-- a script that was read is its parts
pub read_by_fronts : (bytes : List ℕ) (script : Script) → script_of bytes ≡ Some script → IsOfFronts bytes script
read_by_fronts bytes script is = bytes_of_script bytes (nat_lt 16777216 (length bytes)) (fault_of bytes) script refl is
