-- How a server ends, by what its maker and its sink count and hold before and after.
use Rattle.std.specs.Prelude.{◌≡◌, ◌≤◌, ℕ, zero, suc, Bool, true, false, List, [], Option, None, Some, Err}
use Rattle.flash_names.specs.declared.geometry.Geometry.{Geometry}
use Rattle.flash_names.specs.Geometry.{check_result}
use Rattle.flash_names.specs.Faults.{Rose, next_count}
use Rattle.flash_names.specs.Shared.{Begins}
use Rattle.flash_entry.specs.declared.entry.Entry.{Entry}
use Rattle.flash_streams.specs.Writing.{IsWritten}
use Rattle.flash_serve.specs.Output.{listening_text, IsClosing}
use Rattle.flash_serve.specs.Words.{AreGiven}
use Rattle.flash_serve.specs.declared.options.Options.{Options}
use Rattle.flash_serve.specs.declared.maker.MakeError.{MakeError}
use Rattle.flash_serve.specs.declared.maker.MakeError.TheVariants as errors
use Rattle.flash_serve.specs.declared.serve.ServeStatus.{ServeStatus}
use Rattle.flash_serve.specs.declared.serve.ServeStatus.TheVariants as statuses

-- a count after so many more
abbrev pub count_after : ℕ → ℕ → ℕ
count_after zero count = count
count_after (suc n) count = count_after n (next_count count)

-- the counts of a maker and of a sink, and what the sink holds
pub record Change : Type 0 where
  pub maker_faults : ℕ
  pub maker_faults_after : ℕ
  pub connections : ℕ
  pub connections_after : ℕ
  pub sink_faults : ℕ
  pub sink_faults_after : ℕ
  pub held : Option (List ℕ)
  pub held_after : Option (List ℕ)

-- the change of this maker and this sink
abbrev pub change_of : {M K : Type 0} → (M → ℕ) → (M → ℕ) → (K → ℕ) → (K → Option (List ℕ)) → M → M → K → K → Change
change_of maker_faults connections sink_faults held maker maker_after sink sink_after = record {
  maker_faults = maker_faults maker;
  maker_faults_after = maker_faults maker_after;
  connections = connections maker;
  connections_after = connections maker_after;
  sink_faults = sink_faults sink;
  sink_faults_after = sink_faults sink_after;
  held = held sink;
  held_after = held sink_after;
}

-- the first journal: it tells that it has no entry where it is kept, and else nothing
abbrev pub first_told : Bool → Option (List Entry)
first_told true = Some []
first_told false = None

-- the count after as many connections as the limit says; without one there is no end
abbrev pub IsAccepted : Option ℕ → ℕ → ℕ → Type 0
IsAccepted None before after = ⊥
IsAccepted (Some limit) before after = after ≡ count_after limit before

-- what is to be written at the end, where this was the first journal
abbrev pub IsLastText : Geometry → Option (List Entry) → List ℕ → Type 0
IsLastText g first text = (told : Option (List Entry)) × Begins first told × IsClosing g told text

-- what was written at the end, where this was the first journal
pub record HasClosed (g : Geometry) (first : Option (List Entry)) (held held_after : Option (List ℕ)) : Type 0 where
  pub told : Option (List Entry)
  pub begins : Begins first told
  pub closing : List ℕ
  pub is_closing : IsClosing g told closing
  pub written : IsWritten closing held held_after

-- how a server ends that has served, by the sink's faults and what it holds
abbrev pub EndsLast : Geometry → Option (List Entry) → ℕ → ℕ → Option (List ℕ) → Option (List ℕ) → ServeStatus → Type 0
EndsLast g first faults faults_after held held_after statuses.Done = HasClosed g first held held_after
EndsLast g first faults faults_after held held_after statuses.SinkFault = Rose faults faults_after
EndsLast g first faults faults_after held held_after statuses.NoMemory = Unit {0}
EndsLast g first faults faults_after held held_after status = ⊥

-- the server began: it listens, the line of the port was written, and no connection was accepted
pub record HasBegun (change : Change) : Type 0 where
  pub port : ℕ
  pub written : IsWritten (listening_text port) change.held change.held_after
  pub connections : change.connections_after ≡ change.connections
  pub maker : change.maker_faults ≤ change.maker_faults_after
  pub sink : change.sink_faults ≤ change.sink_faults_after

-- why a server ends that can't go on: memory ran out, or the sink or the maker failed
abbrev pub Stops : Change → ServeStatus → Type 0
Stops change statuses.SinkFault = Rose change.sink_faults change.sink_faults_after
Stops change statuses.MakeFault = Rose change.maker_faults change.maker_faults_after
Stops change statuses.NoMemory = Unit {0}
Stops change status = ⊥

-- why the store of this geometry wasn't opened
abbrev pub IsUnopened : Geometry → ServeStatus → Type 0
IsUnopened g (statuses.Geometry rule) = check_result g ≡ Err (record { rule = rule })
IsUnopened g statuses.NoMemory = Unit {0}
IsUnopened g status = ⊥

-- why something wasn't written
abbrev pub IsUnwritten : ℕ → ℕ → ServeStatus → Type 0
IsUnwritten faults faults_after statuses.SinkFault = Rose faults faults_after
IsUnwritten faults faults_after statuses.NoMemory = Unit {0}
IsUnwritten faults faults_after status = ⊥

-- how a server ends whose maker gave this error
abbrev pub status_of : MakeError → ServeStatus
status_of errors.Fault = statuses.MakeFault
status_of errors.NoMemory = statuses.NoMemory

-- so many connections were accepted, and the line of the port and what is written at the end were written, where this
-- is the first journal
pub record HasServed (options : Options) (first : Option (List Entry)) (change : Change) : Type 0 where
  pub accepted : IsAccepted options.connections change.connections change.connections_after
  pub port : ℕ
  pub between : Option (List ℕ)
  pub begun : IsWritten (listening_text port) change.held between
  pub closed : HasClosed options.geometry first between change.held_after

-- how a server with these options ends, where this is the first journal
abbrev pub EndsOver : Options → Option (List Entry) → Change → ServeStatus → Type 0
EndsOver options first change statuses.Done = HasServed options first change
EndsOver options first change (statuses.Geometry rule) =
    check_result options.geometry ≡ Err (record { rule = rule })
EndsOver options first change status = Stops change status

-- how a server ends: its words are refused, memory ran out, or it ends as it has to by the options that the words give
abbrev pub Ends : List (List ℕ) → Change → ServeStatus → Type 0
Ends words change statuses.Usage = Unit {0}
Ends words change statuses.NoMemory = Unit {0}
Ends words change status =
    (options : Options) × AreGiven words options × EndsOver options (first_told options.journal) change status
