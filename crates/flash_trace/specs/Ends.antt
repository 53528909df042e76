-- How a trace ends, by what its source, its sink and its device tell before it and after it.
use Rattle.std.specs.Prelude.{◌≡◌, ◌⊎◌, Bool, true, false, List, ℕ, Option, None, Some}
use Rattle.flash_names.specs.declared.geometry.Geometry.{Geometry}
use Rattle.flash_names.specs.Source.{IsAtEnd}
use Rattle.flash_names.specs.Faults.{Rose}
use Rattle.flash_streams.specs.Reading.{HasRead}
use Rattle.flash_streams.specs.Writing.{IsWritten, IsBegun}
use Rattle.flash_device.specs.declared.shape.Shape.{Shape}
use Rattle.flash_device.specs.Calls.{Called}
use Rattle.flash_script.specs.declared.fault.ScriptFault.{ScriptFault}
use Rattle.flash_trace.specs.declared.fault.Status.{Status}
use Rattle.flash_trace.specs.declared.fault.Status.TheVariants as statuses
use Rattle.flash_play.specs.Answers.{IsRight}
use Rattle.flash_trace.specs.Outside.{SourceChange, SinkChange, DeviceChange}
use Rattle.flash_trace.specs.Output.{output, fault_text, text_of}
use Rattle.flash_script.specs.Scripts.{Script, fault_of, script_of}
use Rattle.flash_script.specs.declared.script.TheConstants.{MAX_BYTES}

-- what a script's device is prepared for
abbrev pub shape_of : Geometry → Shape
shape_of g = record { pages = g.pages; page_size = g.page_size }

-- these bytes are a script without a bad line, the device is prepared for it, and its whole output was written
pub record Runs (bytes : List ℕ) (journal : Bool) (sink : SinkChange) (device : DeviceChange) : Type 0 where
  pub script : Script
  pub reading : script_of bytes ≡ Some script
  pub shape : device.prepared_after ≡ Some (shape_of script.geometry)
  pub written : IsWritten (output script journal) sink.held sink.held_after

-- how the trace of these bytes ends
abbrev pub EndsOf : List ℕ → Bool → SinkChange → DeviceChange → Status → Type 0
EndsOf bytes journal sink device statuses.Done = Runs bytes journal sink device
EndsOf bytes journal sink device (statuses.Script fault) =
    (fault_of bytes ≡ Some fault) × IsWritten (fault_text fault) sink.held sink.held_after
EndsOf bytes journal sink device statuses.SinkFault =
    Rose sink.faults sink.faults_after × IsBegun (text_of bytes journal) sink.held sink.held_after
EndsOf bytes journal sink device statuses.PrepareFault =
    Rose device.faults device.faults_after × (fault_of bytes ≡ None)
EndsOf bytes journal sink device statuses.NoMemory = Unit {0}
EndsOf bytes journal sink device statuses.Usage = ⊥
EndsOf bytes journal sink device statuses.SourceFault = ⊥

-- what was read, and whether the journal is wanted
pub record IsRead (wanted : Option Bool) (source : SourceChange) : Type 0 where
  pub bytes : List ℕ
  pub read : HasRead MAX_BYTES bytes source.left source.left_after
  pub journal : Bool
  pub words : wanted ≡ Some journal

-- all that there is was read, it is a script without a bad line, which makes a run of the one-thread cache in which
-- each session is answered, the device is prepared for it, and its whole output was written
pub record HasRun (wanted : Option Bool) (source : SourceChange) (sink : SinkChange)
    (device : DeviceChange) : Type 0 where
  pub is : IsRead wanted source
  pub at_end : IsAtEnd source.left_after
  pub runs : Runs is.bytes is.journal sink device
  pub right : IsRight runs.script.geometry runs.script.steps

-- this is the first bad line of what was read, and its line was written
pub record HasRefused (fault : ScriptFault) (wanted : Option Bool) (source : SourceChange)
    (sink : SinkChange) : Type 0 where
  pub is : IsRead wanted source
  pub bad : fault_of is.bytes ≡ Some fault
  pub written : IsWritten (fault_text fault) sink.held sink.held_after

-- the script was read, and a front part of its output was written
pub record HasBegun (wanted : Option Bool) (source : SourceChange) (sink : SinkChange) : Type 0 where
  pub is : IsRead wanted source
  pub begun : IsBegun (text_of is.bytes is.journal) sink.held sink.held_after

-- the script was read, and it has no bad line
pub record HasReading (wanted : Option Bool) (source : SourceChange) : Type 0 where
  pub is : IsRead wanted source
  pub good : fault_of is.bytes ≡ None

-- How a trace ends. A fault comes only where the count of the object that is at fault rose
abbrev pub Ends : Option Bool → SourceChange → SinkChange → DeviceChange → Status → Type 0
Ends wanted source sink device statuses.Done = HasRun wanted source sink device
Ends wanted source sink device statuses.Usage = wanted ≡ None
Ends wanted source sink device (statuses.Script fault) = HasRefused fault wanted source sink
Ends wanted source sink device statuses.SourceFault = Rose source.faults source.faults_after
Ends wanted source sink device statuses.SinkFault =
    Rose sink.faults sink.faults_after × HasBegun wanted source sink
Ends wanted source sink device statuses.PrepareFault =
    Rose device.faults device.faults_after × HasReading wanted source
Ends wanted source sink device statuses.NoMemory = Unit {0}

-- the device was prepared, which was its one call, and where it tells its calls it tells whether that call failed
abbrev pub IsPrepared : Bool → Type 0 → DeviceChange → Type 0
IsPrepared failed good device = Called failed device.calls device.calls_after × good

-- What the device was asked: nothing before the script was read and found good, and then to be prepared, and nothing
-- else
abbrev pub IsAsked : Type 0 → Type 0 → DeviceChange → Status → Type 0
IsAsked untouched good device statuses.Done = IsPrepared false good device
IsAsked untouched good device statuses.Usage = untouched
IsAsked untouched good device (statuses.Script fault) = untouched
IsAsked untouched good device statuses.SourceFault = untouched
IsAsked untouched good device statuses.SinkFault = untouched ⊎ IsPrepared false good device
IsAsked untouched good device statuses.PrepareFault = IsPrepared true good device
IsAsked untouched good device statuses.NoMemory = untouched ⊎ IsPrepared false good device

-- whether a trace that ends so has written nothing
abbrev pub writes_nothing : Status → Bool
writes_nothing statuses.Done = false
writes_nothing (statuses.Script fault) = false
writes_nothing statuses.SinkFault = false
writes_nothing _ = true

-- a script without a bad line is done, or memory ran out, unless a count of faults rose
abbrev pub IsComplete : Option Bool → SourceChange → SinkChange → DeviceChange → Status → Type 0
IsComplete wanted source sink device status =
    (bytes : List ℕ) → source.left ≡ Some bytes → fault_of bytes ≡ None
    → (journal : Bool) → wanted ≡ Some journal
    → ¬ Rose source.faults source.faults_after → ¬ Rose sink.faults sink.faults_after
    → ¬ Rose device.faults device.faults_after
    → (status ≡ statuses.Done) ⊎ (status ≡ statuses.NoMemory)

-- How a trace whose words ask so ends, what its device was asked, which is left untouched or not, and that a good
-- script is done
pub record IsTraced (wanted : Option Bool) (untouched : Type 0) (source : SourceChange) (sink : SinkChange)
    (device : DeviceChange)
    (status : Status) : Type 0 where
  pub ends : Ends wanted source sink device status
  pub asked : IsAsked untouched (HasReading wanted source) device status
  pub complete : IsComplete wanted source sink device status

-- every script without a bad line makes a run of the one-thread cache, in which each session is answered
abbrev pub EveryTraceIsRight : Type 0
EveryTraceIsRight =
    (bytes : List ℕ) (script : Script) → script_of bytes ≡ Some script → IsRight script.geometry script.steps
