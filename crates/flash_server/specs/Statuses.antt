-- How the program ends after a trace, a check or a server, and its exit status.
use Rattle.std.specs.Prelude.{ℕ}
use Rattle.flash_check.specs.declared.status.CheckStatus.{CheckStatus}
use Rattle.flash_check.specs.declared.status.CheckStatus.TheVariants as checks
use Rattle.flash_trace.specs.declared.fault.Status.{Status}
use Rattle.flash_trace.specs.declared.fault.Status.TheVariants as traces
use Rattle.flash_serve.specs.declared.serve.ServeStatus.{ServeStatus}
use Rattle.flash_serve.specs.declared.serve.ServeStatus.TheVariants as serves
use Rattle.flash_server.specs.declared.status.End.{End}
use Rattle.flash_server.specs.declared.status.End.TheVariants as ends

-- after a trace that ended so
abbrev pub trace_end : Status → End
trace_end traces.Done = ends.Done
trace_end traces.Usage = ends.Usage
trace_end (traces.Script fault) = ends.BadLine
trace_end traces.SourceFault = ends.SourceFault
trace_end traces.SinkFault = ends.SinkFault
trace_end traces.PrepareFault = ends.DeviceFault
trace_end traces.NoMemory = ends.NoMemory

-- after a check that ended so
abbrev pub check_end : CheckStatus → End
check_end (checks.Legal entries) = ends.Done
check_end (checks.Illegal line rule) = ends.Illegal
check_end (checks.BadLine line) = ends.BadLine
check_end checks.Usage = ends.Usage
check_end checks.SourceFault = ends.SourceFault
check_end checks.SinkFault = ends.SinkFault
check_end checks.NoMemory = ends.NoMemory

-- after a server that ended so
abbrev pub serve_end : ServeStatus → End
serve_end serves.Done = ends.Done
serve_end serves.Usage = ends.Refused
serve_end (serves.Geometry rule) = ends.Geometry rule
serve_end serves.SinkFault = ends.SinkFault
serve_end serves.NoMemory = ends.NoMemory
serve_end serves.MakeFault = ends.MakeFault

-- its exit status
abbrev pub exit_status : End → ℕ
exit_status ends.Done = 0
exit_status ends.Illegal = 1
exit_status ends.Usage = 2
exit_status ends.Refused = 2
exit_status (ends.Geometry rule) = 3
exit_status ends.BadLine = 3
exit_status ends.SourceFault = 4
exit_status ends.SinkFault = 5
exit_status ends.DeviceFault = 6
exit_status ends.NoMemory = 7
exit_status ends.MakeFault = 8
