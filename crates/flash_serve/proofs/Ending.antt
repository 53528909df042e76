-- How a server ends, by some options.
use Rattle.std.proofs.Common.{ℕ, List}
use Rattle.flash_serve.specs.declared.options.Options.{Options}
use Rattle.flash_serve.specs.declared.serve.ServeStatus.{ServeStatus}
use Rattle.flash_serve.specs.declared.serve.ServeStatus.TheVariants as statuses
use Rattle.flash_serve.specs.Words.{AreGiven}
use Rattle.flash_serve.specs.Serving.{Change, Ends, EndsOver, first_told}

pub ends_by : (words : List (List ℕ)) (options : Options) (change : Change) (status : ServeStatus) → AreGiven words options → EndsOver options (first_told options.journal) change status → Ends words change status
ends_by words options change statuses.Done given is = (options, given, is)
ends_by words options change statuses.Usage given is = tt
ends_by words options change (statuses.Geometry rule) given is = (options, given, is)
ends_by words options change statuses.SinkFault given is = (options, given, is)
ends_by words options change statuses.NoMemory given is = tt
ends_by words options change statuses.MakeFault given is = (options, given, is)
