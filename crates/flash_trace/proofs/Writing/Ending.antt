-- What each end of a trace says.
use Rattle.std.proofs.Common.{◌≡◌, ℕ, ◌<◌, Bool, true, false, List, [], ◌++◌, length, Option, None, Some, refl, sym, ◌∙◌, ap, subst, inl, inr, arith, length-append, if◌then◌else◌, is_none}
use Rattle.std.proofs.lemmas.Bool.{lt-ltb}
use Rattle.std.proofs.lemmas.List.{append-nil}
use Rattle.flash_names.specs.Source.{IsAtEnd}
use Rattle.flash_names.specs.Faults.{Rose}
use Rattle.flash_script.specs.declared.fault.ScriptFault.{ScriptFault}
use Rattle.flash_trace.specs.declared.fault.Status.{Status}
use Rattle.flash_trace.specs.declared.fault.Status.TheVariants as statuses
use Rattle.flash_streams.specs.Reading.{HasRead}
use Rattle.flash_streams.proofs.Left.{leaves}
use Rattle.flash_trace.specs.Ends.{Ends, EndsOf, IsRead, HasReading, IsPrepared, IsAsked, IsComplete, IsTraced, EveryTraceIsRight}
use Rattle.flash_trace.specs.Outside.{SourceChange, SinkChange, DeviceChange}
use Rattle.flash_script.specs.declared.fault.Why.TheVariants.{TooLong}
use Rattle.flash_names.specs.Cut.{cut_at}
use Rattle.flash_script.specs.Scripts.{Script, fault_of, script_of, cut_script, too_long, cut_fault}

-- bytes that are lent were read as they are
pub read_bytes : (lent bytes : List ℕ) (left left_after : Option (List ℕ)) → lent ≡ bytes → HasRead 16777216 bytes left left_after → HasRead 16777216 lent left left_after
read_bytes lent bytes left left_after same read = subst (λ (l : List ℕ). HasRead 16777216 l left left_after) (sym same) read

-- a script that is longer than it may be is a fault
pub long_fault : (bytes : List ℕ) → 16777216 < length bytes → fault_of bytes ≡ Some (record { line = 0; why = TooLong })
long_fault bytes long = ap (λ b. if b then too_long else cut_fault (cut_at 10 bytes)) (lt-ltb 16777216 (length bytes) long)

long_is_bad : (bytes : List ℕ) → 16777216 < length bytes → fault_of bytes ≡ None → ⊥
long_is_bad bytes long good =
    let clash : Some (record { line = 0; why = TooLong }) ≡ None = sym (long_fault bytes long) ∙ good in absurd (cc clash)

-- a script that is read has no bad line
good_script : (found : Option ScriptFault) (read : Option Script) (script : Script) → (if is_none found then read else None) ≡ Some script → found ≡ None
good_script None read script reading = refl
good_script (Some fault) read script reading = absurd (cc reading)

module _ (wanted : Option Bool) (untouched : Type 0) (source : SourceChange) (sink : SinkChange) (device : DeviceChange) where
  -- the words ask for something else
  pub usage_traced : wanted ≡ None → untouched → IsTraced wanted untouched source sink device statuses.Usage
  usage_traced none same = record { ends = none; asked = same; complete = λ all tells good journal some. absurd (cc (none, some)) }

  -- the source failed
  pub source_traced : Rose source.faults source.faults_after → untouched → IsTraced wanted untouched source sink device statuses.SourceFault
  source_traced rose same = record { ends = rose; asked = same; complete = λ all tells good journal some source-same. absurd (source-same rose) }

  -- memory ran out before the device was asked
  pub memory_traced : untouched → IsTraced wanted untouched source sink device statuses.NoMemory
  memory_traced same = record { ends = tt; asked = inl same; complete = λ all tells good journal some a b c. inr refl }

  module _ (bytes : List ℕ) (journal : Bool) (read : HasRead 16777216 bytes source.left source.left_after) (words : wanted ≡ Some journal) where
    abbrev what : IsRead wanted source
    what = record { bytes = bytes; read = read; journal = journal; words = words }

    -- a script without a bad line isn't too long, so all of it was read
    at_end : (script : Script) → script_of bytes ≡ Some script → IsAtEnd source.left_after
    at_end script reading = elim read.whole [
      | inl end ↦ end
      | inr long ↦ absurd (long_is_bad bytes long (good_script (fault_of bytes) (cut_script (cut_at 10 bytes)) script reading))
    ]

    ends_so : EveryTraceIsRight → (status : Status) → EndsOf bytes journal sink device status → Ends wanted source sink device status
    ends_so right statuses.Done ends = record { is = what; at_end = at_end ends.script ends.reading; runs = ends; right = right bytes ends.script ends.reading }
    ends_so right statuses.Usage ends = absurd ends
    ends_so right (statuses.Script fault) ends = record { is = what; bad = ends.0; written = ends.1 }
    ends_so right statuses.SourceFault ends = absurd ends
    ends_so right statuses.SinkFault ends = (ends.0, record { is = what; begun = ends.1 })
    ends_so right statuses.PrepareFault ends = (ends.0, record { is = what; good = ends.1 })
    ends_so right statuses.NoMemory ends = tt

    prepared_so : (failed : Bool) → IsPrepared failed (fault_of bytes ≡ None) device → IsPrepared failed (HasReading wanted source) device
    prepared_so failed asked = (asked.0, record { is = what; good = asked.1 })

    asked_so : (status : Status) → IsAsked untouched (fault_of bytes ≡ None) device status → IsAsked untouched (HasReading wanted source) device status
    asked_so statuses.Done asked = prepared_so false asked
    asked_so statuses.Usage asked = asked
    asked_so (statuses.Script fault) asked = asked
    asked_so statuses.SourceFault asked = asked
    asked_so statuses.SinkFault asked = elim asked [ inl same ↦ inl same | inr once ↦ inr (prepared_so false once) ]
    asked_so statuses.PrepareFault asked = prepared_so true asked
    asked_so statuses.NoMemory asked = elim asked [ inl same ↦ inl same | inr once ↦ inr (prepared_so false once) ]

    -- of a source that told all its bytes, a bad script is none of which every line is good
    bad_script : (all : List ℕ) → source.left ≡ Some all → fault_of all ≡ None → (fault : ScriptFault) → fault_of bytes ≡ Some fault → ⊥
    bad_script all tells good fault bad =
        let left = leaves all bytes source.left_after (sym tells ∙ read.taken) in
        elim read.whole [
          | inl end ↦
              let none : left.rest ≡ [] = end left.rest left.tells in
              let same : all ≡ bytes = left.parts ∙ ap (λ (l : List ℕ). bytes ++ l) none ∙ append-nil bytes in
              let clash : None ≡ Some fault = sym good ∙ ap fault_of same ∙ bad in
              absurd (cc clash)
          | inr long ↦ long_is_bad all (omega (arith, long, ap length left.parts, length-append bytes left.rest)) good
        ]

    complete_so : (status : Status) → EndsOf bytes journal sink device status → IsComplete wanted source sink device status
    complete_so statuses.Done ends = λ all tells good j some a b c. inl refl
    complete_so statuses.Usage ends = absurd ends
    complete_so (statuses.Script fault) ends = λ all tells good j some a b c. absurd (bad_script all tells good fault ends.0)
    complete_so statuses.SourceFault ends = absurd ends
    complete_so statuses.SinkFault ends = λ all tells good j some a sink-same c. absurd (sink-same ends.0)
    complete_so statuses.PrepareFault ends = λ all tells good j some a b device-same. absurd (device-same ends.0)
    complete_so statuses.NoMemory ends = λ all tells good j some a b c. inr refl

    pub is_traced : EveryTraceIsRight → (status : Status) → EndsOf bytes journal sink device status → IsAsked untouched (fault_of bytes ≡ None) device status
        → IsTraced wanted untouched source sink device status
    is_traced right status ends asked = record { ends = ends_so right status ends; asked = asked_so status asked; complete = complete_so status ends }
