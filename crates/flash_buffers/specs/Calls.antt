-- When each call may be made, what it answers, and what is after it.
use Rattle.std.specs.Prelude.{◌≡◌, ℕ, ◌+◌, ◌^◌, ◌<◌, Bool, true, false, not, ◌||◌, is_some, nat_eq, List, [], ◌∷◌, ◌++◌, length, map, filter, slice_set, Option, None, Some, option_map, if◌then◌else◌}
use Rattle.flash_names.specs.declared.place.Label.{Label}
use Rattle.flash_buffers.specs.declared.buffers.WriteJob.{WriteJob}
use Rattle.flash_buffers.specs.Block.{Block, block_bytes, block_place, block_with_record}
use Rattle.flash_buffers.specs.Covering.{has_label}
use Rattle.flash_buffers.specs.BufferTable.{BufferTable, block_of, first_free, block_without, IsOpen, IsClear, oldest_block}

-- the calls that change the buffers, with what they are given
pub data Call : Type 0 where
  takes : Label → ℕ → Call
  appends : ℕ → List ℕ → ℕ → ℕ → List ℕ → Call
  seals : ℕ → Call
  begins : Call
  writes : WriteJob → Call
  unwrites : WriteJob → Call
  drops : Label → Call

-- the job that writes this block
abbrev pub job_of : ℕ → Block → WriteJob
job_of size block = record { place = block_place size block; bytes = block_bytes size block }

-- the job of the oldest sealed buffer, unless a job is in flight
abbrev pub next_job : BufferTable → Option WriteJob
next_job t = if t.in_flight then None else option_map (λ b. job_of t.size b) (oldest_block t)

-- there is none: none is sealed, or a job is in flight
abbrev pub is_idle : BufferTable → Bool
is_idle t = t.in_flight || nat_eq (length t.queue) 0

-- the job is that of the buffer that is out
pub record IsInFlight (t : BufferTable) (job : WriteJob) : Type 0 where
  pub in_flight : t.in_flight ≡ true
  pub job_is : option_map (λ b. job_of t.size b) (oldest_block t) ≡ Some job

-- no buffer of the label is out
abbrev pub IsNotInFlight : BufferTable → Label → Type 0
IsNotInFlight t label = t.in_flight ≡ true → has_label label (oldest_block t) ≡ false

-- a buffer may be taken for this range of a page
pub record CanTake (t : BufferTable) (label : Label) (offset : ℕ) : Type 0 where
  pub within : offset + t.size < 2 ^ 32
  pub clear : IsClear t label offset

-- the call may be made
abbrev pub Allowed : BufferTable → Call → Type 0
Allowed t (takes label offset) = CanTake t label offset
Allowed t (appends number key flags cas value) = IsOpen t number
Allowed t (seals number) = IsOpen t number
Allowed t begins = Unit {0}
Allowed t (writes job) = IsInFlight t job
Allowed t (unwrites job) = IsInFlight t job
Allowed t (drops label) = IsNotInFlight t label

-- with a block that has no record yet in this buffer, if there is one
abbrev pub with_block : BufferTable → Label → ℕ → Option ℕ → BufferTable
with_block t label offset None = t
with_block t label offset (Some number) =
    record t { blocks = slice_set t.blocks number (Some (record { label = label; offset = offset; records = [] })) }

-- the first of the queue is free
abbrev pub with_first_free : BufferTable → List ℕ → BufferTable
with_first_free t [] = record t { in_flight = false }
with_first_free t (number ∷ rest) =
    record t { blocks = slice_set t.blocks number None; queue = rest; in_flight = false }

-- the buffers after the call
abbrev pub table_after : Call → BufferTable → BufferTable
table_after (takes label offset) t = with_block t label offset (first_free t)
table_after (appends number key flags cas value) t =
    record t { blocks = slice_set t.blocks number (block_with_record t.size key flags cas value (block_of t number)) }
table_after (seals number) t = record t { queue = t.queue ++ number ∷ [] }
table_after begins t = record t { in_flight = t.in_flight || is_some (oldest_block t) }
table_after (writes job) t = with_first_free t t.queue
table_after (unwrites job) t = record t { in_flight = false }
table_after (drops label) t =
    record t {
      blocks = map (block_without label) t.blocks;
      queue = filter (λ n. not (has_label label (block_of t n))) t.queue;
    }
