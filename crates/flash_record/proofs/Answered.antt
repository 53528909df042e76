-- What an answer says of the bytes.
use Rattle.std.proofs.Common.{◌≡◌, ℕ, ◌≤◌, List, ◌++◌, length, drop, Result, Ok, Err, IfOk, sym, ap, subst, ◌∙◌}
use Rattle.flash_record.specs.declared.not_record.NotRecord.{NotRecord}
use Rattle.flash_record.specs.declared.reading.Record.{Record}
use Rattle.flash_record.specs.Record.{Parts, Fits, record_bytes, record_length}
use Rattle.flash_record.specs.Reading.{record_at_front, parts_of, Gives}
use Rattle.flash_crc.specs.Bytes.{IsBytes}
use Rattle.flash_record.proofs.Found.{stands}
use Rattle.flash_record.proofs.Offsets.{read_again}
use Rattle.flash_record.proofs.Order.{only_passing}

abbrev Stands : List ℕ → Parts → Type 0
Stands bytes p = (Fits p) × (bytes ≡ record_bytes p ++ drop (record_length p) bytes)

pub found : (bytes : List ℕ) (result : Result Record NotRecord) → IsBytes bytes → Gives result (record_at_front bytes)
    → IfOk result (λ r. (r.length ≡ record_length (parts_of r)) × (r.length ≤ length bytes))
    → IfOk result (λ r. (Fits (parts_of r)) × (bytes ≡ record_bytes (parts_of r) ++ drop r.length bytes))
found bytes (Ok r) each gives size =
    let passing = only_passing bytes (parts_of r) gives in
    let there = subst (Stands bytes) passing.1 (stands bytes each passing.0) in
    (there.0, there.1 ∙ ap (λ (n : ℕ). record_bytes (parts_of r) ++ drop n bytes) (sym size.0))
found bytes (Err e) each gives size = tt

pub only : (bytes : List ℕ) (result : Result Record NotRecord) → IsBytes bytes → Gives result (record_at_front bytes)
    → (p : Parts) (rest : List ℕ) → Fits p → bytes ≡ record_bytes p ++ rest → Gives result (Ok p)
only bytes result each gives p rest fits is =
    subst (Gives result) (ap record_at_front is ∙ read_again p rest fits (subst IsBytes is each)) gives
