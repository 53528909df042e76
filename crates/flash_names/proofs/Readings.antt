-- A clock over a list goes on by one reading.
use Rattle.std.proofs.Common.{◌≡◌, ℕ, suc, ◌+◌, ◌-◌, ◌^◌, ◌<◌, min, inl, inr, Bool, true, false, List, Some, None, nat_lt, if◌then◌else◌, refl, arith}
use Rattle.std.proofs.lemmas.Bool.{ltb-true, lt-ltb}
use Rattle.flash_names.specs.Clock.{Reads, readings, reading_at}
use Rattle.flash_names.specs.ListClock.{readings_told}
use Rattle.flash_names.specs.Faults.{next_count}

abbrev next_of : ℕ → List ℕ → ℕ → Bool → Type 0
next_of limit numbers calls still = Reads (if nat_lt calls limit then Some (readings numbers calls) else None) (reading_at numbers calls) (if still then Some (readings numbers (min (calls + 1) limit)) else None)

go_on : (limit : ℕ) (numbers : List ℕ) (calls : ℕ) (still : Bool) → nat_lt (min (calls + 1) limit) limit ≡ still → next_of limit numbers calls still
go_on limit numbers calls false is = inl refl
go_on limit numbers calls true is =
    let below : min (calls + 1) limit < limit = ltb-true _ _ is in
    let next : min (calls + 1) limit ≡ suc calls = omega (arith, below) in
    let was : nat_lt calls limit ≡ true = lt-ltb _ _ (omega (arith, below)) in
    rw (next, was) (inr refl)

pub reads_next : (numbers : List ℕ) (calls : ℕ) → Reads (readings_told numbers calls) (reading_at numbers calls) (readings_told numbers (next_count calls))
reads_next numbers calls = go_on (2 ^ 64 - 1) numbers calls _ refl
