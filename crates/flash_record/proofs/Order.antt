-- What is read, by the tests in their order.
use Rattle.std.proofs.Common.{◌≡◌, ℕ, ◌+◌, ◌<◌, ◌≤◌, List, length, Bool, true, false, ◌&&◌, nat_lt, nat_le, Result, Ok, Err, if◌then◌else◌, refl, arith}
use Rattle.std.proofs.lemmas.Bool.{not-false}
use Rattle.std.proofs.lemmas.Bool.Decides.{nat_tests}
use Rattle.flash_record.specs.declared.not_record.NotRecord.{NotRecord}
use Rattle.flash_record.specs.declared.not_record.NotRecord.TheVariants.{End, Magic, Short, Lengths, Sum}
use Rattle.flash_record.specs.Record.{Parts}
use Rattle.flash_record.specs.Reading.{record_at_front, is_end, agrees_with_magic, key_length, checksum_offset, has_checksum, parts_at}

-- the length of the key is one
abbrev pub has_key : List ℕ → Bool
has_key bytes = nat_le 1 (key_length bytes) && nat_le (key_length bytes) 250

pub at_end : (bytes : List ℕ) → is_end bytes ≡ true → record_at_front bytes ≡ Err End
unfolding record_at_front
at_end bytes a = rw a refl

pub no_magic : (bytes : List ℕ) → is_end bytes ≡ false → agrees_with_magic bytes ≡ false → record_at_front bytes ≡ Err Magic
unfolding record_at_front
no_magic bytes a b = rw (a, b) refl

pub no_head : (bytes : List ℕ) → is_end bytes ≡ false → agrees_with_magic bytes ≡ true → nat_lt (length bytes) 32 ≡ true → record_at_front bytes ≡ Err Short
unfolding record_at_front
no_head bytes a b c = rw (a, b, c) refl

pub no_key : (bytes : List ℕ) → is_end bytes ≡ false → agrees_with_magic bytes ≡ true → nat_lt (length bytes) 32 ≡ false → has_key bytes ≡ false → record_at_front bytes ≡ Err Lengths
unfolding record_at_front
no_key bytes a b c d = rw (a, b, c, d) refl

pub no_room : (bytes : List ℕ) → is_end bytes ≡ false → agrees_with_magic bytes ≡ true → nat_lt (length bytes) 32 ≡ false → has_key bytes ≡ true → nat_lt (length bytes) (checksum_offset bytes + 4) ≡ true → record_at_front bytes ≡ Err Short
unfolding record_at_front
no_room bytes a b c d e = rw (a, b, c, d, e) refl

pub no_checksum : (bytes : List ℕ) → is_end bytes ≡ false → agrees_with_magic bytes ≡ true → nat_lt (length bytes) 32 ≡ false → has_key bytes ≡ true → nat_lt (length bytes) (checksum_offset bytes + 4) ≡ false → has_checksum bytes ≡ false → record_at_front bytes ≡ Err Sum
unfolding record_at_front
no_checksum bytes a b c d e f = rw (a, b, c, d, e, f) refl

pub short_key : (bytes : List ℕ) → key_length bytes < 1 → has_key bytes ≡ false
short_key bytes low = grind (arith, nat_tests)

pub long_key : (bytes : List ℕ) → 250 < key_length bytes → has_key bytes ≡ false
long_key bytes high = grind (arith, nat_tests)

pub good_key : (bytes : List ℕ) → 1 ≤ key_length bytes → key_length bytes ≤ 250 → has_key bytes ≡ true
good_key bytes low high = grind (arith, nat_tests)

pub all_pass : (bytes : List ℕ) → is_end bytes ≡ false → agrees_with_magic bytes ≡ true → nat_lt (length bytes) 32 ≡ false → has_key bytes ≡ true → nat_lt (length bytes) (checksum_offset bytes + 4) ≡ false → has_checksum bytes ≡ true → record_at_front bytes ≡ Ok (parts_at bytes)
unfolding record_at_front
all_pass bytes a b c d e f = rw (a, b, c, d, e, f) refl

-- the tests that a record passes
pub record Passes (bytes : List ℕ) : Type 0 where
  pub begun : is_end bytes ≡ false
  pub magic : agrees_with_magic bytes ≡ true
  pub head : nat_lt (length bytes) 32 ≡ false
  pub key : has_key bytes ≡ true
  pub room : nat_lt (length bytes) (checksum_offset bytes + 4) ≡ false
  pub checksum : has_checksum bytes ≡ true

same_parts : (x y : Parts) → ◌≡◌ {A = Result Parts NotRecord} (Ok x) (Ok y) → x ≡ y
same_parts x y is = cc

-- past a test whose yes is a refusal
past : (b : Bool) (e : NotRecord) (y : Result Parts NotRecord) (p : Parts) → (if b then Err e else y) ≡ Ok p → (b ≡ false) × (y ≡ Ok p)
past true e y p is = absurd (cc is)
past false e y p is = (refl, is)

pub only_passing : (bytes : List ℕ) (p : Parts) → record_at_front bytes ≡ Ok p → (Passes bytes) × (parts_at bytes ≡ p)
unfolding record_at_front
only_passing bytes p is =
    let a = past _ _ _ p is in
    let b = past _ _ _ p a.1 in
    let c = past _ _ _ p b.1 in
    let d = past _ _ _ p c.1 in
    let e = past _ _ _ p d.1 in
    let f = past _ _ _ p e.1 in (
      record {
        begun = a.0;
        magic = not-false _ b.0;
        head = c.0;
        key = not-false _ d.0;
        room = e.0;
        checksum = not-false _ f.0;
      },
      same_parts _ _ f.1,
    )
