use Rattle.std.proofs.Common.{◌≡◌, ◌+◌, length, true, false, nat_lt, Ok, ap, sym, ◌∙◌, arith}
use Rattle.std.proofs.lemmas.Bool.{lt-ltb, le-ltb}
use Rattle.flash_record.specs.Reading.{is_end, agrees_with_magic, checksum_offset, has_checksum}
use Rattle.flash_record.proofs.Order.{has_key, at_end, no_magic, no_head, no_key, no_room, no_checksum, all_pass, short_key, long_key, good_key}
use Rattle.flash_record.proofs.reading.first_of.Goals as goal
use Rattle.flash_record.proofs.reading.first_of.Goals.{then-key_length-lt1-via-then-key_length-lt1, then-key_length-lt1-via-else-key_length-lt1+then-key_length-gt-MAX_KEY_LEN}

pub returns-then-is_end-clause-exact : goal.returns-then-is_end-clause-exact
returns-then-is_end-clause-exact c =
    let bytes = c.args.bytes.now in
    let a : is_end bytes ≡ true = cc in
    at_end bytes a

pub returns-then-not-agrees_with_magic-clause-exact : goal.returns-then-not-agrees_with_magic-clause-exact
returns-then-not-agrees_with_magic-clause-exact c =
    let bytes = c.args.bytes.now in
    let a : is_end bytes ≡ false = cc in
    let b : agrees_with_magic bytes ≡ false = cc in
    no_magic bytes a b

pub returns-then-bytes-clause-exact : goal.returns-then-bytes-clause-exact
returns-then-bytes-clause-exact c =
    let bytes = c.args.bytes.now in
    let a : is_end bytes ≡ false = cc in
    let b : agrees_with_magic bytes ≡ true = cc in
    no_head bytes a b (lt-ltb _ _ c.if-bytes.true)

pub returns-then-key_length-lt1-clause-exact : goal.returns-then-key_length-lt1-clause-exact
returns-then-key_length-lt1-clause-exact c =
    let bytes = c.args.bytes.now in
    let a : is_end bytes ≡ false = cc in
    let b : agrees_with_magic bytes ≡ true = cc in
    let head : nat_lt (length bytes) 32 ≡ false = le-ltb _ _ c.if-bytes.false in
    elim c.then-key_length-lt1.branch [
      | then-key_length-lt1-via-then-key_length-lt1 w ↦ no_key bytes a b head (short_key bytes (omega arith))
      | then-key_length-lt1-via-else-key_length-lt1+then-key_length-gt-MAX_KEY_LEN w ↦ no_key bytes a b head (long_key bytes (omega arith))
    ]

pub returns-then-bytes-checksum_offset-clause-exact : goal.returns-then-bytes-checksum_offset-clause-exact
returns-then-bytes-checksum_offset-clause-exact c =
    let bytes = c.args.bytes.now in
    let a : is_end bytes ≡ false = cc in
    let b : agrees_with_magic bytes ≡ true = cc in
    let head : nat_lt (length bytes) 32 ≡ false = le-ltb _ _ c.if-bytes.false in
    let key : has_key bytes ≡ true = good_key bytes (omega arith) (omega arith) in
    no_room bytes a b head key (lt-ltb _ _ (omega arith))

pub returns-then-not-has_checksum-clause-exact : goal.returns-then-not-has_checksum-clause-exact
returns-then-not-has_checksum-clause-exact c =
    let bytes = c.args.bytes.now in
    let a : is_end bytes ≡ false = cc in
    let b : agrees_with_magic bytes ≡ true = cc in
    let head : nat_lt (length bytes) 32 ≡ false = le-ltb _ _ c.if-bytes.false in
    let key : has_key bytes ≡ true = good_key bytes (omega arith) (omega arith) in
    let room : nat_lt (length bytes) (checksum_offset bytes + 4) ≡ false = le-ltb _ _ (omega arith) in
    let sum : has_checksum bytes ≡ false = cc in
    no_checksum bytes a b head key room sum

pub returns-clause-exact : goal.returns-clause-exact
returns-clause-exact c =
    let bytes = c.args.bytes.now in
    let a : is_end bytes ≡ false = cc in
    let b : agrees_with_magic bytes ≡ true = cc in
    let head : nat_lt (length bytes) 32 ≡ false = le-ltb _ _ c.if-bytes.false in
    let key : has_key bytes ≡ true = good_key bytes (omega arith) (omega arith) in
    let room : nat_lt (length bytes) (checksum_offset bytes + 4) ≡ false = le-ltb _ _ (omega arith) in
    let sum : has_checksum bytes ≡ true = cc in
    all_pass bytes a b head key room sum ∙ ap Ok (sym c.record_at.ensures.parts)
