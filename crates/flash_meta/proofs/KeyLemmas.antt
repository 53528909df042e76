-- The key of a line that is read is that of its word.
use Rattle.std.proofs.Common.{◌≡◌, ℕ, ◌≤◌, Bool, true, false, nat_le, List, length, None, Some, Result, Ok, Err, if◌then◌else◌, refl, sym, subst, arith}
use Rattle.std.specs.Option.{option_and_then}
use Rattle.std.specs.Result.{result_ok}
use Rattle.std.specs.List.{list_all}
use Rattle.std.proofs.lemmas.Bool.Decides.{nat_tests}
use Rattle.base64.specs.GeneralPurpose.{IsBytes, IsStrict, decode_of, encode_of}
use Rattle.base64.specs.Engines.{standard}
use Rattle.base64.specs.declared.decode.DecodeError.{DecodeError}
use Rattle.base64.proofs.EngineFacts.{decode_of_strict}
use Rattle.flash_lanes.specs.KeyBytes.{is_key_byte}
use Rattle.flash_text.specs.Keys.{is_key}
use Rattle.flash_text.proofs.KeySpans.{both_hold}
use Rattle.flash_meta.specs.Keys.{if_some_bytes, base64_key, key_of}

text_by : (word key : List ℕ) (test : Bool) → is_key word ≡ test → (if test then Some word else None) ≡ Some key → (key ≡ word) × (is_key word ≡ true)
text_by word key true is found = (cc found, is)
text_by word key false is found = absurd (cc found)

some_by : (bytes key : List ℕ) (test : Bool) → nat_le 1 (length bytes) ≡ test → (if test then Some bytes else None) ≡ Some key → (key ≡ bytes) × (1 ≤ length bytes)
some_by bytes key true is found = (cc found, grind (arith, nat_tests))
some_by bytes key false is found = absurd (cc found)

-- what is decoded, and that it has bytes
abbrev Decodes : List ℕ → List ℕ → Type 0
Decodes word key = (decode_of standard word ≡ Ok key) × (1 ≤ length key)

decoded_by : (word key : List ℕ) (found : Result (List ℕ) DecodeError) → decode_of standard word ≡ found → option_and_then if_some_bytes (result_ok found) ≡ Some key → Decodes word key
decoded_by word key (Err e) is read = absurd (cc read)
decoded_by word key (Ok bytes) is read =
    let some = some_by bytes key (nat_le 1 (length bytes)) refl read in
    subst (Decodes word) (sym some.0) (is, some.1)

word_by : (word key : List ℕ) (test : Bool) → (if test then option_and_then if_some_bytes (result_ok (decode_of standard word)) else None) ≡ Some key → Decodes word key
word_by word key true read = decoded_by word key (decode_of standard word) refl read
word_by word key false read = absurd (cc read)

decodes : (word key : List ℕ) → base64_key word ≡ Some key → Decodes word key
unfolding base64_key
decodes word key read = word_by word key _ read

strict : IsStrict standard
strict = (refl, refl)

has_some : (word : List ℕ) → is_key word ≡ true → 1 ≤ length word
has_some word is =
    let parts = both_hold _ (list_all is_key_byte word) is in
    let lengths = both_hold (nat_le 1 (length word)) (nat_le (length word) 250) parts.0 in
    let least = lengths.0 in grind (arith, nat_tests)

-- what a key and its word have to be
pub its_key : (is_base64 : Bool) (word key : List ℕ) → key_of is_base64 word ≡ Some key
    → (1 ≤ length key) × (is_base64 ≡ false → (key ≡ word) × (is_key word ≡ true)) × (is_base64 ≡ true → IsBytes word → word ≡ encode_of standard key)
its_key true word key read =
    let is = decodes word key read in
    (is.1, λ other. absurd (cc other), λ same bytes. decode_of_strict standard word key strict bytes is.0)
its_key false word key read =
    let is = text_by word key (is_key word) refl read in
    (subst (λ (k : List ℕ). 1 ≤ length k) (sym is.0) (has_some word is.1), λ same. is, λ other bytes. absurd (cc other))
