-- The fields of an entry are spelled by their words.
use Rattle.std.proofs.Common.{◌≡◌, ℕ, ℤ, Bool, true, false, List, ◌∷◌, Option, None, Some, IfSome, codes, option_map, if◌then◌else◌, refl, sym, ◌∙◌, ap, subst}
use Rattle.std.specs.Str.{bytes_eq}
use Rattle.hex.specs.Hex.{IsBytes}
use Rattle.flash_entry.specs.declared.entry_fault.EntryFault.TheVariants.{BadWord, BadNumber}
use Rattle.flash_entry.specs.Text.{word, number, number_if, signed, signed_if, hexadecimal, id_text, label_text, place_text}
use Rattle.flash_entry.specs.EntryText.{gone_word, touched_word, wanted_word, cause_word, drop_word, end_word, bytes_text}
use Rattle.flash_entry.specs.WordValues as values
use Rattle.flash_entry.specs.WordValues.{or_word}
use Rattle.flash_entry.specs.FixedWords as fixed
use Rattle.flash_entry.specs.FieldReading as fields
use Rattle.flash_entry.specs.IsEntry.{IsNumber, IsNarrow, IsSigned, IsKey, IsId, IsLabel, IsPlace}
use Rattle.flash_entry.proofs.NumberWords.{plain-spelled, narrow-spelled, signed-spelled}
use Rattle.flash_entry.proofs.DigitLemmas.{key-spelled, value-spelled}
use Rattle.flash_entry.proofs.FixedLemmas.{same_bytes, kind_text, verb_text, kind-spelled, verb-spelled, only-spelled, gone-spelled, touched-spelled, wanted-spelled, cause-spelled, drop_cause-spelled, end_cause-spelled}
use Rattle.flash_entry.proofs.Sound.{IsSound, one_word, goes_on, given, at_start}

-- a word with its space
spaced_word : {w c : List ℕ} → c ≡ w → 32 ∷ c ≡ 32 ∷ w
spaced_word same = ap (λ (l : List ℕ). 32 ∷ l) same

or_at : {A : Type 0} (text : Option A → List ℕ) (IsIn : A → Type 0) (other w : List ℕ) (test : Bool)
    (value : Option A) (x : Option A)
    → bytes_eq w other ≡ test → text None ≡ 32 ∷ other
    → ((v : A) → value ≡ Some v → (text (Some v) ≡ 32 ∷ w) × IsIn v)
    → (if test then Some None else option_map (λ v. Some v) value) ≡ Some x → (text x ≡ 32 ∷ w) × IfSome x IsIn
or_at text IsIn other w true value x at none each is =
    let same : None ≡ x = cc is in
    subst (λ o. (text o ≡ 32 ∷ w) × IfSome o IsIn) same (none ∙ spaced_word (sym (same_bytes w other at)), tt)
or_at text IsIn other w false None x at none each is = absurd (cc is)
or_at text IsIn other w false (Some v) x at none each is =
    let same : Some v ≡ x = cc is in
    subst (λ o. (text o ≡ 32 ∷ w) × IfSome o IsIn) same (each v refl)

-- a word of its own for nothing
or-spelled : {A : Type 0} (text : Option A → List ℕ) (IsIn : A → Type 0) (other : List ℕ) (of : List ℕ → Option A)
    → text None ≡ 32 ∷ other → ((w : List ℕ) (v : A) → of w ≡ Some v → (text (Some v) ≡ 32 ∷ w) × IsIn v)
    → (w : List ℕ) (x : Option A) → or_word other of w ≡ Some x → (text x ≡ 32 ∷ w) × IfSome x IsIn
or-spelled text IsIn other of none each w x is =
    or_at text IsIn other w (bytes_eq w other) (of w) x refl none (each w) is

-- a number, or the word for no item
abbrev pub number_or_none_text : Option ℕ → List ℕ
number_or_none_text None = word (codes "none")
number_or_none_text (Some n) = number n

-- a page's number, or the word for a value in memory
abbrev pub narrow_or_here_text : Option ℕ → List ℕ
narrow_or_here_text None = word (codes "here")
narrow_or_here_text (Some n) = number n

plain_text : (w : List ℕ) (n : ℕ) → values.plain_number w ≡ Some n → (number n ≡ 32 ∷ w) × IsNumber n
plain_text w n is = let at = plain-spelled w n is in (spaced_word at.0, at.1)

narrow_text : (w : List ℕ) (n : ℕ) → values.narrow_number w ≡ Some n → (number n ≡ 32 ∷ w) × IsNarrow n
narrow_text w n is = let at = narrow-spelled w n is in (spaced_word at.0, at.1)

signed_text : (w : List ℕ) (z : ℤ) → values.signed_number w ≡ Some z → (signed z ≡ 32 ∷ w) × IsSigned z
signed_text w z is = let at = signed-spelled w z is in (spaced_word at.0, at.1)

pub number-sound : IsSound number IsNumber fields.number
unfolding fields.number
number-sound = one_word values.plain_number BadNumber plain_text

pub narrow-sound : IsSound number IsNarrow fields.narrow
unfolding fields.narrow
narrow-sound = one_word values.narrow_number BadNumber narrow_text

pub signed-sound : IsSound signed IsSigned fields.signed
unfolding fields.signed
signed-sound = one_word values.signed_number BadNumber signed_text

pub number_if-sound : IsSound number_if (λ o. IfSome o IsNumber) fields.number_if
unfolding fields.number_if values.optional_number
number_if-sound =
    one_word values.optional_number BadNumber
    (or-spelled number_if IsNumber (codes "-") values.plain_number refl plain_text)

pub signed_if-sound : IsSound signed_if (λ o. IfSome o IsSigned) fields.signed_if
unfolding fields.signed_if values.optional_signed
signed_if-sound =
    one_word values.optional_signed BadNumber
    (or-spelled signed_if IsSigned (codes "-") values.signed_number refl signed_text)

pub number_or_none-sound : IsSound number_or_none_text (λ o. IfSome o IsNumber) fields.number_or_none
unfolding fields.number_or_none values.number_or_none
number_or_none-sound =
    one_word values.number_or_none BadNumber
    (or-spelled number_or_none_text IsNumber (codes "none") values.plain_number refl plain_text)

pub narrow_or_here-sound : IsSound narrow_or_here_text (λ o. IfSome o IsNarrow) fields.narrow_or_here
unfolding fields.narrow_or_here values.narrow_or_here
narrow_or_here-sound =
    one_word values.narrow_or_here BadNumber
    (or-spelled narrow_or_here_text IsNarrow (codes "here") values.narrow_number refl narrow_text)

pub key-sound : IsSound hexadecimal IsKey fields.key
unfolding fields.key
key-sound = one_word values.key_of_digits BadWord key-spelled

pub value-sound : IsSound hexadecimal IsBytes fields.value
unfolding fields.value
value-sound = one_word values.value_of_digits BadWord value-spelled

pub bytes_or_failed-sound : IsSound bytes_text (λ o. IfSome o IsBytes) fields.bytes_or_failed
unfolding fields.bytes_or_failed values.bytes_or_failed
bytes_or_failed-sound =
    one_word values.bytes_or_failed BadWord
    (or-spelled bytes_text IsBytes (codes "failed") values.value_of_digits refl value-spelled)

pub kind-sound : IsSound (λ k. word (kind_text k)) (λ _. Unit {0}) fields.kind
unfolding fields.kind
kind-sound = one_word fixed.kind BadWord (λ w v is. (spaced_word (kind-spelled w v is), tt))

pub verb-sound : IsSound (λ v. word (verb_text v)) (λ _. Unit {0}) fields.verb
unfolding fields.verb
verb-sound = one_word fixed.verb BadWord (λ w v is. (spaced_word (verb-spelled w v is), tt))

only-sound : (expected : List ℕ) → IsSound (λ _. word expected) (λ _. Unit {0}) (fields.only expected)
unfolding fields.only
only-sound expected =
    one_word (fixed.only expected) BadWord (λ w v is. (spaced_word (only-spelled expected w v is), tt))

pub equality-sound : IsSound (λ _. word (codes "=")) (λ _. Unit {0}) fields.equality
equality-sound = only-sound (codes "=")

pub dash-sound : IsSound (λ _. word (codes "-")) (λ _. Unit {0}) fields.dash
dash-sound = only-sound (codes "-")

pub done-sound : IsSound (λ _. word (codes "ok")) (λ _. Unit {0}) fields.done
done-sound = only-sound (codes "ok")

pub gone-sound : IsSound (λ g. word (gone_word g)) (λ _. Unit {0}) fields.gone
unfolding fields.gone
gone-sound = one_word fixed.gone BadWord (λ w v is. (spaced_word (gone-spelled w v is), tt))

pub touched-sound : IsSound (λ t. word (touched_word t)) (λ _. Unit {0}) fields.touched
unfolding fields.touched
touched-sound = one_word fixed.touched BadWord (λ w v is. (spaced_word (touched-spelled w v is), tt))

pub wanted-sound : IsSound (λ v. word (wanted_word v)) (λ _. Unit {0}) fields.wanted
unfolding fields.wanted
wanted-sound = one_word fixed.wanted BadWord (λ w v is. (spaced_word (wanted-spelled w v is), tt))

pub cause-sound : IsSound (λ c. word (cause_word c)) (λ _. Unit {0}) fields.cause
unfolding fields.cause
cause-sound = one_word fixed.cause BadWord (λ w v is. (spaced_word (cause-spelled w v is), tt))

pub drop_cause-sound : IsSound (λ c. word (drop_word c)) (λ _. Unit {0}) fields.drop_cause
unfolding fields.drop_cause
drop_cause-sound = one_word fixed.drop_cause BadWord (λ w v is. (spaced_word (drop_cause-spelled w v is), tt))

pub end_cause-sound : IsSound (λ c. word (end_word c)) (λ _. Unit {0}) fields.end_cause
unfolding fields.end_cause
end_cause-sound = one_word fixed.end_cause BadWord (λ w v is. (spaced_word (end_cause-spelled w v is), tt))

pub id-sound : IsSound id_text IsId fields.id
unfolding fields.id
id-sound =
    record {
      from = λ left.
          goes_on narrow-sound (at_start left) (λ pass left at is_pass.
          goes_on number-sound at (λ seq left at is_seq.
          given at (record { pass = is_pass; seq = is_seq })));
    }

pub label-sound : IsSound label_text IsLabel fields.label
unfolding fields.label
label-sound =
    record {
      from = λ left.
          goes_on narrow-sound (at_start left) (λ page left at is_page.
          goes_on number-sound at (λ version left at is_version.
          given at (record { page = is_page; version = is_version })));
    }

pub place-sound : IsSound place_text IsPlace fields.place
unfolding fields.place
place-sound =
    record {
      from = λ left.
          goes_on label-sound (at_start left) (λ label left at is_label.
          goes_on narrow-sound at (λ offset left at is_offset.
          goes_on narrow-sound at (λ length left at is_length.
          given at (record { label = is_label; offset = is_offset; length = is_length }))));
    }
