-- The fields of an entry are read back.
use Rattle.std.proofs.Common.{◌≡◌, ℕ, ℤ, ◌<◌, Bool, true, false, List, [], ◌∷◌, Option, None, Some, IfSome, codes, decimal, option_map, if◌then◌else◌, refl, ap, arith}
use Rattle.std.specs.Fmt.{signed_decimal}
use Rattle.std.specs.Str.{bytes_eq}
use Rattle.hex.specs.Hex.{IsBytes, encode_lower}
use Rattle.flash_names.specs.declared.place.Label.{Label}
use Rattle.flash_names.specs.declared.place.Place.{Place}
use Rattle.flash_names.specs.declared.place.Id.{Id}
use Rattle.flash_entry.specs.declared.entry_fault.EntryFault.TheVariants.{BadWord, BadNumber}
use Rattle.flash_entry.specs.declared.answer.Gone.{Gone}
use Rattle.flash_entry.specs.declared.answer.Touched.{Touched}
use Rattle.flash_entry.specs.declared.found.Cause.{Cause}
use Rattle.flash_entry.specs.declared.entry.DropCause.{DropCause}
use Rattle.flash_entry.specs.declared.entry.EndCause.{EndCause}
use Rattle.flash_entry.specs.declared.kinds.Kind.{Kind}
use Rattle.flash_entry.specs.declared.kinds.Verb.{Verb}
use Rattle.flash_entry.specs.Text.{word, number, number_if, signed, signed_if, hexadecimal, id_text, label_text, place_text}
use Rattle.flash_entry.specs.EntryText.{gone_word, touched_word, wanted_word, cause_word, drop_word, end_word, bytes_text}
use Rattle.flash_entry.specs.WordValues as values
use Rattle.flash_entry.specs.WordValues.{or_word}
use Rattle.flash_entry.specs.FixedWords as fixed
use Rattle.flash_entry.specs.FieldReading as fields
use Rattle.flash_entry.specs.IsEntry.{IsNumber, IsNarrow, IsSigned, IsKey, IsId, IsLabel, IsPlace}
use Rattle.flash_entry.proofs.GeometryLineWords.{IsOneWord, one_word-decimal}
use Rattle.flash_entry.proofs.NumberWords.{plain-back, signed-word}
use Rattle.flash_entry.proofs.NumberWords.{narrow-back as narrow_word-back, signed-back as signed_word-back}
use Rattle.flash_entry.proofs.DigitLemmas.{digits-word, key-back as key_word-back, value-back as value_word-back}
use Rattle.flash_entry.proofs.FixedLemmas as words
use Rattle.flash_entry.proofs.FixedLemmas.{same_bytes, no_space, kind_text, verb_text}
use Rattle.flash_entry.proofs.SoundFields.{number_or_none_text, narrow_or_here_text}
use Rattle.flash_entry.proofs.Back.{ReadsBack, also, nothing, in_order, one_back}

or_at : {A : Type 0} (other w : List ℕ) (of : List ℕ → Option A) (x : A) (test : Bool) → bytes_eq w other ≡ test
    → of other ≡ None → of w ≡ Some x
    → (if test then Some None else option_map (λ v. Some v) (of w)) ≡ Some (Some x)
or_at other w of x true at none is = absurd (cc (ap of (same_bytes w other at), none, is))
or_at other w of x false at none is = ap (option_map (λ v. Some v)) is

-- a word that is not the one for nothing
or-back : {A : Type 0} (other w : List ℕ) (of : List ℕ → Option A) (x : A) → of other ≡ None → of w ≡ Some x
    → or_word other of w ≡ Some (Some x)
or-back other w of x none is = or_at other w of x (bytes_eq w other) refl none is

pub number-back : (n : ℕ) → IsNumber n → ReadsBack fields.number (number n) n
unfolding fields.number
number-back n is = one_back values.plain_number BadNumber (decimal n) (one_word-decimal n is) (plain-back n is)

pub narrow-back : (n : ℕ) → IsNarrow n → ReadsBack fields.narrow (number n) n
unfolding fields.narrow
narrow-back n is =
    one_back values.narrow_number BadNumber (decimal n) (one_word-decimal n (omega arith)) (narrow_word-back n is)

pub signed-back : (z : ℤ) → IsSigned z → ReadsBack fields.signed (signed z) z
unfolding fields.signed
signed-back z is = one_back values.signed_number BadNumber (signed_decimal z) (signed-word z is) (signed_word-back z is)

pub number_if-back : (o : Option ℕ) → IfSome o IsNumber → ReadsBack fields.number_if (number_if o) o
unfolding fields.number_if values.optional_number values.plain_number
number_if-back None is = one_back values.optional_number BadNumber (codes "-") (no_space (codes "-") refl) refl
number_if-back (Some n) is =
    one_back values.optional_number BadNumber (decimal n) (one_word-decimal n is)
    (or-back (codes "-") (decimal n) values.plain_number n refl (plain-back n is))

pub signed_if-back : (o : Option ℤ) → IfSome o IsSigned → ReadsBack fields.signed_if (signed_if o) o
unfolding fields.signed_if values.optional_signed values.signed_number values.plain_number
signed_if-back None is = one_back values.optional_signed BadNumber (codes "-") (no_space (codes "-") refl) refl
signed_if-back (Some z) is =
    one_back values.optional_signed BadNumber (signed_decimal z) (signed-word z is)
    (or-back (codes "-") (signed_decimal z) values.signed_number z refl (signed_word-back z is))

pub number_or_none-back : (o : Option ℕ) → IfSome o IsNumber → ReadsBack fields.number_or_none (number_or_none_text o) o
unfolding fields.number_or_none values.number_or_none values.plain_number
number_or_none-back None is =
    one_back values.number_or_none BadNumber (codes "none") (no_space (codes "none") refl) refl
number_or_none-back (Some n) is =
    one_back values.number_or_none BadNumber (decimal n) (one_word-decimal n is)
    (or-back (codes "none") (decimal n) values.plain_number n refl (plain-back n is))

pub narrow_or_here-back : (o : Option ℕ) → IfSome o IsNarrow → ReadsBack fields.narrow_or_here (narrow_or_here_text o) o
unfolding fields.narrow_or_here values.narrow_or_here values.narrow_number values.plain_number
narrow_or_here-back None is =
    one_back values.narrow_or_here BadNumber (codes "here") (no_space (codes "here") refl) refl
narrow_or_here-back (Some n) is =
    let small : n < 18446744073709551616 = omega arith in
    one_back values.narrow_or_here BadNumber (decimal n) (one_word-decimal n small)
    (or-back (codes "here") (decimal n) values.narrow_number n refl (narrow_word-back n is))

pub key-back : (key : List ℕ) → IsKey key → ReadsBack fields.key (hexadecimal key) key
unfolding fields.key
key-back [] is = let some = is.some in absurd (omega arith)
key-back (b ∷ bytes) is =
    one_back values.key_of_digits BadWord (encode_lower (b ∷ bytes)) (digits-word (b ∷ bytes) is.bytes)
    (key_word-back (b ∷ bytes) is)

pub value-back : (value : List ℕ) → IsBytes value → ReadsBack fields.value (hexadecimal value) value
unfolding fields.value values.value_of_digits
value-back [] is = one_back values.value_of_digits BadWord (codes "-") (no_space (codes "-") refl) refl
value-back (b ∷ bytes) is =
    one_back values.value_of_digits BadWord (encode_lower (b ∷ bytes)) (digits-word (b ∷ bytes) is)
    (value_word-back (b ∷ bytes) is (omega arith))

pub bytes_or_failed-back : (o : Option (List ℕ)) → IfSome o IsBytes → ReadsBack fields.bytes_or_failed (bytes_text o) o
unfolding fields.bytes_or_failed values.bytes_or_failed values.value_of_digits values.bytes_of_digits
bytes_or_failed-back None is =
    one_back values.bytes_or_failed BadWord (codes "failed") (no_space (codes "failed") refl) refl
bytes_or_failed-back (Some []) is = one_back values.bytes_or_failed BadWord (codes "-") (no_space (codes "-") refl) refl
bytes_or_failed-back (Some (b ∷ bytes)) is =
    one_back values.bytes_or_failed BadWord (encode_lower (b ∷ bytes)) (digits-word (b ∷ bytes) is)
    (or-back (codes "failed") (encode_lower (b ∷ bytes)) values.value_of_digits (b ∷ bytes) refl (value_word-back (b ∷ bytes) is (omega arith)))

pub kind-back : (x : Kind) → ReadsBack fields.kind (word (kind_text x)) x
unfolding fields.kind
kind-back x = one_back fixed.kind BadWord (kind_text x) (words.kind-word x) (words.kind-back x)

pub verb-back : (x : Verb) → ReadsBack fields.verb (word (verb_text x)) x
unfolding fields.verb
verb-back x = one_back fixed.verb BadWord (verb_text x) (words.verb-word x) (words.verb-back x)

pub gone-back : (x : Gone) → ReadsBack fields.gone (word (gone_word x)) x
unfolding fields.gone
gone-back x = one_back fixed.gone BadWord (gone_word x) (words.gone-word x) (words.gone-back x)

pub touched-back : (x : Touched) → ReadsBack fields.touched (word (touched_word x)) x
unfolding fields.touched
touched-back x = one_back fixed.touched BadWord (touched_word x) (words.touched-word x) (words.touched-back x)

pub wanted-back : (x : Bool) → ReadsBack fields.wanted (word (wanted_word x)) x
unfolding fields.wanted
wanted-back x = one_back fixed.wanted BadWord (wanted_word x) (words.wanted-word x) (words.wanted-back x)

pub cause-back : (x : Cause) → ReadsBack fields.cause (word (cause_word x)) x
unfolding fields.cause
cause-back x = one_back fixed.cause BadWord (cause_word x) (words.cause-word x) (words.cause-back x)

pub drop_cause-back : (x : DropCause) → ReadsBack fields.drop_cause (word (drop_word x)) x
unfolding fields.drop_cause
drop_cause-back x = one_back fixed.drop_cause BadWord (drop_word x) (words.drop_cause-word x) (words.drop_cause-back x)

pub end_cause-back : (x : EndCause) → ReadsBack fields.end_cause (word (end_word x)) x
unfolding fields.end_cause
end_cause-back x = one_back fixed.end_cause BadWord (end_word x) (words.end_cause-word x) (words.end_cause-back x)

only-back : (w : List ℕ) → IsOneWord w → ReadsBack (fields.only w) (word w) tt
unfolding fields.only
only-back w one = one_back (fixed.only w) BadWord w one (words.only-back w)

pub equality-back : ReadsBack fields.equality (word (codes "=")) tt
equality-back = only-back (codes "=") (no_space (codes "=") refl)

pub dash-back : ReadsBack fields.dash (word (codes "-")) tt
dash-back = only-back (codes "-") (no_space (codes "-") refl)

pub done-back : ReadsBack fields.done (word (codes "ok")) tt
done-back = only-back (codes "ok") (no_space (codes "ok") refl)

pub id-back : (id : Id) → IsId id → ReadsBack fields.id (id_text id) id
unfolding fields.id
id-back id is = in_order (also _ (narrow-back id.pass is.pass) (also _ (number-back id.seq is.seq) nothing))

pub label-back : (label : Label) → IsLabel label → ReadsBack fields.label (label_text label) label
unfolding fields.label
label-back label is =
    in_order (also _ (narrow-back label.page is.page) (also _ (number-back label.version is.version) nothing))

pub place-back : (place : Place) → IsPlace place → ReadsBack fields.place (place_text place) place
unfolding fields.place
place-back place is =
    in_order
    (also _ (label-back place.label is.label)
    (also _ (narrow-back place.offset is.offset)
    (also _ (narrow-back place.length is.length) nothing)))
