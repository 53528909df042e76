-- What a read of an honest journal gives.
use Rattle.std.proofs.Common.{◌≡◌, ℕ, ◌+◌, ◌<◌, false, List, [], ◌∷◌, ◌++◌, length, get_or, slice_get, None, Some, refl, sym, ◌∙◌, ap, subst, arith, append_assoc}
use Rattle.std.specs.List.{AllByRecursion}
use Rattle.std.proofs.lemmas.Bool.{false≢true}
use Rattle.std.proofs.lemmas.Bool.Decides.{nat_tests}
use Rattle.std.proofs.lemmas.List.{append-nil, same_lists}
use Rattle.std.proofs.lemmas.Option.{slice_get-get_or, get_or_from_slice_get}
use Rattle.flash_names.specs.declared.place.Id.{Id}
use Rattle.flash_names.specs.declared.place.Place.{Place}
use Rattle.flash_entry.specs.declared.entry.Entry.{Entry}
use Rattle.flash_entry.specs.declared.entry.Entry.TheVariants as entries
use Rattle.flash_machine.specs.Places.{has_byte, overlaps}
use Rattle.flash_machine.specs.Written.{IsWritten}
use Rattle.flash_machine.specs.Honest.{BeginsNoWrite, AgreesWith, IsHonestEntry, HonestFrom, Honest}
use Rattle.flash_machine.specs.HonestLaws.{EachReadAgrees, ends_read_well, BeginsNoWriteOver}
use Rattle.flash_machine.proofs.Onward.{EachFrom-append, EachFrom-split}

pub Honest-append : (h es : List Entry) → Honest h → HonestFrom h es → Honest (h ++ es)
Honest-append h es honest behind = EachFrom-append IsHonestEntry [] h es honest behind

pub Honest-split : (h es : List Entry) → Honest (h ++ es) → Honest h × HonestFrom h es
Honest-split h es both = EachFrom-split IsHonestEntry h es both

-- of an entry that ends no read with bytes nothing is asked
pub not_asked : (h : List Entry) (e : Entry) → ends_read_well e ≡ false → IsHonestEntry h e
not_asked h (entries.ReadEnded id (Some bytes)) other = absurd (false≢true (sym other))
not_asked h (entries.ReadEnded id None) other = tt
not_asked h _ other = tt

-- honest at each split
pub each_read_agrees : (h : List Entry) → Honest h → EachReadAgrees h
each_read_agrees h honest before after id bytes is = (Honest-split before (entries.ReadEnded id (Some bytes) ∷ after) (subst Honest is honest)).1.0

honest_entry : (h : List Entry) (e : Entry) → ((id : Id) (bytes : List ℕ) → e ≡ entries.ReadEnded id (Some bytes) → AgreesWith h id bytes) → IsHonestEntry h e
honest_entry h (entries.ReadEnded id (Some bytes)) each = each id bytes refl
honest_entry h (entries.ReadEnded id None) each = tt
honest_entry h _ each = tt

honest_from : (h es : List Entry) → ((before after : List Entry) (id : Id) (bytes : List ℕ) → es ≡ before ++ entries.ReadEnded id (Some bytes) ∷ after → AgreesWith (h ++ before) id bytes) → HonestFrom h es
honest_from h [] each = tt
honest_from h (e ∷ es) each = (
  honest_entry h e (λ id bytes is. subst (λ (j : List Entry). AgreesWith j id bytes) (append-nil h) (each [] es id bytes (ap (λ (x : Entry). x ∷ es) is))),
  honest_from (h ++ e ∷ []) es (λ before after id bytes is.
      subst (λ (j : List Entry). AgreesWith j id bytes) (sym (append_assoc h (e ∷ []) before)) (each (e ∷ before) after id bytes (ap (λ (t : List Entry). e ∷ t) is))),
)

pub honest_at_splits : (h : List Entry) → EachReadAgrees h → Honest h
honest_at_splits h each = honest_from [] h each

-- a write that overlaps a place nowhere has none of its bytes
apart_byte : (other place : Place) (i : ℕ) → overlaps other place ≡ false → i < place.length → has_byte other place.label.page (place.offset + i) ≡ false
apart_byte other place i apart within = grind (arith, nat_tests)

begins_no_write : (place : Place) (i : ℕ) (e : Entry) → i < place.length → BeginsNoWriteOver place e → BeginsNoWrite place.label.page (place.offset + i) e
begins_no_write place i (entries.WriteBegan other) within apart = apart_byte other place i apart within
begins_no_write place i _ within apart = tt

pub begin_no_write : (place : Place) (i : ℕ) (es : List Entry) → i < place.length → AllByRecursion (BeginsNoWriteOver place) es → AllByRecursion (BeginsNoWrite place.label.page (place.offset + i)) es
begin_no_write place i [] within apart = tt
begin_no_write place i (e ∷ es) within apart = (begins_no_write place i e within apart.0, begin_no_write place i es within apart.1)

-- a read that agrees with the journal gives the bytes that were there, where they are so many
pub read_is_written : (before since : List Entry) (id : Id) (place : Place) (reader : ℕ) (was bytes : List ℕ)
    → AgreesWith (before ++ entries.ReadBegan id place reader ∷ since) id bytes → length bytes ≡ place.length
    → IsWritten before place was → AllByRecursion (BeginsNoWriteOver place) since → bytes ≡ was
read_is_written before since id place reader was bytes agrees long is apart = same_lists bytes was (long ∙ sym is.long) at
  where
    at : (i d : ℕ) → i < length bytes → get_or bytes i d ≡ get_or was i d
    at i d below =
        let within : i < place.length = omega (arith, below, long) in
        let known : slice_get was i ≡ Some (get_or was i d) = slice_get-get_or was i d (omega (arith, within, is.long)) in
        get_or_from_slice_get bytes i (get_or was i d) d
        (agrees before since place reader i (get_or was i d) refl within (is.same i within ∙ known) (begin_no_write place i since within apart))
