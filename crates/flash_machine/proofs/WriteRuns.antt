-- The bytes that were written, from a write's end on.
use Rattle.std.proofs.Common.{◌≡◌, ℕ, ◌+◌, ◌-◌, ◌<◌, Bool, true, false, cond, List, [], ◌∷◌, ◌++◌, get_or, slice_get, Option, None, Some, refl, sym, ◌∙◌, ap, subst, arith, append_assoc}
use Rattle.std.specs.List.{AllByRecursion}
use Rattle.std.proofs.lemmas.List.{append-nil}
use Rattle.std.proofs.lemmas.Bool.Decides.{nat_tests}
use Rattle.std.proofs.lemmas.Option.{slice_get-get_or}
use Rattle.flash_names.specs.declared.place.Place.{Place}
use Rattle.flash_names.specs.declared.geometry.Geometry.{Geometry}
use Rattle.flash_entry.specs.declared.entry.Entry.{Entry}
use Rattle.flash_entry.specs.declared.entry.Entry.TheVariants as entries
use Rattle.flash_machine.specs.Places.{has_byte}
use Rattle.flash_machine.specs.Writes.{open_write_step, open_write}
use Rattle.flash_machine.specs.Written.{byte_after_write, byte_step, written, IsWritten}
use Rattle.flash_machine.specs.Honest.{BeginsNoWrite}
use Rattle.flash_machine.specs.Orderly.{IsOrderly, OrderlyFrom, Orderly}
use Rattle.flash_machine.specs.HonestLaws.{BeginsNoWriteOver}
use Rattle.flash_machine.proofs.Onward.{each_journal, EachFrom-split}
use Rattle.flash_machine.proofs.EntrySteps.{read_off-one}
use Rattle.flash_machine.proofs.RuleMeanings.{may_end_write}
use Rattle.flash_machine.proofs.HonestReads.{begin_no_write}

module _ (page offset : ℕ) where
  -- a byte of the open write isn't known
  abbrev IsUnknown : Option Place → Option ℕ → Type 0
  IsUnknown open_one byte = (place : Place) → open_one ≡ Some place → has_byte place page offset ≡ true → byte ≡ None

  began_unknown : (began : Place) (byte : Option ℕ) → IsUnknown (Some began) (cond (has_byte began page offset) None byte)
  began_unknown began byte place is has =
      let one : began ≡ place = cc is in
      ap (λ (p : Place). cond (has_byte p page offset) None byte) one ∙ ap (λ (b : Bool). cond b None byte) has

  unknown_step : (open_one : Option Place) (byte : Option ℕ) (e : Entry) → IsUnknown open_one byte → IsUnknown (open_write_step open_one e) (byte_step page offset byte e)
  unknown_step open_one byte (entries.WriteBegan began) was = began_unknown began byte
  unknown_step open_one byte (entries.WriteEnded ended outcome) was = λ place is. absurd (cc is)
  unknown_step open_one byte _ was = was

  unknown_one : (h : List Entry) (e : Entry) → IsUnknown (open_write h) (written page offset h) → IsUnknown (open_write (h ++ e ∷ [])) (written page offset (h ++ e ∷ []))
  unknown_one h e was =
      subst (λ (open_one : Option Place). IsUnknown open_one (written page offset (h ++ e ∷ []))) (sym (read_off-one open_write_step None h e))
      (subst (IsUnknown (open_write_step (open_write h) e)) (sym (read_off-one (byte_step page offset) None h e)) (unknown_step (open_write h) (written page offset h) e was))

  pub is_unknown : (h : List Entry) → IsUnknown (open_write h) (written page offset h)
  is_unknown h = each_journal (λ (j : List Entry). IsUnknown (open_write j) (written page offset j)) unknown_one [] h (λ place is. absurd (cc is))

  -- the end of a write without the byte leaves it
  unwritten : (place : Place) (outcome : Option (List ℕ)) (byte : Option ℕ) → has_byte place page offset ≡ false → byte_after_write page offset place outcome byte ≡ byte
  unwritten place None byte without = refl
  unwritten place (Some bytes) byte without = ap (λ (b : Bool). cond b (slice_get bytes (offset - place.offset)) byte) without

  -- the open write doesn't have a byte that is known
  without_known : (h : List Entry) (place : Place) (byte : ℕ) (b : Bool) → has_byte place page offset ≡ b → open_write h ≡ Some place → written page offset h ≡ Some byte → has_byte place page offset ≡ false
  without_known h place byte false has is known = has
  without_known h place byte true has is known = absurd (cc (sym (is_unknown h place is has) ∙ known))

  module _ (g : Geometry) (byte : ℕ) where
    known_step : (h : List Entry) (e : Entry) → IsOrderly g h e → BeginsNoWrite page offset e → written page offset h ≡ Some byte → byte_step page offset (written page offset h) e ≡ Some byte
    known_step h (entries.WriteBegan place) orderly none known = ap (λ (b : Bool). cond b None (written page offset h)) none ∙ known
    known_step h (entries.WriteEnded place outcome) orderly none known =
        let is = (may_end_write h place outcome orderly).write in
        unwritten place outcome (written page offset h) (without_known h place byte (has_byte place page offset) refl is known) ∙ known
    known_step h _ orderly none known = known

    -- a known byte stays until a write over it begins
    pub known_on : (h es : List Entry) → OrderlyFrom g h es → AllByRecursion (BeginsNoWrite page offset) es → written page offset h ≡ Some byte → written page offset (h ++ es) ≡ Some byte
    known_on h [] orderly none known = ap (written page offset) (append-nil h) ∙ known
    known_on h (e ∷ es) orderly none known =
        let step = read_off-one (byte_step page offset) None h e ∙ known_step h e orderly.0 none.0 known in
        ap (written page offset) (sym (append_assoc h (e ∷ []) es)) ∙ known_on (h ++ e ∷ []) es orderly.1 none.1 step

module _ (g : Geometry) where
  pub written_on : (h es : List Entry) (place : Place) (bytes : List ℕ) → OrderlyFrom g h es → IsWritten h place bytes → AllByRecursion (BeginsNoWriteOver place) es → IsWritten (h ++ es) place bytes
  written_on h es place bytes orderly is none = record { long = is.long; same = at }
    where
      at : (i : ℕ) → i < place.length → written place.label.page (place.offset + i) (h ++ es) ≡ slice_get bytes i
      at i within =
          let known : slice_get bytes i ≡ Some (get_or bytes i 0) = slice_get-get_or bytes i 0 (omega (arith, within, is.long)) in
          known_on place.label.page (place.offset + i) g (get_or bytes i 0) h es orderly (begin_no_write place i es within none) (is.same i within ∙ known) ∙ sym known

  -- a place has each of its bytes
  own_byte : (place : Place) (i : ℕ) → i < place.length → has_byte place place.label.page (place.offset + i) ≡ true
  own_byte place i within = grind (arith, nat_tests)

  nth_byte : (bytes : List ℕ) (first i : ℕ) → slice_get bytes (first + i - first) ≡ slice_get bytes i
  nth_byte bytes first i = let same : first + i - first ≡ i = omega arith in ap (slice_get bytes) same

  pub good_write : (h : List Entry) (place : Place) (bytes : List ℕ) → IsOrderly g h (entries.WriteEnded place (Some bytes)) → IsWritten (h ++ entries.WriteEnded place (Some bytes) ∷ []) place bytes
  good_write h place bytes orderly = record { long = (may_end_write h place (Some bytes) orderly).long; same = at }
    where
      at : (i : ℕ) → i < place.length → written place.label.page (place.offset + i) (h ++ entries.WriteEnded place (Some bytes) ∷ []) ≡ slice_get bytes i
      at i within =
          let page = place.label.page in
          let offset = place.offset + i in
          read_off-one (byte_step page offset) None h (entries.WriteEnded place (Some bytes))
          ∙ ap (λ (b : Bool). cond b (slice_get bytes (offset - place.offset)) (written page offset h)) (own_byte place i within)
          ∙ nth_byte bytes place.offset i

  -- after a good write its bytes are at its place until a write over it begins
  pub written_since : (h es : List Entry) (place : Place) (bytes : List ℕ) → Orderly g (h ++ entries.WriteEnded place (Some bytes) ∷ es) → AllByRecursion (BeginsNoWriteOver place) es
      → IsWritten (h ++ entries.WriteEnded place (Some bytes) ∷ es) place bytes
  written_since h es place bytes orderly none =
      let ended = h ++ entries.WriteEnded place (Some bytes) ∷ [] in
      let parts = (EachFrom-split (IsOrderly g) h (entries.WriteEnded place (Some bytes) ∷ es) orderly).1 in
      subst (λ (j : List Entry). IsWritten j place bytes) (append_assoc h (entries.WriteEnded place (Some bytes) ∷ []) es)
      (written_on ended es place bytes parts.1 (good_write h place bytes parts.0) none)
