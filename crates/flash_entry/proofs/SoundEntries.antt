-- An entry is spelled by its words.
use Rattle.std.proofs.Common.{◌≡◌, ℕ, List, [], ◌∷◌, ◌++◌, Option, None, Some, IfSome, Result, Ok, Err, IfOk, codes, refl, sym, ◌∙◌, ap, append_assoc, append-nil}
use Rattle.flash_names.specs.Words.{words}
use Rattle.flash_entry.specs.declared.entry_fault.EntryFault.{EntryFault}
use Rattle.flash_entry.specs.declared.entry_fault.EntryFault.TheVariants.{BadWord}
use Rattle.flash_entry.specs.declared.entry.Entry.{Entry}
use Rattle.flash_entry.specs.declared.kinds.Kind.{Kind}
use Rattle.flash_entry.specs.declared.kinds.Kind.TheVariants as kinds
use Rattle.flash_entry.specs.declared.kinds.StepKind.TheVariants as steps
use Rattle.flash_entry.specs.declared.kinds.LookupKind.TheVariants as lookups
use Rattle.flash_entry.specs.declared.kinds.ItemKind.TheVariants as items
use Rattle.flash_entry.specs.declared.kinds.PageKind.TheVariants as pages
use Rattle.flash_entry.specs.Text.{word, number, line_end}
use Rattle.flash_entry.specs.EntryText.{residence_text, close_text, kind_word, entry_rest, entry_line}
use Rattle.flash_entry.specs.Readings.{Left, Outcome, Reading, ReadsInMemory, and_then, give, end_of_line, no_more}
use Rattle.flash_entry.specs.FieldReading as fields
use Rattle.flash_entry.specs.EntryReading.{residence_at, residence_of, residence, hit, lost, close_of, close, clock, did, looked, buffered, read_began, read_ended, closed, moved, recached, dropped, write_began, write_ended, opened, ended, freed, of_step, of_lookup, of_item, of_page, of_kind, whole, value_of, reading}
use Rattle.flash_entry.specs.IsEntry.{IsNumber, IsNarrow, IsResidence, IsClose, IsEntry}
use Rattle.flash_entry.proofs.FixedLemmas.{kind_text}
use Rattle.flash_entry.proofs.Sound.{spaced, spaced-words, Begin, Sound, IsSound, goes_on, given, at_start, begin_as, sound_or, sound_if, next_word-sound}
use Rattle.flash_entry.proofs.SoundFields.{number_or_none_text, narrow_or_here_text, number-sound, narrow-sound, signed_if-sound, number_or_none-sound, narrow_or_here-sound, key-sound, value-sound, bytes_or_failed-sound, kind-sound, equality-sound, wanted-sound, cause-sound, drop_cause-sound, end_cause-sound, id-sound, label-sound, place-sound}
use Rattle.flash_entry.proofs.SoundSteps.{step-sound}

residence_at-sound : (cas : ℕ) (page : Option ℕ) (bytes : List ℕ) (left : Left)
    → Begin bytes (number cas ++ narrow_or_here_text page) left → IsNumber cas → IfSome page IsNarrow
    → Sound residence_text IsResidence bytes (residence_at cas page left)
residence_at-sound cas None bytes left at is_cas is_page = given at is_cas
residence_at-sound cas (Some page) bytes left at is_cas is_page =
    goes_on number-sound at (λ version left at is_version.
    given (begin_as (append_assoc (number cas) (number page) (number version)) at)
    (is_cas, record { page = is_page; version = is_version }))

residence_of-sound : (cas : Option ℕ) (bytes : List ℕ) (left : Left) → Begin bytes (number_or_none_text cas) left
    → IfSome cas IsNumber
    → Sound residence_text IsResidence bytes (residence_of cas left)
unfolding residence_of
residence_of-sound None bytes left at is_cas = given at tt
residence_of-sound (Some cas) bytes left at is_cas =
    goes_on narrow_or_here-sound at (λ page left at is_page. residence_at-sound cas page bytes left at is_cas is_page)

residence-sound : IsSound residence_text IsResidence residence
unfolding residence
residence-sound =
    record {
      from = λ left.
          goes_on number_or_none-sound (at_start left) (λ cas left at is_cas.
          residence_of-sound cas _ left at is_cas);
    }

hit-sound : (bytes : List ℕ) (left : Left) → Begin bytes (word (codes "hit")) left
    → Sound close_text IsClose bytes (hit left)
unfolding hit
hit-sound bytes left at =
    goes_on narrow-sound at (λ flags left at is_flags.
    goes_on number-sound at (λ cas left at is_cas.
    goes_on value-sound at (λ value left at is_value.
    given at (is_flags, is_cas, is_value))))

lost-sound : (bytes : List ℕ) (left : Left) → Begin bytes (word (codes "lost")) left
    → Sound close_text IsClose bytes (lost left)
unfolding lost
lost-sound bytes left at = goes_on cause-sound at (λ cause left at _. given at tt)

close-sound : IsSound close_text IsClose close
unfolding close close_of
close-sound =
    record {
      from = λ left.
          goes_on next_word-sound (at_start left) (λ w left at _.
          sound_if close_text IsClose _ w (codes "hit") _ _ left at (hit-sound _ left)
          (sound_if close_text IsClose _ w (codes "lost") _ _ left at (lost-sound _ left)
          (sound_or close_text IsClose _ None BadWord left (λ v is. absurd (cc is)))));
    }

-- an entry that begins with this word
abbrev IsOf : List ℕ → Entry → Type 0
IsOf kind entry = (kind_word entry ≡ kind) × IsEntry entry

clock-sound : IsSound entry_rest (IsOf (codes "clock")) clock
unfolding clock
clock-sound =
    record { from = λ left. goes_on number-sound (at_start left) (λ moment left at is_moment. given at (refl, is_moment)) }

did-sound : IsSound entry_rest (IsOf (codes "did")) did
unfolding did
did-sound =
    record {
      from = λ left.
          goes_on id-sound (at_start left) (λ id left at is_id.
          goes_on step-sound at (λ step left at is_step.
          given at (refl, (is_id, is_step))));
    }

looked-sound : IsSound entry_rest (IsOf (codes "looked")) looked
unfolding looked
looked-sound =
    record {
      from = λ left.
          goes_on id-sound (at_start left) (λ id left at is_id.
          goes_on key-sound at (λ key left at is_key.
          goes_on wanted-sound at (λ value left at _.
          goes_on signed_if-sound at (λ renew left at is_renew.
          goes_on equality-sound at (λ _ left at _.
          goes_on residence-sound at (λ residence left at is_residence.
          given at (refl, (is_id, is_key, is_renew, is_residence))))))));
    }

buffered-sound : IsSound entry_rest (IsOf (codes "buffered")) buffered
unfolding buffered
buffered-sound =
    record {
      from = λ left.
          goes_on id-sound (at_start left) (λ id left at is_id.
          goes_on place-sound at (λ place left at is_place.
          given at (refl, (is_id, is_place))));
    }

read_began-sound : IsSound entry_rest (IsOf (codes "read-began")) read_began
unfolding read_began
read_began-sound =
    record {
      from = λ left.
          goes_on id-sound (at_start left) (λ id left at is_id.
          goes_on place-sound at (λ place left at is_place.
          goes_on narrow-sound at (λ reader left at is_reader.
          given at (refl, (is_id, is_place, is_reader)))));
    }

read_ended-sound : IsSound entry_rest (IsOf (codes "read-ended")) read_ended
unfolding read_ended
read_ended-sound =
    record {
      from = λ left.
          goes_on id-sound (at_start left) (λ id left at is_id.
          goes_on bytes_or_failed-sound at (λ bytes left at are_bytes.
          given at (refl, (is_id, are_bytes))));
    }

closed-sound : IsSound entry_rest (IsOf (codes "closed")) closed
unfolding closed
closed-sound =
    record {
      from = λ left.
          goes_on id-sound (at_start left) (λ id left at is_id.
          goes_on close-sound at (λ close left at is_close.
          given at (refl, (is_id, is_close))));
    }

moved-sound : IsSound entry_rest (IsOf (codes "moved")) moved
unfolding moved
moved-sound =
    record {
      from = λ left.
          goes_on key-sound (at_start left) (λ key left at is_key.
          goes_on number-sound at (λ cas left at is_cas.
          goes_on label-sound at (λ label left at is_label.
          given at (refl, (is_key, is_cas, is_label)))));
    }

recached-sound : IsSound entry_rest (IsOf (codes "recached")) recached
unfolding recached
recached-sound =
    record {
      from = λ left.
          goes_on key-sound (at_start left) (λ key left at is_key.
          goes_on number-sound at (λ cas left at is_cas.
          given at (refl, (is_key, is_cas))));
    }

dropped-sound : IsSound entry_rest (IsOf (codes "dropped")) dropped
unfolding dropped
dropped-sound =
    record {
      from = λ left.
          goes_on key-sound (at_start left) (λ key left at is_key.
          goes_on drop_cause-sound at (λ cause left at _.
          given at (refl, is_key)));
    }

write_began-sound : IsSound entry_rest (IsOf (codes "write-began")) write_began
unfolding write_began
write_began-sound =
    record { from = λ left. goes_on place-sound (at_start left) (λ place left at is_place. given at (refl, is_place)) }

write_ended-sound : IsSound entry_rest (IsOf (codes "write-ended")) write_ended
unfolding write_ended
write_ended-sound =
    record {
      from = λ left.
          goes_on place-sound (at_start left) (λ place left at is_place.
          goes_on bytes_or_failed-sound at (λ bytes left at are_bytes.
          given at (refl, (is_place, are_bytes))));
    }

opened-sound : IsSound entry_rest (IsOf (codes "opened")) opened
unfolding opened
opened-sound =
    record { from = λ left. goes_on label-sound (at_start left) (λ label left at is_label. given at (refl, is_label)) }

ended-sound : IsSound entry_rest (IsOf (codes "ended")) ended
unfolding ended
ended-sound =
    record {
      from = λ left.
          goes_on label-sound (at_start left) (λ label left at is_label.
          goes_on end_cause-sound at (λ cause left at _.
          given at (refl, is_label)));
    }

freed-sound : IsSound entry_rest (IsOf (codes "freed")) freed
unfolding freed
freed-sound =
    record { from = λ left. goes_on label-sound (at_start left) (λ label left at is_label. given at (refl, is_label)) }

of_kind-sound : (kind : Kind) → IsSound entry_rest (IsOf (kind_text kind)) (of_kind kind)
unfolding of_kind of_step of_lookup of_item of_page
of_kind-sound (kinds.Step steps.Clock) = clock-sound
of_kind-sound (kinds.Step steps.Did) = did-sound
of_kind-sound (kinds.Lookup lookups.Looked) = looked-sound
of_kind-sound (kinds.Lookup lookups.FromBuffer) = buffered-sound
of_kind-sound (kinds.Lookup lookups.ReadBegan) = read_began-sound
of_kind-sound (kinds.Lookup lookups.ReadEnded) = read_ended-sound
of_kind-sound (kinds.Lookup lookups.Closed) = closed-sound
of_kind-sound (kinds.Item items.Moved) = moved-sound
of_kind-sound (kinds.Item items.Recached) = recached-sound
of_kind-sound (kinds.Item items.Dropped) = dropped-sound
of_kind-sound (kinds.Page pages.WriteBegan) = write_began-sound
of_kind-sound (kinds.Page pages.WriteEnded) = write_ended-sound
of_kind-sound (kinds.Page pages.Opened) = opened-sound
of_kind-sound (kinds.Page pages.Ended) = ended-sound
of_kind-sound (kinds.Page pages.Freed) = freed-sound

end_of_words : (ws : List (List ℕ)) (place : ℕ) → Sound (λ _. []) (λ _. Unit {0}) (spaced ws) (no_more ws place)
end_of_words [] place = given (record { is = refl }) tt
end_of_words (w ∷ ws) place = record { holds = λ v l is. absurd (cc is) }

end-sound : IsSound (λ _. []) (λ _. Unit {0}) end_of_line
unfolding end_of_line
end-sound = record { from = λ left. end_of_words left.words left.place }

-- the line without its line feed, with a space before it
abbrev text_of : Entry → List ℕ
text_of entry = word (kind_word entry) ++ entry_rest entry

whole-sound : IsSound text_of IsEntry whole
unfolding whole
whole-sound =
    record {
      from = λ left.
          goes_on kind-sound (at_start left) (λ kind left at _.
          goes_on (of_kind-sound kind) at (λ entry left at is_of.
          goes_on end-sound at (λ _ left at _.
          given
          (begin_as (append-nil (word (kind_text kind) ++ entry_rest entry) ∙ ap (λ (l : List ℕ). word l ++ entry_rest entry) (sym is_of.0)) at)
          is_of.1)));
    }

-- no word is left
record Ends {A : Type 0} (outcome : Outcome A) : Type 0 where
  holds : (value : A) (left : Left) → outcome ≡ Ok (value, left) → left.words ≡ []

ends_after : {A B : Type 0} (outcome : Outcome A) (next : A → Reading B)
    → ((value : A) (left : Left) → Ends (next value left)) → Ends (and_then outcome next)
ends_after (Ok read) next each = each read.0 read.1
ends_after (Err fault) next each = record { holds = λ v l is. absurd (cc is) }

ends_with : (entry : Entry) (ws : List (List ℕ)) (place : ℕ) → Ends (and_then (no_more ws place) (λ _. give entry))
ends_with entry [] place =
    let end : Left = record { words = []; place = place } in
    record { holds = λ v l is. let same : (v, l) ≡ (entry, end) = cc is in ap (λ (read : Entry × Left). read.1.words) same }
ends_with entry (w ∷ ws) place = record { holds = λ v l is. absurd (cc is) }

whole-ends : (left : Left) → Ends (whole left)
unfolding whole end_of_line
whole-ends left =
    ends_after (fields.kind left) _ (λ kind left. ends_after (of_kind kind left) _ (λ entry left. ends_with entry left.words left.place))

value_is : {A : Type 0} (outcome : Outcome A) (value : A) → value_of outcome ≡ Ok value
    → (left : Left) × (outcome ≡ Ok (value, left))
value_is (Ok read) value is = let same : read.0 ≡ value = cc is in (read.1, ap (λ v. Ok (v, read.1)) same)
value_is (Err fault) value is = absurd (cc is)

same_line : (line text : List ℕ) (ws : List (List ℕ)) → 32 ∷ line ≡ (32 ∷ text) ++ spaced ws → ws ≡ [] → text ≡ line
same_line line text ws is none =
    let alone : 32 ∷ line ≡ (32 ∷ text) ++ [] = is ∙ ap (λ (l : List (List ℕ)). (32 ∷ text) ++ spaced l) none in
    let behind : line ≡ text ++ [] = cc alone in
    sym (append-nil text) ∙ sym behind

-- what a line is read as is in range, and has that line
pub spelled_line : (line : List ℕ) (entry : Entry) → reading line ≡ Ok entry
    → (kind_word entry ++ entry_rest entry ≡ line) × IsEntry entry
unfolding reading
spelled_line line entry is =
    let start : Left = record { words = words line; place = 0 } in
    let read = value_is (whole start) entry is in
    let at = (whole-sound.from start).holds entry read.0 read.1 in
    let none = (whole-ends start).holds entry read.0 read.1 in
    (same_line line (kind_word entry ++ entry_rest entry) read.0.words (sym (spaced-words line) ∙ at.0.is) none, at.1)

pub its_line : (entry : Entry) (line : List ℕ) → reading line ≡ Ok entry → entry_line entry ≡ line ++ line_end
its_line entry line is = ap (λ (l : List ℕ). l ++ line_end) (spelled_line line entry is).0

pub is_entry : (line : List ℕ) (entry : Entry) → reading line ≡ Ok entry → IsEntry entry
is_entry line entry is = (spelled_line line entry is).1

-- what a call reads of the words of a line is in range
pub if_entry : (line : List ℕ) (start left : Left) (result : Result Entry EntryFault)
    → start ≡ record { words = words line; place = 0 } → ReadsInMemory (whole start) result left
    → IfOk result IsEntry
unfolding reading
if_entry line start left (Ok entry) begins is =
    is_entry line entry (ap (λ (l : Left). value_of (whole l)) (sym begins) ∙ ap value_of is)
if_entry line start left (Err fault) begins is = tt
