-- An entry is read back.
use Rattle.std.proofs.Common.{◌≡◌, ℕ, ◌+◌, List, [], ◌∷◌, ◌++◌, length, None, Some, Ok, codes, refl, sym, ◌∙◌, ap, append_assoc, append-nil}
use Rattle.std.proofs.lemmas.List.{append_cancel_right}
use Rattle.flash_names.specs.Words.{words}
use Rattle.flash_entry.specs.declared.entry.Residence.{Residence}
use Rattle.flash_entry.specs.declared.entry.Residence.TheVariants as residences
use Rattle.flash_entry.specs.declared.entry.Close.{Close}
use Rattle.flash_entry.specs.declared.entry.Close.TheVariants as closes
use Rattle.flash_entry.specs.declared.entry.Entry.{Entry}
use Rattle.flash_entry.specs.declared.entry.Entry.TheVariants as entries
use Rattle.flash_entry.specs.declared.kinds.Kind.{Kind}
use Rattle.flash_entry.specs.declared.kinds.Kind.TheVariants as kinds
use Rattle.flash_entry.specs.declared.kinds.StepKind.TheVariants as steps
use Rattle.flash_entry.specs.declared.kinds.LookupKind.TheVariants as lookups
use Rattle.flash_entry.specs.declared.kinds.ItemKind.TheVariants as items
use Rattle.flash_entry.specs.declared.kinds.PageKind.TheVariants as pages
use Rattle.flash_entry.specs.Text.{number, line_end}
use Rattle.flash_entry.specs.EntryText.{residence_text, close_text, kind_word, entry_rest}
use Rattle.flash_entry.specs.Readings.{next_word, end_of_line}
use Rattle.flash_entry.specs.FixedWords as fixed
use Rattle.flash_entry.specs.FieldReading as fields
use Rattle.flash_entry.specs.EntryLaws.{EachEntryIsReadBack}
use Rattle.flash_entry.specs.EntryReading.{residence_of, residence, hit, lost, close_of, close, clock, did, looked, buffered, read_began, read_ended, closed, moved, recached, dropped, write_began, write_ended, opened, ended, freed, of_step, of_lookup, of_item, of_page, of_kind, whole, value_of, reading}
use Rattle.flash_entry.specs.IsEntry.{IsResidence, IsClose, IsEntry}
use Rattle.flash_entry.proofs.FixedLemmas.{no_space, kind_text, kind-word, kind-back as kind_word-back}
use Rattle.flash_entry.proofs.Sound.{spaced}
use Rattle.flash_entry.proofs.Back.{ReadsBack, AreWords, left_at, also, nothing, in_order, as_text, next_word-back, words-spaced}
use Rattle.flash_entry.proofs.BackFields.{number-back, narrow-back, signed_if-back, number_or_none-back, narrow_or_here-back, key-back, value-back, bytes_or_failed-back, equality-back, wanted-back, cause-back, drop_cause-back, end_cause-back, id-back, label-back, place-back}
use Rattle.flash_entry.proofs.BackSteps.{step-back}

residence-back : (at : Residence) → IsResidence at → ReadsBack residence (residence_text at) at
unfolding residence residence_of
residence-back residences.Nothing is = in_order (also _ (number_or_none-back None tt) nothing)
residence-back (residences.Here cas) is =
    in_order (also _ (number_or_none-back (Some cas) is) (also _ (narrow_or_here-back None tt) nothing))
residence-back (residences.Away cas label) is =
    as_text (append_assoc (number cas) (number label.page) (number label.version))
    (in_order
    (also _ (number_or_none-back (Some cas) is.0)
    (also _ (narrow_or_here-back (Some label.page) is.1.page)
    (also _ (number-back label.version is.1.version) nothing))))

close-back : (how : Close) → IsClose how → ReadsBack close (close_text how) how
unfolding close close_of hit lost
close-back (closes.Hit flags cas value) is =
    in_order
    (also _ (next_word-back (codes "hit") (no_space (codes "hit") refl))
    (also _ (narrow-back flags is.0)
    (also _ (number-back cas is.1)
    (also _ (value-back value is.2) nothing))))
close-back (closes.Lost cause) is =
    in_order (also _ (next_word-back (codes "lost") (no_space (codes "lost") refl)) (also _ (cause-back cause) nothing))

-- the kind of an entry
abbrev kind_of : Entry → Kind
kind_of (entries.Clock _) = kinds.Step steps.Clock
kind_of (entries.Did _ _) = kinds.Step steps.Did
kind_of (entries.Looked _ _ _ _) = kinds.Lookup lookups.Looked
kind_of (entries.FromBuffer _ _) = kinds.Lookup lookups.FromBuffer
kind_of (entries.ReadBegan _ _ _) = kinds.Lookup lookups.ReadBegan
kind_of (entries.ReadEnded _ _) = kinds.Lookup lookups.ReadEnded
kind_of (entries.Closed _ _) = kinds.Lookup lookups.Closed
kind_of (entries.Moved _ _ _) = kinds.Item items.Moved
kind_of (entries.Recached _ _) = kinds.Item items.Recached
kind_of (entries.Dropped _ _) = kinds.Item items.Dropped
kind_of (entries.WriteBegan _) = kinds.Page pages.WriteBegan
kind_of (entries.WriteEnded _ _) = kinds.Page pages.WriteEnded
kind_of (entries.Opened _) = kinds.Page pages.Opened
kind_of (entries.Ended _ _) = kinds.Page pages.Ended
kind_of (entries.Freed _) = kinds.Page pages.Freed

entry-back : (entry : Entry) → IsEntry entry → ReadsBack (of_kind (kind_of entry)) (entry_rest entry) entry
unfolding of_kind of_step of_lookup of_item of_page clock did looked buffered read_began read_ended closed moved recached dropped write_began write_ended opened ended freed
entry-back (entries.Clock moment) is = in_order (also _ (number-back moment is) nothing)
entry-back (entries.Did id done) is = in_order (also _ (id-back id is.0) (also _ (step-back done is.1) nothing))
entry-back (entries.Looked id key look at) is =
    in_order
    (also _ (id-back id is.0)
    (also _ (key-back key is.1)
    (also _ (wanted-back look.value)
    (also _ (signed_if-back look.renew is.2)
    (also _ equality-back
    (also _ (residence-back at is.3) nothing))))))
entry-back (entries.FromBuffer id place) is =
    in_order (also _ (id-back id is.0) (also _ (place-back place is.1) nothing))
entry-back (entries.ReadBegan id place reader) is =
    in_order (also _ (id-back id is.0) (also _ (place-back place is.1) (also _ (narrow-back reader is.2) nothing)))
entry-back (entries.ReadEnded id bytes) is =
    in_order (also _ (id-back id is.0) (also _ (bytes_or_failed-back bytes is.1) nothing))
entry-back (entries.Closed id how) is = in_order (also _ (id-back id is.0) (also _ (close-back how is.1) nothing))
entry-back (entries.Moved key cas label) is =
    in_order (also _ (key-back key is.0) (also _ (number-back cas is.1) (also _ (label-back label is.2) nothing)))
entry-back (entries.Recached key cas) is =
    in_order (also _ (key-back key is.0) (also _ (number-back cas is.1) nothing))
entry-back (entries.Dropped key cause) is =
    in_order (also _ (key-back key is) (also _ (drop_cause-back cause) nothing))
entry-back (entries.WriteBegan place) is = in_order (also _ (place-back place is) nothing)
entry-back (entries.WriteEnded place bytes) is =
    in_order (also _ (place-back place is.0) (also _ (bytes_or_failed-back bytes is.1) nothing))
entry-back (entries.Opened label) is = in_order (also _ (label-back label is) nothing)
entry-back (entries.Ended label cause) is =
    in_order (also _ (label-back label is) (also _ (end_cause-back cause) nothing))
entry-back (entries.Freed label) is = in_order (also _ (label-back label is) nothing)

kind_word-of : (entry : Entry) → kind_word entry ≡ kind_text (kind_of entry)
kind_word-of (entries.Clock _) = refl
kind_word-of (entries.Did _ _) = refl
kind_word-of (entries.Looked _ _ _ _) = refl
kind_word-of (entries.FromBuffer _ _) = refl
kind_word-of (entries.ReadBegan _ _ _) = refl
kind_word-of (entries.ReadEnded _ _) = refl
kind_word-of (entries.Closed _ _) = refl
kind_word-of (entries.Moved _ _ _) = refl
kind_word-of (entries.Recached _ _) = refl
kind_word-of (entries.Dropped _ _) = refl
kind_word-of (entries.WriteBegan _) = refl
kind_word-of (entries.WriteEnded _ _) = refl
kind_word-of (entries.Opened _) = refl
kind_word-of (entries.Ended _ _) = refl
kind_word-of (entries.Freed _) = refl

whole-back : (entry : Entry) (w : List ℕ) (ws : List (List ℕ)) (place : ℕ) → fixed.kind w ≡ Some (kind_of entry)
    → of_kind (kind_of entry) (left_at (ws ++ []) 1) ≡ Ok (entry, left_at [] place)
    → value_of (whole (left_at (w ∷ ws) 0)) ≡ Ok entry
unfolding whole fields.kind next_word end_of_line
whole-back entry w ws place is_kind is_entry =
    let read : of_kind (kind_of entry) (left_at ws 1) ≡ Ok (entry, left_at [] place) = ap (λ (l : List (List ℕ)). of_kind (kind_of entry) (left_at l 1)) (sym (append-nil ws)) ∙ is_entry in
    rw (is_kind, read) refl

words-entry : (entry : Entry) (ws : List (List ℕ)) → entry_rest entry ≡ spaced ws → AreWords ws
    → words (kind_word entry ++ entry_rest entry) ≡ kind_text (kind_of entry) ∷ ws
words-entry entry ws spelled one =
    ap (λ (l : List ℕ). words (l ++ entry_rest entry)) (kind_word-of entry) ∙ ap (λ (l : List ℕ). words (kind_text (kind_of entry) ++ l)) spelled
    ∙ words-spaced (kind_text (kind_of entry)) ws (kind-word (kind_of entry)) one

read_text : (entry : Entry) → IsEntry entry → reading (kind_word entry ++ entry_rest entry) ≡ Ok entry
unfolding reading
read_text entry is =
    let back = entry-back entry is in
    ap (λ (l : List (List ℕ)). value_of (whole (left_at l 0))) (words-entry entry back.words back.spelled back.one)
    ∙ whole-back entry (kind_text (kind_of entry)) back.words (1 + length back.words)
    (kind_word-back (kind_of entry)) (back.read [] 1)

pub entry_read_back : EachEntryIsReadBack
entry_read_back entry line is same =
    ap reading (sym (append_cancel_right (kind_word entry ++ entry_rest entry) line line_end same)) ∙ read_text entry is
