-- Entries that leave the flash: they change no label, write no block, and move no value.
use Rattle.std.proofs.Common.{◌≡◌, ℕ, Bool, true, false, ◌||◌, List, [], ◌∷◌, ◌++◌, Option, None, Some, refl, ◌∙◌, ap}
use Rattle.std.specs.List.{AllByRecursion, list_any}
use Rattle.std.proofs.lemmas.List.Folds.{list_any-append}
use Rattle.flash_names.specs.declared.place.Label.{Label}
use Rattle.flash_entry.specs.declared.entry.Entry.{Entry}
use Rattle.flash_entry.specs.declared.entry.Entry.TheVariants as entries
use Rattle.flash_machine.specs.Live.{ends, label_has_ended}
use Rattle.flash_machine.specs.PageLabels.{label_step, page_label, version_step, last_version}
use Rattle.flash_machine.specs.ReadOff.{read_off}
use Rattle.flash_machine.proofs.EntrySteps.{read_off-append}
use Rattle.flash_heads.specs.EntryLaws.{MovesNoValue}
use Rattle.flash_calls.specs.Held.{WritesNone, IsUnwritten}

abbrev pub IsQuiet : Entry → Type 0
IsQuiet (entries.Moved key cas label) = ⊥
IsQuiet (entries.Recached key cas) = ⊥
IsQuiet (entries.WriteBegan place) = ⊥
IsQuiet (entries.WriteEnded place outcome) = ⊥
IsQuiet (entries.Opened label) = ⊥
IsQuiet (entries.Ended label cause) = ⊥
IsQuiet (entries.Freed label) = ⊥
IsQuiet _ = Unit {0}

abbrev pub AreQuiet : List Entry → Type 0
AreQuiet es = AllByRecursion IsQuiet es

-- what is true of each element of two lists is true of each of them behind one another
pub all_behind : {A : Type 0} (P : A → Type 0) (xs ys : List A) → AllByRecursion P xs → AllByRecursion P ys → AllByRecursion P (xs ++ ys)
all_behind P [] ys first behind = behind
all_behind P (x ∷ xs) ys first behind = (first.0, all_behind P xs ys first.1 behind)

all_so : (P Q : Entry → Type 0) → ((e : Entry) → P e → Q e) → (es : List Entry) → AllByRecursion P es → AllByRecursion Q es
all_so P Q one [] all = tt
all_so P Q one (e ∷ es) all = (one e all.0, all_so P Q one es all.1)

moves_none : (e : Entry) → IsQuiet e → MovesNoValue e
moves_none (entries.Moved key cas label) quiet = quiet
moves_none (entries.Recached key cas) quiet = quiet
moves_none _ quiet = tt

pub quiet_moves_none : (es : List Entry) → AreQuiet es → AllByRecursion MovesNoValue es
quiet_moves_none = all_so IsQuiet MovesNoValue moves_none

writes_none : (e : Entry) → IsQuiet e → WritesNone e
writes_none (entries.WriteBegan place) quiet = quiet
writes_none (entries.WriteEnded place outcome) quiet = quiet
writes_none _ quiet = tt

pub unwritten_behind : (h es : List Entry) → IsUnwritten h → AreQuiet es → IsUnwritten (h ++ es)
unwritten_behind h es unwritten quiet = all_behind WritesNone h es unwritten (all_so IsQuiet WritesNone writes_none es quiet)

-- entries that change no label
abbrev pub LeavesLabels : Entry → Type 0
LeavesLabels (entries.Opened label) = ⊥
LeavesLabels (entries.Ended label cause) = ⊥
LeavesLabels (entries.Freed label) = ⊥
LeavesLabels _ = Unit {0}

abbrev pub AllLeaveLabels : List Entry → Type 0
AllLeaveLabels es = AllByRecursion LeavesLabels es

leaves_labels : (e : Entry) → IsQuiet e → LeavesLabels e
leaves_labels (entries.Opened label) quiet = quiet
leaves_labels (entries.Ended label cause) quiet = quiet
leaves_labels (entries.Freed label) quiet = quiet
leaves_labels _ quiet = tt

pub quiet_leaves_labels : (es : List Entry) → AreQuiet es → AllLeaveLabels es
quiet_leaves_labels = all_so IsQuiet LeavesLabels leaves_labels

-- the labels of pages
label_kept : (page : ℕ) (label : Option Label) (es : List Entry) → AllLeaveLabels es → read_off (label_step page) label es ≡ label
label_kept page label [] quiet = refl
label_kept page label (entries.Opened opened ∷ es) quiet = absurd quiet.0
label_kept page label (entries.Freed freed ∷ es) quiet = absurd quiet.0
label_kept page label (_ ∷ es) quiet = label_kept page label es quiet.1

version_kept : (last : ℕ) (es : List Entry) → AllLeaveLabels es → read_off version_step last es ≡ last
version_kept last [] quiet = refl
version_kept last (entries.Opened opened ∷ es) quiet = absurd quiet.0
version_kept last (_ ∷ es) quiet = version_kept last es quiet.1

none_ends : (label : Label) (es : List Entry) → AllLeaveLabels es → list_any (ends label) es ≡ false
none_ends label [] quiet = refl
none_ends label (entries.Ended ended cause ∷ es) quiet = absurd quiet.0
none_ends label (_ ∷ es) quiet = none_ends label es quiet.1

or_none : (b : Bool) → (b || false) ≡ b
or_none true = refl
or_none false = refl

module _ (h es : List Entry) (quiet : AllLeaveLabels es) where
  pub same_label_of : (page : ℕ) → page_label page (h ++ es) ≡ page_label page h
  same_label_of page = read_off-append (label_step page) None h es ∙ label_kept page (page_label page h) es quiet

  pub same_last : last_version (h ++ es) ≡ last_version h
  same_last = read_off-append version_step 0 h es ∙ version_kept (last_version h) es quiet

  pub same_ended : (label : Option Label) → label_has_ended (h ++ es) label ≡ label_has_ended h label
  same_ended None = refl
  same_ended (Some label) =
      list_any-append (ends label) h es ∙ ap (λ (b : Bool). list_any (ends label) h || b) (none_ends label es quiet) ∙ or_none (list_any (ends label) h)
