-- The tests of the rules of pages, reads and writes pass exactly where their facts hold.
use Rattle.std.proofs.Common.{◌≡◌, ◌⊎◌, ℕ, ◌+◌, ◌%◌, Bool, true, false, ◌&&◌, List, length, Option, None, Some, inl, inr, refl, ◌∙◌, ap}
use Rattle.std.specs.Prelude.{nat_eq, nat_le, nat_lt, is_none}
use Rattle.std.proofs.lemmas.Bool.{false≢true, and_parts, and_from, not-true, not_from_false, eqb-true, eq-eqb, leb-true, le-leb, ltb-true, lt-ltb}
use Rattle.flash_names.specs.declared.place.Id.{Id}
use Rattle.flash_names.specs.declared.place.Label.{Label}
use Rattle.flash_names.specs.declared.place.Place.{Place}
use Rattle.flash_names.specs.declared.geometry.Geometry.{Geometry}
use Rattle.flash_entry.specs.declared.entry.Entry.{Entry}
use Rattle.flash_machine.specs.Live.{label_has_ended}
use Rattle.flash_machine.specs.PageLabels.{page_label, last_version, is_label, is_in_use, is_over}
use Rattle.flash_machine.specs.Storing.{last_number}
use Rattle.flash_machine.specs.Writes.{open_write}
use Rattle.flash_machine.specs.DeviceReads.{DeviceRead, read_of}
use Rattle.flash_machine.specs.Rules.{has_length, is_open_read, may_be_read, may_read_end, is_block, is_none_or, may_write_begin, is_place, may_write_end, may_be_opened}
use Rattle.flash_machine.specs.RuleFacts.{IsInUse, IsOver, IsNextLabel, MayWrite, HasLength, MayEndWrite, MayRead, MayEndRead}
use Rattle.flash_machine.proofs.Same.{label_itself, place_itself, equal_labels, equal_places}

pub none_there : {A : Type 0} (found : Option A) → is_none found ≡ true → found ≡ None
none_there None is = refl
none_there (Some x) is = absurd (cc is)

pub that_label : (label : Label) (found : Option Label) → is_label label found ≡ true → found ≡ Some label
that_label label None is = absurd (cc is)
that_label label (Some other) is = ap (λ (l : Label). Some l) (equal_labels other label is)

is_that_label : (label : Label) (found : Option Label) → found ≡ Some label → is_label label found ≡ true
is_that_label label found is = ap (is_label label) is ∙ label_itself label

pub that_place : (place : Place) (found : Option Place) → is_place place found ≡ true → found ≡ Some place
that_place place None is = absurd (cc is)
that_place place (Some other) is = ap (λ (p : Place). Some p) (equal_places other place is)

-- labels in use, and labels that are over
pub in_use : (h : List Entry) (label : Label) → is_in_use h label ≡ true → IsInUse h label
in_use h label is =
    let parts = and_parts (is_label label (page_label label.page h)) _ is in
    record { has = that_label label (page_label label.page h) parts.0; unended = not-true (label_has_ended h (Some label)) parts.1 }

pub passes_in_use : (h : List Entry) (label : Label) → IsInUse h label → is_in_use h label ≡ true
passes_in_use h label uses = and_from _ _ (is_that_label label (page_label label.page h) uses.has) (not_from_false (label_has_ended h (Some label)) uses.unended)

pub over : (h : List Entry) (label : Label) → is_over h label ≡ true → IsOver h label
over h label is =
    let parts = and_parts (is_label label (page_label label.page h)) _ is in
    record { has = that_label label (page_label label.page h) parts.0; ended = parts.1 }

pub passes_over : (h : List Entry) (label : Label) → IsOver h label → is_over h label ≡ true
passes_over h label over_is = and_from _ _ (is_that_label label (page_label label.page h) over_is.has) over_is.ended

-- four tests in a row
four_parts : (a b c d : Bool) → (a && b && c && d) ≡ true → (a ≡ true) × (b ≡ true) × (c ≡ true) × (d ≡ true)
four_parts true true true true is = (refl, refl, refl, refl)
four_parts false b c d is = absurd (false≢true is)
four_parts true false c d is = absurd (false≢true is)
four_parts true true false d is = absurd (false≢true is)
four_parts true true true false is = absurd (false≢true is)

four_from : (a b c d : Bool) → a ≡ true → b ≡ true → c ≡ true → d ≡ true → (a && b && c && d) ≡ true
four_from a b c d one two three four = and_from (a && b && c) d (and_from (a && b) c (and_from a b one two) three) four

-- a label that is opened
pub next_label : (g : Geometry) (h : List Entry) (label : Label) → may_be_opened g h label ≡ true → IsNextLabel g h label
next_label g h label may =
    let parts = four_parts (nat_eq label.version (last_version h + 1)) (nat_le label.version last_number) (nat_lt label.page g.pages) (is_none (page_label label.page h)) may in
    record {
      version = eqb-true label.version (last_version h + 1) parts.0;
      within = leb-true label.version last_number parts.1;
      page = ltb-true label.page g.pages parts.2;
      free = none_there (page_label label.page h) parts.3;
    }

pub passes_next_label : (g : Geometry) (h : List Entry) (label : Label) → IsNextLabel g h label → may_be_opened g h label ≡ true
passes_next_label g h label next =
    four_from (nat_eq label.version (last_version h + 1)) (nat_le label.version last_number) (nat_lt label.page g.pages) (is_none (page_label label.page h))
    (eq-eqb label.version (last_version h + 1) next.version) (le-leb label.version last_number next.within) (lt-ltb label.page g.pages next.page) (ap is_none next.free)

-- a write that begins
alone : (place : Place) (found : Option Place) → is_none_or place found ≡ true → (found ≡ None) ⊎ (found ≡ Some place)
alone place None is = inl refl
alone place (Some other) is = inr (ap (λ (p : Place). Some p) (equal_places other place is))

passes_alone : (place : Place) (found : Option Place) → (found ≡ None) ⊎ (found ≡ Some place) → is_none_or place found ≡ true
passes_alone place found (inl none) = ap (is_none_or place) none
passes_alone place found (inr that) = ap (is_none_or place) that ∙ place_itself place

pub may_write : (g : Geometry) (h : List Entry) (place : Place) → may_write_begin g h place ≡ true → MayWrite g h place
may_write g h place may =
    let both = and_parts (is_in_use h place.label && is_block g place) (is_none_or place (open_write h)) may in
    let first = and_parts (is_in_use h place.label) (is_block g place) both.0 in
    let two = and_parts (nat_eq place.length g.buffer_size && nat_eq (place.offset % g.buffer_size) 0) (nat_le (place.offset + place.length) g.page_size) first.1 in
    let one = and_parts (nat_eq place.length g.buffer_size) (nat_eq (place.offset % g.buffer_size) 0) two.0 in
    record {
      label = in_use h place.label first.0;
      long = eqb-true place.length g.buffer_size one.0;
      block = eqb-true (place.offset % g.buffer_size) 0 one.1;
      inside = leb-true (place.offset + place.length) g.page_size two.1;
      alone = alone place (open_write h) both.1;
    }

pub passes_may_write : (g : Geometry) (h : List Entry) (place : Place) → MayWrite g h place → may_write_begin g h place ≡ true
passes_may_write g h place may =
    let long = eq-eqb place.length g.buffer_size may.long in
    let block = eq-eqb (place.offset % g.buffer_size) 0 may.block in
    let inside = le-leb (place.offset + place.length) g.page_size may.inside in
    and_from _ _ (and_from _ _ (passes_in_use h place.label may.label) (and_from _ _ (and_from _ _ long block) inside)) (passes_alone place (open_write h) may.alone)

-- the length of an outcome
long_enough : (n : ℕ) (outcome : Option (List ℕ)) → has_length n outcome ≡ true → HasLength n outcome
long_enough n None is = tt
long_enough n (Some bytes) is = eqb-true (length bytes) n is

passes_length : (n : ℕ) (outcome : Option (List ℕ)) → HasLength n outcome → has_length n outcome ≡ true
passes_length n None long = refl
passes_length n (Some bytes) long = eq-eqb (length bytes) n long

-- a write that ends
pub may_end_write : (h : List Entry) (place : Place) (outcome : Option (List ℕ)) → may_write_end h place outcome ≡ true → MayEndWrite h place outcome
may_end_write h place outcome may =
    let parts = and_parts (is_place place (open_write h)) (has_length place.length outcome) may in
    record { write = that_place place (open_write h) parts.0; long = long_enough place.length outcome parts.1 }

pub passes_may_end_write : (h : List Entry) (place : Place) (outcome : Option (List ℕ)) → MayEndWrite h place outcome → may_write_end h place outcome ≡ true
passes_may_end_write h place outcome may =
    let that = ap (is_place place) may.write ∙ place_itself place in
    and_from _ _ that (passes_length place.length outcome may.long)

-- a read that begins
pub may_read : (h : List Entry) (id : Id) (place : Place) → may_be_read h id place ≡ true → MayRead h id place
may_read h id place may =
    let parts = and_parts (is_in_use h place.label) (is_none (read_of id h)) may in
    record { label = in_use h place.label parts.0; first = none_there (read_of id h) parts.1 }

pub passes_may_read : (h : List Entry) (id : Id) (place : Place) → MayRead h id place → may_be_read h id place ≡ true
passes_may_read h id place may = and_from _ _ (passes_in_use h place.label may.label) (ap is_none may.first)

-- a read that ends
open_read : (outcome : Option (List ℕ)) (found : Option DeviceRead) → is_open_read outcome found ≡ true
    → (place : Place) × (found ≡ Some (record { place = place; outcome = None })) × HasLength place.length outcome
open_read outcome None is = absurd (false≢true is)
open_read outcome (Some read) is =
    let parts = and_parts (is_none read.outcome) (has_length read.place.length outcome) is in
    (read.place, ap (λ (o : Option (Option (List ℕ))). Some (record { place = read.place; outcome = o })) (none_there read.outcome parts.0), long_enough read.place.length outcome parts.1)

pub may_end_read : (h : List Entry) (id : Id) (outcome : Option (List ℕ)) → may_read_end h id outcome ≡ true → MayEndRead h id outcome
may_end_read h id outcome may = open_read outcome (read_of id h) may

pub passes_may_end_read : (h : List Entry) (id : Id) (outcome : Option (List ℕ)) → MayEndRead h id outcome → may_read_end h id outcome ≡ true
passes_may_end_read h id outcome may = ap (is_open_read outcome) may.1 ∙ passes_length may.0.length outcome may.2
