-- Which label each page has, as a journal says it.
use Rattle.std.specs.Prelude.{ℕ, zero, suc, ◌+◌, Bool, false, ◌&&◌, not, nat_eq, List, Option, None, Some, is_none, if◌then◌else◌}
use Rattle.flash_names.specs.declared.place.Label.{Label}
use Rattle.flash_names.specs.declared.geometry.Geometry.{Geometry}
use Rattle.flash_names.specs.Labels.{same_label}
use Rattle.flash_entry.specs.declared.entry.Entry.{Entry}
use Rattle.flash_entry.specs.declared.entry.Entry.TheVariants as entries
use Rattle.flash_machine.specs.Live.{label_has_ended}
use Rattle.flash_machine.specs.ReadOff.{read_off}

abbrev pub label_step : ℕ → Option Label → Entry → Option Label
label_step page label (entries.Opened opened) = if nat_eq opened.page page then Some opened else label
label_step page label (entries.Freed freed) = if nat_eq freed.page page then None else label
label_step page label _ = label

-- the label that a page has from Opened to Freed, whether it has ended or not
abbrev pub page_label : ℕ → List Entry → Option Label
page_label page journal = read_off (label_step page) None journal

abbrev pub version_step : ℕ → Entry → ℕ
version_step last (entries.Opened label) = label.version
version_step last _ = last

-- the version that was given last, 0 before the first
abbrev pub last_version : List Entry → ℕ
last_version journal = read_off version_step 0 journal

-- one where the page has no label
abbrev pub one_if_free : ℕ → List Entry → ℕ
one_if_free page journal = if is_none (page_label page journal) then 1 else 0

-- how many of the first n pages have no label
abbrev pub free_below : ℕ → List Entry → ℕ
free_below zero journal = 0
free_below (suc n) journal = free_below n journal + one_if_free n journal

-- the number of free pages
abbrev pub free_pages : Geometry → List Entry → ℕ
free_pages g journal = free_below g.pages journal

-- whether there is a label, and it is this one
abbrev pub is_label : Label → Option Label → Bool
is_label label None = false
is_label label (Some other) = same_label other label

-- whether the label was opened and has not ended
abbrev pub is_in_use : List Entry → Label → Bool
is_in_use journal label = is_label label (page_label label.page journal) && not (label_has_ended journal (Some label))

-- whether the label has ended and was not freed
abbrev pub is_over : List Entry → Label → Bool
is_over journal label = is_label label (page_label label.page journal) && label_has_ended journal (Some label)
