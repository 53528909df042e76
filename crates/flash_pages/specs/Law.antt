-- What any list of calls keeps: pins, and the labels that they give.
use Rattle.std.specs.Prelude.{◌≡◌, ℕ, ◌+◌, ◌<◌, Bool, false, not, ◌&&◌, nat_eq, List, [], ◌∷◌, ◌++◌, if◌then◌else◌}
use Rattle.flash_names.specs.declared.place.Label.{Label}
use Rattle.flash_names.specs.CallLists.{state_after, AreAllowed}
use Rattle.flash_names.specs.Labels.{same_label}
use Rattle.flash_pages.specs.declared.page_row.PageRow.{PageRow}
use Rattle.flash_pages.specs.declared.pages.Opened.{Opened}
use Rattle.flash_pages.specs.declared.pages.Opened.TheVariants.{Page, NoPage}
use Rattle.flash_pages.specs.States.{is_free}
use Rattle.flash_pages.specs.PageTable.{PageTable, row_of}
use Rattle.flash_pages.specs.Opening.{next_opening}
use Rattle.flash_pages.specs.Calls.{Call, opens, pins, unpins, adds_live, takes_live, fills, ends, frees, compacts, compacts_none, spares, Allowed, table_after}

-- each of the calls may be made when it comes
abbrev pub AllAllowed : PageTable → List Call → Type 0
AllAllowed t calls = AreAllowed Allowed table_after t calls

-- the pages after the calls, the first one first
abbrev pub after_all : List Call → PageTable → PageTable
after_all calls t = state_after table_after calls t

-- the label of a page that is opened, if there is one
abbrev pub label_of : Opened → List Label
label_of NoPage = []
label_of (Page label) = label ∷ []

-- the label that a call gives, if it gives one
abbrev pub label_given : PageTable → Call → List Label
label_given t (opens bucket) = label_of (next_opening t bucket)
label_given t (pins label) = []
label_given t (unpins label) = []
label_given t (adds_live label bytes) = []
label_given t (takes_live label bytes) = []
label_given t (fills label) = []
label_given t (ends label) = []
label_given t (frees label) = []
label_given t (compacts label) = []
label_given t compacts_none = []
label_given t (spares label) = []

-- the labels that the calls give, in their order
abbrev pub labels_given : PageTable → List Call → List Label
labels_given t [] = []
labels_given t (call ∷ rest) = label_given t call ++ labels_given (table_after call t) rest

-- the versions rise, the first above n
abbrev pub Rise : ℕ → List Label → Type 0
Rise n [] = Unit {0}
Rise n (label ∷ rest) = (n < label.version) × Rise label.version rest

-- the page has this version and isn't Free
abbrev pub has_version : PageRow → ℕ → Bool
has_version row version = nat_eq row.version version && not (is_free row.state)

-- the pins of a label: those of its page, while it has the label's version and isn't Free
abbrev pub pins_on : PageRow → ℕ → ℕ
pins_on row version = if has_version row version then row.pins else 0

-- the pins of a label in these pages
abbrev pub pins_of : PageTable → Label → ℕ
pins_of t label = pins_on (row_of t label) label.version

-- one where the call takes a pin from the label's page
abbrev pub pins_taken : Label → Call → ℕ
pins_taken label (opens bucket) = 0
pins_taken label (pins other) = 0
pins_taken label (unpins other) = if same_label other label then 1 else 0
pins_taken label (adds_live other bytes) = 0
pins_taken label (takes_live other bytes) = 0
pins_taken label (fills other) = 0
pins_taken label (ends other) = 0
pins_taken label (frees other) = 0
pins_taken label (compacts other) = 0
pins_taken label compacts_none = 0
pins_taken label (spares other) = 0

-- how many pins the calls take from the label's page
abbrev pub all_pins_taken : Label → List Call → ℕ
all_pins_taken label [] = 0
all_pins_taken label (call ∷ rest) = pins_taken label call + all_pins_taken label rest

-- the label's page has its version still, and wasn't freed
pub record IsKept (t : PageTable) (label : Label) : Type 0 where
  pub version : (row_of t label).version ≡ label.version
  pub kept : is_free (row_of t label).state ≡ false
