-- What any list of calls keeps: the records that are read, the job that is out, and the order of the queue.
use Rattle.std.specs.Prelude.{◌≡◌, ℕ, ◌^◌, ◌<◌, ◌≤◌, ◌⊎◌, false, List, [], ◌∷◌, ◌++◌, length, take}
use Rattle.flash_names.specs.declared.place.Place.{Place}
use Rattle.flash_names.specs.CallLists.{state_after, AreAllowed}
use Rattle.flash_names.specs.Labels.{same_label}
use Rattle.flash_buffers.specs.Covering.{covers}
use Rattle.flash_buffers.specs.BufferTable.{BufferTable, oldest_block}
use Rattle.flash_buffers.specs.Calls.{Call, takes, appends, seals, begins, writes, unwrites, drops, Allowed, table_after}

-- each of the calls may be made when it comes
abbrev pub AllAllowed : BufferTable → List Call → Type 0
AllAllowed t calls = AreAllowed Allowed table_after t calls

-- the buffers after the calls, the first one first
abbrev pub after_all : List Call → BufferTable → BufferTable
after_all calls t = state_after table_after calls t

-- the call neither says that the block of this place was written nor drops the place's label
abbrev pub Leaves : BufferTable → Place → Call → Type 0
Leaves t place (takes label offset) = Unit {0}
Leaves t place (appends number key flags cas value) = Unit {0}
Leaves t place (seals number) = Unit {0}
Leaves t place begins = Unit {0}
Leaves t place (writes job) = covers t.size place (oldest_block t) ≡ false
Leaves t place (unwrites job) = Unit {0}
Leaves t place (drops label) = same_label place.label label ≡ false

-- none of the calls does
abbrev pub AllLeave : BufferTable → Place → List Call → Type 0
AllLeave t place [] = Unit {0}
AllLeave t place (call ∷ rest) = Leaves t place call × AllLeave (table_after call t) place rest

-- the call doesn't give the job back
abbrev pub KeepsJob : Call → Type 0
KeepsJob (takes label offset) = Unit {0}
KeepsJob (appends number key flags cas value) = Unit {0}
KeepsJob (seals number) = Unit {0}
KeepsJob begins = Unit {0}
KeepsJob (writes job) = ⊥
KeepsJob (unwrites job) = ⊥
KeepsJob (drops label) = Unit {0}

-- none of the calls does
abbrev pub NoneGivesBack : List Call → Type 0
NoneGivesBack [] = Unit {0}
NoneGivesBack (call ∷ rest) = KeepsJob call × NoneGivesBack rest

-- the call drops no label
abbrev pub DropsNone : Call → Type 0
DropsNone (takes label offset) = Unit {0}
DropsNone (appends number key flags cas value) = Unit {0}
DropsNone (seals number) = Unit {0}
DropsNone begins = Unit {0}
DropsNone (writes job) = Unit {0}
DropsNone (unwrites job) = Unit {0}
DropsNone (drops label) = ⊥

-- none of the calls does
abbrev pub AllDropNone : List Call → Type 0
AllDropNone [] = Unit {0}
AllDropNone (call ∷ rest) = DropsNone call × AllDropNone rest

-- the number of the buffer that the call seals
abbrev pub seals_of : Call → List ℕ
seals_of (takes label offset) = []
seals_of (appends number key flags cas value) = []
seals_of (seals number) = number ∷ []
seals_of begins = []
seals_of (writes job) = []
seals_of (unwrites job) = []
seals_of (drops label) = []

-- the number of the buffer that the call says was written
abbrev pub writes_of : BufferTable → Call → List ℕ
writes_of t (takes label offset) = []
writes_of t (appends number key flags cas value) = []
writes_of t (seals number) = []
writes_of t begins = []
writes_of t (writes job) = take 1 t.queue
writes_of t (unwrites job) = []
writes_of t (drops label) = []

-- the numbers of the buffers that all the calls seal, in their order
abbrev pub all_seals : List Call → List ℕ
all_seals [] = []
all_seals (call ∷ rest) = seals_of call ++ all_seals rest

-- the numbers of the buffers that all the calls say were written, in their order
abbrev pub all_writes : BufferTable → List Call → List ℕ
all_writes t [] = []
all_writes t (call ∷ rest) = writes_of t call ++ all_writes (table_after call t) rest

-- the call's numbers have the widths of their types, and its key is one
abbrev pub HasWidths : Call → Type 0
HasWidths (takes label offset) = label.version < 2 ^ 64
HasWidths (appends number key flags cas value) =
    ((1 ≤ length key) × (length key ≤ 250)) × (flags < 2 ^ 32) × (cas < 2 ^ 64)
HasWidths (seals number) = Unit {0}
HasWidths begins = Unit {0}
HasWidths (writes job) = Unit {0}
HasWidths (unwrites job) = Unit {0}
HasWidths (drops label) = Unit {0}

-- each of the calls does
abbrev pub AllHaveWidths : List Call → Type 0
AllHaveWidths [] = Unit {0}
AllHaveWidths (call ∷ rest) = HasWidths call × AllHaveWidths rest

-- the second list with some of its numbers left out is the first
abbrev pub IsPartOf : List ℕ → List ℕ → Type 0
IsPartOf [] all = Unit {0}
IsPartOf (number ∷ rest) [] = ⊥
IsPartOf (number ∷ rest) (next ∷ all) = ((number ≡ next) × IsPartOf rest all) ⊎ IsPartOf (number ∷ rest) all
