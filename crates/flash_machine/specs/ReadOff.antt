-- What is read off a journal: a state that each entry steps on.
use Rattle.std.specs.Prelude.{List, [], ◌∷◌}
use Rattle.flash_entry.specs.declared.entry.Entry.{Entry}

-- the state after the entries, the first one first
abbrev pub read_off : {S : Type 0} → (S → Entry → S) → S → List Entry → S
read_off step state [] = state
read_off step state (e ∷ es) = read_off step (step state e) es
