-- Lists of entries of which each fits the journal before it.
use Rattle.std.specs.Prelude.{List, [], ◌∷◌, ◌++◌}
use Rattle.flash_entry.specs.declared.entry.Entry.{Entry}

-- each of these entries fits, after the journal and the entries before it
abbrev pub EachFrom : (List Entry → Entry → Type 0) → List Entry → List Entry → Type 0
EachFrom Fits journal [] = Unit {0}
EachFrom Fits journal (e ∷ es) = Fits journal e × EachFrom Fits (journal ++ e ∷ []) es
