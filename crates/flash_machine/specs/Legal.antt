-- Which journals are runs of the one-thread cache.
use Rattle.std.specs.Prelude.{List, [], ◌∷◌, ◌++◌, IsTrue}
use Rattle.std.specs.List.{AllByRecursion}
use Rattle.flash_names.specs.declared.geometry.Geometry.{Geometry}
use Rattle.flash_entry.specs.declared.entry.Entry.{Entry}
use Rattle.flash_machine.specs.Cache.{Cache, first_cache}
use Rattle.flash_machine.specs.Steps.{next}
use Rattle.flash_machine.specs.Rules.{Rule, rules}

-- every rule holds
abbrev pub AllHold : List Rule → Type 0
AllHold checked = AllByRecursion (λ rule. IsTrue rule.holds) checked

-- the entry meets the rules of its kind, over the journal and the cache before it
abbrev pub Meets : Geometry → List Entry → Cache → Entry → Type 0
Meets g journal c e = AllHold (rules g journal c e)

-- each of these entries, noted after the journal, meets its rules
abbrev pub LegalFrom : Geometry → List Entry → Cache → List Entry → Type 0
LegalFrom g journal c [] = Unit {0}
LegalFrom g journal c (e ∷ es) = Meets g journal c e × LegalFrom g (journal ++ e ∷ []) (next g journal c e) es

-- the journal is a run of the one-thread cache
abbrev pub Legal : Geometry → List Entry → Type 0
Legal g journal = LegalFrom g [] first_cache journal
