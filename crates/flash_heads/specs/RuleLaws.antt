-- Each rule of the one-thread cache holds over the heads of a cache exactly where it holds over the cache.
use Rattle.std.specs.Prelude.{◌≡◌, ◌↔◌, ℕ, List}
use Rattle.std.specs.List.{AllByRecursion}
use Rattle.flash_names.specs.declared.geometry.Geometry.{Geometry}
use Rattle.flash_entry.specs.declared.entry.Done.{Done}
use Rattle.flash_entry.specs.declared.entry.Residence.{Residence}
use Rattle.flash_entry.specs.declared.entry.Entry.{Entry}
use Rattle.flash_machine.specs.Cache.{Cache}
use Rattle.flash_machine.specs.Rules.{has_step_answer, is_found, rules}
use Rattle.flash_machine.specs.Legal.{Meets, LegalFrom}
use Rattle.flash_heads.specs.Heads.{heads}
use Rattle.flash_heads.specs.EntryLaws.{BringsNoValue}

-- a command's answer is that of its step over the heads exactly where it is that of its step
abbrev pub EachAnswerIsThatOfTheHeads : Type 0
EachAnswerIsThatOfTheHeads =
    (g : Geometry) (h : List Entry) (c : Cache) (done : Done)
    → has_step_answer g h (heads c) done ≡ has_step_answer g h c done

-- what was found is the live item by the heads exactly where it is the live item
abbrev pub EachFindIsThatOfTheHeads : Type 0
EachFindIsThatOfTheHeads =
    (h : List Entry) (c : Cache) (key : List ℕ) (found : Residence)
    → is_found h (heads c) key found ≡ is_found h c key found

-- the rules of each entry, of whatever kind, are the same over the heads
abbrev pub EachRuleIsThatOfTheHeads : Type 0
EachRuleIsThatOfTheHeads =
    (g : Geometry) (h : List Entry) (c : Cache) (e : Entry) → rules g h (heads c) e ≡ rules g h c e

-- an entry meets its rules over the heads exactly where it meets them
abbrev pub EachEntryMeetsAlike : Type 0
EachEntryMeetsAlike =
    (g : Geometry) (h : List Entry) (c : Cache) (e : Entry) → Meets g h (heads c) e ↔ Meets g h c e

-- entries that move no value into memory are legal over the heads exactly where they are legal
abbrev pub EachRunIsLegalAlike : Type 0
EachRunIsLegalAlike =
    (g : Geometry) (h : List Entry) (c : Cache) (es : List Entry) → AllByRecursion BringsNoValue es
    → LegalFrom g h (heads c) es ↔ LegalFrom g h c es
