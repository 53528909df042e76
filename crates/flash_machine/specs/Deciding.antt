-- What the checker's answer says of the rules.
use Rattle.std.specs.Prelude.{◌≡◌, ◌↔◌, ◌<◌, ℕ, ◌&&◌, not, nat_eq, List, None, Some, IsTrue}
use Rattle.std.specs.List.{AllByRecursion, list_any}
use Rattle.flash_names.specs.declared.geometry.Geometry.{Geometry}
use Rattle.flash_entry.specs.declared.entry.Entry.{Entry}
use Rattle.flash_machine.specs.Cache.{Cache}
use Rattle.flash_machine.specs.Rules.{Rule, rules, broken}
use Rattle.flash_machine.specs.Legal.{Meets}

-- no rule of the entry is broken exactly where it meets them all
abbrev pub RulesDecide : Type 0
RulesDecide = (g : Geometry) (h : List Entry) (c : Cache) (e : Entry) → (broken (rules g h c e) ≡ None) ↔ Meets g h c e

-- a rule of a lower number holds
abbrev pub HoldsBelow : ℕ → Rule → Type 0
HoldsBelow number rule = rule.number < number → IsTrue rule.holds

-- the rule that is named is one of the entry's and is broken, and each of a lower number holds
abbrev pub TheLowestIsNamed : Type 0
TheLowestIsNamed = (g : Geometry) (h : List Entry) (c : Cache) (e : Entry) (number : ℕ) → broken (rules g h c e) ≡ Some number
    → IsTrue (list_any (λ rule. nat_eq rule.number number && not rule.holds) (rules g h c e))
    × AllByRecursion (HoldsBelow number) (rules g h c e)
