-- The first rule that is broken, and rules that all hold.
use Rattle.std.proofs.Common.{◌≡◌, ℕ, ◌<◌, Bool, true, false, not, ◌&&◌, List, [], ◌∷◌, Option, None, Some, cond, refl, sym, subst, ◌∙◌, ap, arith}
use Rattle.std.specs.FinMap as map
use Rattle.std.specs.List.{AllByRecursion, list_any}
use Rattle.std.specs.Bool.{IsTrue}
use Rattle.std.specs.Prelude.{nat_eq}
use Rattle.std.specs.Prelude.{Ok}
use Rattle.std.proofs.lemmas.Bool.Decides.{nat_tests}
use Rattle.flash_names.specs.declared.geometry.Geometry.{Geometry}
use Rattle.flash_names.specs.Geometry.{check_result, rules_of, first_broken, result_of_rule}
use Rattle.flash_entry.specs.declared.entry.DropCause.{DropCause}
use Rattle.flash_entry.specs.declared.entry.DropCause.TheVariants as drops
use Rattle.flash_entry.specs.declared.entry.EndCause.TheVariants as ends
use Rattle.flash_entry.specs.declared.entry.Entry.{Entry}
use Rattle.flash_entry.specs.declared.entry.Entry.TheVariants as entries
use Rattle.flash_machine.specs.Item.{Item}
use Rattle.flash_machine.specs.Cache.{Cache}
use Rattle.flash_machine.specs.Rules.{Rule, drop_rules, rules, broken}
use Rattle.flash_machine.specs.Deciding.{HoldsBelow}
use Rattle.flash_machine.specs.Legal.{AllHold}

-- one rule more in front
held : (holds : Bool) (number : ℕ) (rest : Option ℕ) → cond holds rest (Some number) ≡ None → (holds ≡ true) × (rest ≡ None)
held true number rest none = (refl, none)
held false number rest none = absurd (cc none)

pub all_hold : (checked : List Rule) → broken checked ≡ None → AllHold checked
all_hold [] none = tt
all_hold (first ∷ rest) none = let both = held first.holds first.number (broken rest) none in (both.0, all_hold rest both.1)

pub none_broken : (checked : List Rule) → AllHold checked → broken checked ≡ None
none_broken [] all = refl
none_broken (first ∷ rest) all = ap (λ (b : Bool). cond b (broken rest) (Some first.number)) all.0 ∙ none_broken rest all.1

-- rules whose numbers rise
abbrev AreRising : List Rule → Type 0
AreRising [] = Unit {0}
AreRising (first ∷ rest) = AllByRecursion (λ (r : Rule). first.number < r.number) rest × AreRising rest

drops_rise : (g : Geometry) (h : List Entry) (c : Cache) (key : List ℕ) (cause : DropCause) (found : Option Item) → AreRising (drop_rules g h c key cause found)
drops_rise g h c key cause None = (tt, tt)
drops_rise g h c key drops.Dead (Some item) = ((omega arith, tt), (tt, tt))
drops_rise g h c key drops.Evict (Some item) = ((omega arith, tt), (tt, tt))
drops_rise g h c key drops.Ended (Some item) = ((omega arith, tt), (tt, tt))
drops_rise g h c key drops.Damaged (Some item) = ((omega arith, tt), (tt, tt))

rules_rise : (g : Geometry) (h : List Entry) (c : Cache) (e : Entry) → AreRising (rules g h c e)
rules_rise g h c (entries.Did id done) = ((omega arith, tt), (tt, tt))
rules_rise g h c (entries.Looked id key look residence) = ((omega arith, tt), (tt, tt))
rules_rise g h c (entries.Dropped key cause) = drops_rise g h c key cause (map.get c.items key)
rules_rise g h c (entries.Ended label ends.Compacted) = ((omega arith, tt), (tt, tt))
rules_rise g h c (entries.Ended label ends.Evict) = ((omega arith, tt), (tt, tt))
rules_rise g h c (entries.Ended label ends.Fault) = ((omega arith, tt), (tt, tt))
rules_rise g h c _ = (tt, tt)

above_hold : (number : ℕ) (rest : List Rule) → AllByRecursion (λ (r : Rule). number < r.number) rest → AllByRecursion (HoldsBelow number) rest
above_hold number [] above = tt
above_hold number (first ∷ rest) above = (λ below. absurd (omega (arith, below, above.0)), above_hold number rest above.1)

abbrev is_broken_of : ℕ → Rule → Bool
is_broken_of number rule = nat_eq rule.number number && not rule.holds

named : (checked : List Rule) (number : ℕ) → AreRising checked → broken checked ≡ Some number
    → IsTrue (list_any (is_broken_of number) checked) × AllByRecursion (HoldsBelow number) checked
named [] number rise is = absurd (cc is)
named (first ∷ rest) number rise is = by_first first.holds refl is (λ later. named rest number rise.1 later)
  where
    by_first : (b : Bool) → first.holds ≡ b → cond first.holds (broken rest) (Some first.number) ≡ Some number
        → (broken rest ≡ Some number → IsTrue (list_any (is_broken_of number) rest) × AllByRecursion (HoldsBelow number) rest)
        → IsTrue (list_any (is_broken_of number) (first ∷ rest)) × AllByRecursion (HoldsBelow number) (first ∷ rest)
    by_first true holds is later =
        let both = later (sym (ap (λ (b : Bool). cond b (broken rest) (Some first.number)) holds) ∙ is) in
        let any = both.0 in (grind (arith, any), (λ below. holds, both.1))
    by_first false fails is later =
        let one : Some first.number ≡ Some number = sym (ap (λ (b : Bool). cond b (broken rest) (Some first.number)) fails) ∙ is in
        let same : first.number ≡ number = cc one in
        (grind (arith, nat_tests, same, fails), (λ below. absurd (omega (arith, below, same)), subst (λ (n : ℕ). AllByRecursion (HoldsBelow n) rest) same (above_hold first.number rest rise.0)))

pub lowest_named : (g : Geometry) (h : List Entry) (c : Cache) (e : Entry) (number : ℕ) → broken (rules g h c e) ≡ Some number
    → IsTrue (list_any (is_broken_of number) (rules g h c e)) × AllByRecursion (HoldsBelow number) (rules g h c e)
lowest_named g h c e number is = named (rules g h c e) number (rules_rise g h c e) is

abbrev second_of : List Bool → Bool
second_of (first ∷ second ∷ rest) = second
second_of _ = true

second_holds : (checked : List Bool) → result_of_rule (first_broken 1 checked) ≡ Ok tt → second_of checked ≡ true
second_holds [] passes = refl
second_holds (first ∷ []) passes = refl
second_holds (true ∷ true ∷ rest) passes = refl
second_holds (true ∷ false ∷ rest) passes = absurd (cc passes)
second_holds (false ∷ second ∷ rest) passes = absurd (cc passes)

-- a geometry that passes has buffers of some bytes
pub has_buffers : (g : Geometry) → check_result g ≡ Ok tt → 0 < g.buffer_size
unfolding rules_of
has_buffers g passes = let two = second_holds (rules_of g) passes in grind (arith, nat_tests)
