-- How the entries that a store notes meet their rules.
use Rattle.std.proofs.Common.{◌≡◌, ℕ, ◌^◌, ◌<◌, ◌≤◌, Bool, true, false, List, [], ◌∷◌, Option, None, Some, refl, sym, subst, arith}
use Rattle.std.specs.Prelude.{nat_eq}
use Rattle.std.specs.Bool.{IsTrue}
use Rattle.std.specs.List.{AllByRecursion, list_any}
use Rattle.std.specs.FinMap as map
use Rattle.std.proofs.lemmas.Bool.Decides.{nat_tests}
use Rattle.flash_names.specs.declared.place.Id.{Id}
use Rattle.flash_names.specs.declared.geometry.Geometry.{Geometry}
use Rattle.flash_entry.specs.declared.ask.Put.{Put}
use Rattle.flash_entry.specs.declared.ask.Look.{Look}
use Rattle.flash_entry.specs.declared.entry.Done.TheVariants as deeds
use Rattle.flash_entry.specs.declared.entry.DropCause.TheVariants as drops
use Rattle.flash_entry.specs.declared.entry.Entry.{Entry}
use Rattle.flash_entry.specs.declared.entry.Entry.TheVariants as entries
use Rattle.flash_machine.specs.Item.{Item}
use Rattle.flash_machine.specs.Cache.{Cache}
use Rattle.flash_machine.specs.Live.{is_expired_item, live_item}
use Rattle.flash_machine.specs.Storing.{store_step}
use Rattle.flash_machine.specs.Looking.{residence_of}
use Rattle.flash_machine.specs.NewSteps.{step_id, is_as_late, is_new_step, IsEarlier, IsNew}
use Rattle.flash_machine.specs.Rules.{moment_rises, drop_rules}
use Rattle.flash_machine.specs.Legal.{AllHold, Meets}
use Rattle.flash_machine.proofs.Same.{stored_itself, residence_itself}

-- a step with a smaller number isn't as late
earlier_isnt : (id : Id) (other : Option Id) → IsEarlier id other → is_as_late id other ≡ false
earlier_isnt id None earlier = refl
earlier_isnt id (Some other) earlier = by_pass (nat_eq other.pass id.pass) refl
  where
    by_pass : (b : Bool) → nat_eq other.pass id.pass ≡ b → is_as_late id (Some other) ≡ false
    by_pass false apart = grind (arith, nat_tests)
    by_pass true same =
        let one : other.pass ≡ id.pass = grind (arith, nat_tests) in
        let less = earlier one in grind (arith, nat_tests)

none_as_late : (id : Id) (h : List Entry) → AllByRecursion (λ e. IsEarlier id (step_id e)) h → list_any (λ e. is_as_late id (step_id e)) h ≡ false
none_as_late id [] all = refl
none_as_late id (e ∷ es) all = let first = earlier_isnt id (step_id e) all.0 in let rest = none_as_late id es all.1 in grind (arith, nat_tests, first, rest)

-- a new step passes its test
pub new_passes : (h : List Entry) (id : Id) → IsNew h id → is_new_step h id ≡ true
new_passes h id new = let none = none_as_late id h new.seq in grind (arith, nat_tests, none, new.pass)

module _ (g : Geometry) (h : List Entry) (c : Cache) where
  pub clock_meets : (moment : ℕ) → c.now < moment → moment ≤ 2 ^ 62 → Meets g h c (entries.Clock moment)
  clock_meets moment above within = (grind (arith, nat_tests), tt)

  pub store_meets : (id : Id) (put : Put) → IsNew h id → Meets g h c (entries.Did id (deeds.Store put (store_step g c put (live_item h c put.key)).0))
  store_meets id put new = (new_passes h id new, (stored_itself (store_step g c put (live_item h c put.key)).0, tt))

  pub look_meets : (id : Id) (key : List ℕ) (look : Look) → IsNew h id → Meets g h c (entries.Looked id key look (residence_of (live_item h c key)))
  look_meets id key look new = (new_passes h id new, (residence_itself (residence_of (live_item h c key)), tt))

  -- a dead item may be dropped
  pub dead_meets : (key : List ℕ) (item : Item) → map.get c.items key ≡ Some item → is_expired_item c item ≡ true → Meets g h c (entries.Dropped key drops.Dead)
  dead_meets key item there dead =
      subst (λ (found : Option Item). AllHold (drop_rules g h c key drops.Dead found)) (sym there) (refl, (dead, tt))

-- a clock's moment is above the one before
pub clock_above : (c : Cache) (moment : ℕ) → IsTrue (moment_rises c moment) → c.now < moment
clock_above c moment rises = grind (arith, nat_tests)
