-- The entries of a call meet their rules, and a run that is known by its heads goes on by them.
use Rattle.std.proofs.Common.{◌≡◌, List, [], ◌∷◌, ◌++◌, sym, ◌∙◌, ap, subst}
use Rattle.std.specs.List.{AllByRecursion}
use Rattle.flash_names.specs.declared.geometry.Geometry.{Geometry}
use Rattle.flash_entry.specs.declared.entry.Entry.{Entry}
use Rattle.flash_machine.specs.Cache.{Cache}
use Rattle.flash_machine.specs.Steps.{next, cache_from}
use Rattle.flash_machine.specs.Legal.{Meets, LegalFrom}
use Rattle.flash_machine.proofs.Runs.{LegalFrom-append, cache_from-append}
use Rattle.flash_heads.specs.EntryLaws.{MovesNoValue}
use Rattle.flash_heads.specs.KnownRun.{IsKnownRun, AKnownRunGoesOn}

-- the entries meet their rules over the heads, and make of them the heads that the call leaves
pub record Goes (g : Geometry) (h : List Entry) (c : Cache) (es : List Entry) (after : Cache) : Type 0 where
  pub legal : LegalFrom g h c es
  pub makes : cache_from g h c es ≡ after

module _ (g : Geometry) (h : List Entry) (c mid after : Cache) where
  -- entries, and more behind them
  pub goes_then : (es fs : List Entry) → Goes g h c es mid → Goes g (h ++ es) mid fs after → Goes g h c (es ++ fs) after
  goes_then es fs first behind = record {
    legal = LegalFrom-append g h c es fs first.legal (subst (λ (d : Cache). LegalFrom g (h ++ es) d fs) (sym first.makes) behind.legal);
    makes = cache_from-append g h c es fs ∙ ap (λ (d : Cache). cache_from g (h ++ es) d fs) first.makes ∙ behind.makes;
  }

-- one entry
pub goes_one : (g : Geometry) (h : List Entry) (c after : Cache) (e : Entry) → Meets g h c e → next g h c e ≡ after → Goes g h c (e ∷ []) after
goes_one g h c after e meets makes = record { legal = (meets, tt); makes = makes }

-- a known run goes on
pub known_goes_on : AKnownRunGoesOn → (g : Geometry) (h : List Entry) (c after : Cache) (es : List Entry) → IsKnownRun g c h → Goes g h c es after → AllByRecursion MovesNoValue es → IsKnownRun g after (h ++ es)
known_goes_on law g h c after es run goes still = subst (λ (d : Cache). IsKnownRun g d (h ++ es)) goes.makes (law g c h es run goes.legal still)
