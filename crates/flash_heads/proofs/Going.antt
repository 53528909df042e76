-- Runs over the heads of a cache.
use Rattle.std.proofs.Common.{◌≡◌, ◌↔◌, ℕ, List, [], ◌∷◌, ◌++◌, Option, None, Some, sym, ◌∙◌, ap, subst}
use Rattle.std.specs.List.{AllByRecursion}
use Rattle.std.specs.FinMap as finite
use Rattle.flash_names.specs.declared.place.Label.{Label}
use Rattle.flash_names.specs.declared.geometry.Geometry.{Geometry}
use Rattle.flash_entry.specs.declared.entry.Entry.{Entry}
use Rattle.flash_entry.specs.declared.entry.Entry.TheVariants as entries
use Rattle.flash_machine.specs.Item.{Item, moved_head}
use Rattle.flash_machine.specs.Cache.{Cache}
use Rattle.flash_machine.specs.Steps.{labelled, next, cache_from, cache_of}
use Rattle.flash_machine.specs.Legal.{Meets, LegalFrom}
use Rattle.flash_machine.proofs.Runs.{cache_of-append, Legal-append}
use Rattle.flash_heads.specs.Heads.{heads}
use Rattle.flash_heads.specs.Moves.{with_head}
use Rattle.flash_heads.specs.EntryLaws.{BringsNoValue, MovesNoValue}
use Rattle.flash_heads.specs.RuleLaws.{EachRunIsLegalAlike}
use Rattle.flash_heads.specs.KnownRun.{IsKnownRun, AKnownRunGoesOn, AKnownRunGoesOnByMoves, AKnownRunGoesOnByAMove, TheFirstRunIsKnown, AKnownRunGoesOnByARecache}
use Rattle.flash_heads.proofs.Entering.{left, run, run_left}
use Rattle.flash_heads.proofs.Keeping.{first_known, hidden_once}
use Rattle.flash_heads.proofs.Moving.{moved, recached}
use Rattle.flash_heads.proofs.Ruling.{meets}

module _ (g : Geometry) where
  pub legal : (h : List Entry) (c : Cache) (es : List Entry) → AllByRecursion BringsNoValue es → LegalFrom g h (heads c) es ↔ LegalFrom g h c es
  legal h c [] still = ((λ l. l), (λ l. l))
  legal h c (e ∷ es) still =
      let by_heads = legal (h ++ e ∷ []) (next g h (heads c) e) es still.1 in
      let by_cache = legal (h ++ e ∷ []) (next g h c e) es still.1 in
      let same = left g h c e still.0 in
      let rest : Cache → Type 0 = λ d. LegalFrom g (h ++ e ∷ []) d es in (
        (λ l. ((meets g h c e).0 l.0, by_cache.0 (subst rest (sym same) (by_heads.1 l.1)))),
        (λ l. ((meets g h c e).1 l.0, by_heads.0 (subst rest same (by_cache.1 l.1)))),
      )

  -- what moves no value moves none into memory
  brings_none : (e : Entry) → MovesNoValue e → BringsNoValue e
  brings_none (entries.Recached key cas) still = still
  brings_none _ still = tt

  bring_none : (es : List Entry) → AllByRecursion MovesNoValue es → AllByRecursion BringsNoValue es
  bring_none [] still = tt
  bring_none (e ∷ es) still = (brings_none e still.0, bring_none es still.1)

  module _ (c : Cache) (h es : List Entry) (known : IsKnownRun g c h) (good : LegalFrom g h c es) where
    goes_on : AllByRecursion BringsNoValue es → LegalFrom g h (cache_of g h) es
    goes_on still = (legal h (cache_of g h) es still).0 (subst (λ (d : Cache). LegalFrom g h d es) known.same good)

    by_none : AllByRecursion MovesNoValue es → IsKnownRun g (cache_from g h c es) (h ++ es)
    by_none still = record {
      legal = Legal-append g h es known.legal (goes_on (bring_none es still));
      same =
          ap (λ (d : Cache). cache_from g h d es) known.same
          ∙ run g h (cache_of g h) es still
          ∙ ap (λ (d : Cache). heads d) (sym (cache_of-append g h es));
    }

    by_moves : AllByRecursion BringsNoValue es → IsKnownRun g (heads (cache_from g h c es)) (h ++ es)
    by_moves still = record {
      legal = Legal-append g h es known.legal (goes_on still);
      same =
          ap (λ (d : Cache). heads (cache_from g h d es)) known.same
          ∙ sym (run_left g h (cache_of g h) es still)
          ∙ ap (λ (d : Cache). heads d) (sym (cache_of-append g h es));
    }

pub legal_alike : EachRunIsLegalAlike
legal_alike = legal

pub known_on : AKnownRunGoesOn
known_on = by_none

pub moved_on : AKnownRunGoesOnByMoves
moved_on = by_moves

pub recached_on : AKnownRunGoesOnByARecache
recached_on g c h key cas item known good there = record {
  legal = Legal-append g h (entries.Recached key cas ∷ []) known.legal
      ((meets g h (cache_of g h) (entries.Recached key cas)).0 (subst (λ (d : Cache). Meets g h d (entries.Recached key cas)) known.same good), tt);
  same =
      ap (λ (d : Cache). with_head d key (record item { label = None })) known.same
      ∙ sym (recached (cache_of g h) key item)
      ∙ ap (λ (found : Option Item). heads (labelled (cache_of g h) key None found)) (sym there)
      ∙ ap (λ (d : Cache). heads d) (sym (cache_of-append g h (entries.Recached key cas ∷ [])));
}

pub first_on : TheFirstRunIsKnown
first_on g = record { legal = tt; same = sym first_known }

-- a cache that is known by its heads is its own
module _ (g : Geometry) (c : Cache) (h : List Entry) (known : IsKnownRun g c h) where
  own_heads : heads c ≡ c
  own_heads = ap (λ (d : Cache). heads d) known.same ∙ hidden_once (cache_of g h) ∙ sym known.same

  after_move : (key : List ℕ) (label : Label) (head : Item) → finite.get c.items key ≡ Some head
      → heads (labelled c key (Some label) (finite.get c.items key)) ≡ with_head c key (moved_head label head)
  after_move key label head there =
      ap (λ (found : Option Item). heads (labelled c key (Some label) found)) there
      ∙ moved c key label head
      ∙ ap (λ (d : Cache). with_head d key (moved_head label head)) own_heads

pub move_on : AKnownRunGoesOnByAMove
move_on g c h key cas label head known good there =
    let es = entries.Moved key cas label ∷ [] in
    subst (λ (d : Cache). IsKnownRun g d (h ++ es)) (after_move g c h known key label head there) (moved_on g c h es known (good, tt) (tt, tt))
