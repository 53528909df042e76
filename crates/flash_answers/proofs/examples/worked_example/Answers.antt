use Rattle.std.proofs.Common.{List, [], ◌∷◌, Option, codes, refl, ap, subst, arith}
use Rattle.std.specs.Prelude.{pos}
use Rattle.std.specs.FinMap as finite
use Rattle.std.specs.Ordering.{nat_cmp}
use Rattle.std.specs.Cmp.Lexicographic.{slice_cmp}
use Rattle.std.proofs.lemmas.Option.{same_Some}
use Rattle.flash_entry.specs.declared.answer.Touched.TheVariants as touched
use Rattle.flash_entry.specs.declared.ask.Ask.TheVariants as asks
use Rattle.flash_entry.specs.declared.found.Told.{Told}
use Rattle.flash_entry.specs.declared.found.Told.TheVariants as told
use Rattle.flash_machine.specs.Cache.{first_cache}
use Rattle.flash_machine.specs.Item.{Item}
use Rattle.flash_machine.specs.Live.{is_live, passing_item}
use Rattle.flash_answers.specs.Examples.{plain_look, two_asks}
use Rattle.flash_answers.specs.Outcomes.{found_outcome}
use Rattle.flash_answers.specs.Records.{IsOneOf}
use Rattle.flash_answers.proofs.examples.worked_example.Goals as goal

-- what pass 1 was told, by the item under its first key
abbrev told_by : Option Item → List Told
told_by found = found_outcome first_cache plain_look (passing_item (is_live [] first_cache) found) ∷ told.Touched touched.NotFound ∷ told.NoMemory ∷ []

pub returns-clause-outcomes : goal.returns-clause-outcomes
returns-clause-outcomes c = λ g. ap told_by (finite.get-empty (slice_cmp nat_cmp) (codes "a"))

-- the ask of pass 2 is none of pass 1
other : IsOneOf 1 two_asks (record { pass = 2; seq = 1 }, asks.Flush (pos 0))
other mine = absurd (omega arith)

pub returns-clause-keeps : goal.returns-clause-keeps
returns-clause-keeps c =
    let look : IsOneOf 1 two_asks (record { pass = 1; seq = 1 }, asks.Look (codes "a") plain_look) = λ mine. (omega arith, refl) in
    let touch : IsOneOf 1 two_asks (record { pass = 1; seq = 2 }, asks.Touch (codes "b") (pos 60)) = λ mine. (omega arith, refl) in (
      λ step is. subst (IsOneOf 1 two_asks) (same_Some _ _ is) look,
      (
        λ step is. subst (IsOneOf 1 two_asks) (same_Some _ _ is) other,
        (λ step is. absurd (cc is), (λ step is. subst (IsOneOf 1 two_asks) (same_Some _ _ is) touch, tt)),
      ),
    )
