-- The definitions on a worked example: the steps of two passes, one after the other.
use Rattle.std.specs.Prelude.{◌≡◌, pos, true, List, [], ◌∷◌, None, codes}
use Rattle.flash_names.specs.declared.geometry.Geometry.{Geometry}
use Rattle.flash_entry.specs.declared.answer.Touched.TheVariants as touched
use Rattle.flash_entry.specs.declared.ask.Ask.{Ask}
use Rattle.flash_entry.specs.declared.ask.Ask.TheVariants as asks
use Rattle.flash_entry.specs.declared.ask.Look.{Look}
use Rattle.flash_entry.specs.declared.entry.Done.TheVariants as deeds
use Rattle.flash_entry.specs.declared.entry.Entry.{Entry}
use Rattle.flash_entry.specs.declared.entry.Entry.TheVariants as entries
use Rattle.flash_entry.specs.declared.entry.Residence.TheVariants as residence
use Rattle.flash_entry.specs.declared.found.LookAnswer.TheVariants as answers
use Rattle.flash_entry.specs.declared.found.Told.TheVariants as told
use Rattle.flash_answers.specs.Outcomes.{outcomes}
use Rattle.flash_answers.specs.Records.{Keeps}

abbrev pub plain_look : Look
plain_look = record { value = true; renew = None }

-- pass 1 looks `a` up and touches `b`; between them pass 2 flushes, and the clock is read
abbrev pub two_passes : List Entry
two_passes =
    entries.Looked (record { pass = 1; seq = 1 }) (codes "a") plain_look residence.Nothing
    ∷ entries.Did (record { pass = 2; seq = 1 }) (deeds.Flush (pos 0))
    ∷ entries.Clock 5
    ∷ entries.Did (record { pass = 1; seq = 2 }) (deeds.Touch (codes "b") (pos 60) touched.NotFound)
    ∷ []

-- pass 1 was told a miss, and that there is nothing to touch; a third step of it has no entry
abbrev pub ReadsOutcomes : Type 0
ReadsOutcomes = (g : Geometry) → outcomes g 1 two_passes 3
    ≡ told.Found answers.Miss ∷ told.Touched touched.NotFound ∷ told.NoMemory ∷ []

abbrev pub two_asks : List Ask
two_asks = asks.Look (codes "a") plain_look ∷ asks.Touch (codes "b") (pos 60) ∷ []

-- the journal keeps to the two asks of pass 1
abbrev pub KeepsToAsks : Type 0
KeepsToAsks = Keeps two_asks 1 two_passes
