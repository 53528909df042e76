-- What a machine stands for.
use Rattle.std.specs.Prelude.{◌≡◌, ℕ, Bool, List, [], ◌∷◌, ◌++◌, Option, None, Some}
use Rattle.flash_names.specs.declared.geometry.Geometry.{Geometry}
use Rattle.flash_entry.specs.declared.entry.Entry.{Entry}
use Rattle.flash_machine.specs.Steps.{cache_of}
use Rattle.flash_machine.specs.Rules.{rules, broken}
use Rattle.flash_machine.specs.Legal.{Meets}
use Rattle.flash_machine.specs.Followed.{FollowsCache, FollowsPages, FollowsSteps, FollowsReads, FollowsWrites, FollowsLookups}
use Rattle.flash_machine.specs.declared.machine.Machine.{Machine}
use Rattle.flash_machine.specs.declared.machine.Verdict.{Verdict}
use Rattle.flash_machine.specs.declared.machine.Verdict.TheVariants.{Legal, Illegal}

-- the machine's tables say of the journal what the rules ask
pub record StandsFor (machine : Machine) (g : Geometry) (journal : List Entry) : Type 0 where
  pub geometry : machine.geometry ≡ g
  pub cache : FollowsCache machine.cache (cache_of g journal)
  pub pages : FollowsPages machine.pages g journal
  pub steps : FollowsSteps machine.steps journal
  pub lookups : FollowsLookups machine.lookups g journal
  pub reads : FollowsReads machine.reads journal
  pub writes : FollowsWrites machine.writes g journal

-- the verdict on an entry, by the lowest rule that it breaks
abbrev pub verdict_of : Option ℕ → Verdict
verdict_of None = Legal
verdict_of (Some rule) = Illegal rule

-- this is what the test says of the journal for which the machine stands
abbrev pub Tells : Machine → (Geometry → List Entry → Bool) → Bool → Type 0
Tells machine test result = (g : Geometry) (h : List Entry) → StandsFor machine g h → result ≡ test g h

-- this is the lowest rule that the entry breaks after that journal, if it breaks one
abbrev pub Judges : Machine → Entry → Option ℕ → Type 0
Judges machine entry rule =
    (g : Geometry) (h : List Entry) → StandsFor machine g h → rule ≡ broken (rules g h (cache_of g h) entry)

-- an entry that meets its rules was taken: the machine stands for the journal with it
abbrev pub Takes : Machine → Entry → Machine → Type 0
Takes old entry new =
    (g : Geometry) (h : List Entry) → StandsFor old g h → Meets g h (cache_of g h) entry
    → StandsFor new g (h ++ entry ∷ [])

-- the machine stands for what it stood for
abbrev pub StandsOn : Machine → Machine → Type 0
StandsOn old new = (g : Geometry) (h : List Entry) → StandsFor old g h → StandsFor new g h
