-- What each step was told, read off the journal.
use Rattle.std.specs.Prelude.{ℕ, zero, suc, ◌≤◌, List, [], ◌∷◌, ◌++◌, Option, None, Some, IsSome, if◌then◌else◌}
use Rattle.std.specs.Option.{option_or}
use Rattle.flash_names.specs.declared.place.Id.{Id}
use Rattle.flash_names.specs.declared.geometry.Geometry.{Geometry}
use Rattle.flash_entry.specs.declared.ask.Look.{Look}
use Rattle.flash_entry.specs.declared.entry.Done.{Done}
use Rattle.flash_entry.specs.declared.entry.Done.TheVariants as deeds
use Rattle.flash_entry.specs.declared.entry.Entry.{Entry}
use Rattle.flash_entry.specs.declared.entry.Entry.TheVariants as entries
use Rattle.flash_entry.specs.declared.found.LookAnswer.TheVariants as answers
use Rattle.flash_entry.specs.declared.found.Told.{Told}
use Rattle.flash_entry.specs.declared.found.Told.TheVariants as told
use Rattle.flash_machine.specs.Item.{Item}
use Rattle.flash_machine.specs.Cache.{Cache, first_cache}
use Rattle.flash_machine.specs.Live.{live_item}
use Rattle.flash_machine.specs.Looking.{head_of_item}
pub use Rattle.flash_machine.specs.Lookups.{same_id}
use Rattle.flash_machine.specs.Steps.{next}

-- what a lookup tells, by the item that was live
abbrev pub found_outcome : Cache → Look → Option Item → Told
found_outcome c look None = told.Found answers.Miss
found_outcome c look (Some item) =
    told.Found (if look.value then answers.Hit (record { head = head_of_item c look item; value = item.value })
    else answers.Head (head_of_item c look item))

-- what each other step tells, by what its entry says of it
abbrev pub done_outcome : Done → Told
done_outcome (deeds.Store put answer) = told.Stored answer
done_outcome (deeds.Delete key compare answer) = told.Gone answer
done_outcome (deeds.Sum ask answer) = told.Sum answer
done_outcome (deeds.Touch key exptime answer) = told.Touched answer
done_outcome (deeds.Flush delay) = told.Flushed
done_outcome (deeds.Stats tally) = told.Tally tally

-- the outcome that an entry gives the step of this number, if it is that step's
abbrev pub entry_outcome : List Entry → Cache → Id → Entry → Option Told
entry_outcome journal c id (entries.Did other done) = if same_id other id then Some (done_outcome done) else None
entry_outcome journal c id (entries.Looked other key look residence) =
    if same_id other id then Some (found_outcome c look (live_item journal c key)) else None
entry_outcome journal c id _ = None

-- the outcome of a step, from the entries after a journal, if one of them is its own
abbrev pub outcome_from : Geometry → List Entry → Cache → Id → List Entry → Option Told
outcome_from g journal c id [] = None
outcome_from g journal c id (e ∷ es) =
    option_or (entry_outcome journal c id e) (outcome_from g (journal ++ e ∷ []) (next g journal c e) id es)

-- a step without an entry of its own had no memory
abbrev pub or_no_memory : Option Told → Told
or_no_memory None = told.NoMemory
or_no_memory (Some outcome) = outcome

-- the outcome of step seq of a pass
abbrev pub outcome : Geometry → ℕ → ℕ → List Entry → Told
outcome g pass seq journal = or_no_memory (outcome_from g [] first_cache (record { pass = pass; seq = seq }) journal)

-- the journal has an entry of this step, which gives its outcome
abbrev pub HasEntry : Geometry → ℕ → ℕ → List Entry → Type 0
HasEntry g pass seq journal = IsSome (outcome_from g [] first_cache (record { pass = pass; seq = seq }) journal)

-- the journal has an entry of each of the steps 1 to n of a pass
abbrev pub HaveEntries : Geometry → ℕ → List Entry → ℕ → Type 0
HaveEntries g pass journal n = (seq : ℕ) → 1 ≤ seq → seq ≤ n → HasEntry g pass seq journal

-- the outcomes of the steps 1 to n of a pass, in order
abbrev pub outcomes : Geometry → ℕ → List Entry → ℕ → List Told
outcomes g pass journal zero = []
outcomes g pass journal (suc n) = outcomes g pass journal n ++ outcome g pass (suc n) journal ∷ []
