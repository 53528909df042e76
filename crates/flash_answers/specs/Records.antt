-- Which steps entries record, and with what was asked.
use Rattle.std.specs.Prelude.{◌≡◌, ◌≢◌, ℕ, ◌-◌, ◌≤◌, List, slice_get, Option, None, Some}
use Rattle.std.specs.List.{AllByRecursion}
use Rattle.std.specs.Option.{ForSome}
use Rattle.flash_names.specs.declared.place.Id.{Id}
use Rattle.flash_entry.specs.declared.ask.Ask.{Ask}
use Rattle.flash_entry.specs.declared.ask.Ask.TheVariants as asks
use Rattle.flash_entry.specs.declared.entry.Done.{Done}
use Rattle.flash_entry.specs.declared.entry.Done.TheVariants as deeds
use Rattle.flash_entry.specs.declared.entry.Entry.{Entry}
use Rattle.flash_entry.specs.declared.entry.Entry.TheVariants as entries

-- what was asked of a step that was done
abbrev pub done_ask : Done → Ask
done_ask (deeds.Store put answer) = asks.Store put
done_ask (deeds.Delete key compare answer) = asks.Delete key compare
done_ask (deeds.Sum ask answer) = asks.Sum ask
done_ask (deeds.Touch key exptime answer) = asks.Touch key exptime
done_ask (deeds.Flush delay) = asks.Flush delay
done_ask (deeds.Stats tally) = asks.Stats

-- the step that an entry records, with what was asked, if it records one
abbrev pub entry_ask : Entry → Option (Id × Ask)
entry_ask (entries.Did id done) = Some (id, done_ask done)
entry_ask (entries.Looked id key look residence) = Some (id, asks.Look key look)
entry_ask _ = None

-- an entry records no step, or this one with this ask
abbrev pub IsOf : Id → Ask → Entry → Type 0
IsOf id ask e = ForSome (entry_ask e) (λ step. step ≡ (id, ask))

-- these entries record no other step
abbrev pub AreOf : Id → Ask → List Entry → Type 0
AreOf id ask es = AllByRecursion (IsOf id ask) es

-- these entries record no step
abbrev pub AreOfNoStep : List Entry → Type 0
AreOfNoStep es = AllByRecursion (λ e. entry_ask e ≡ None) es

-- an entry records no step of this pass
abbrev pub IsOfOther : ℕ → Entry → Type 0
IsOfOther pass e = ForSome (entry_ask e) (λ step. step.0.pass ≢ pass)

-- these entries record no step of this pass
abbrev pub AreOfOthers : ℕ → List Entry → Type 0
AreOfOthers pass es = AllByRecursion (IsOfOther pass) es

-- where the step is one of the pass, it has the number and the ask of one of these
abbrev pub IsOneOf : ℕ → List Ask → Id × Ask → Type 0
IsOneOf pass steps step = step.0.pass ≡ pass → (1 ≤ step.0.seq) × (slice_get steps (step.0.seq - 1) ≡ Some step.1)

-- each step of the pass in the journal has the number and the ask of one of these, the first of which has number 1
abbrev pub Keeps : List Ask → ℕ → List Entry → Type 0
Keeps steps pass journal = AllByRecursion (λ e. ForSome (entry_ask e) (IsOneOf pass steps)) journal
