-- A run goes on by any step.
use Rattle.std.proofs.Common.{List}
use Rattle.flash_names.specs.declared.place.Id.{Id}
use Rattle.flash_names.specs.declared.geometry.Geometry.{Geometry}
use Rattle.flash_entry.specs.declared.ask.Ask.{Ask}
use Rattle.flash_entry.specs.declared.ask.Ask.TheVariants as asks
use Rattle.flash_entry.specs.declared.entry.Entry.{Entry}
use Rattle.flash_machine.specs.Cache.{Cache}
use Rattle.flash_machine.specs.NewSteps.{IsNew}
use Rattle.flash_calls.specs.Laws.{EachStoreGoesOn, EachLookupGoesOn, EachDeleteGoesOn, EachSumGoesOn, EachTouchGoesOn, EachFlushGoesOn, EachTallyGoesOn}
use Rattle.flash_calls.specs.Running.{IsRunning, LeavesARun}
use Rattle.flash_calls.specs.Store.{Desk}
use Rattle.flash_answers.specs.AskCalls.{ask_call}
use Rattle.flash_answers.specs.Laws.{EachAskGoesOn}

-- the laws of the store's calls
pub record EachGoesOn : Type 0 where
  pub look : EachLookupGoesOn
  pub store : EachStoreGoesOn
  pub delete : EachDeleteGoesOn
  pub sum : EachSumGoesOn
  pub touch : EachTouchGoesOn
  pub flush : EachFlushGoesOn
  pub tally : EachTallyGoesOn

module _ (each : EachGoesOn) where
  pub goes_on : EachAskGoesOn
  goes_on g c h desk id (asks.Look key look) is new = each.look g c h desk id key look is new
  goes_on g c h desk id (asks.Store put) is new = each.store g c h desk id put is new
  goes_on g c h desk id (asks.Delete key compare) is new = each.delete g c h desk id key compare is new
  goes_on g c h desk id (asks.Sum ask) is new = each.sum g c h desk id ask is new
  goes_on g c h desk id (asks.Touch key exptime) is new = each.touch g c h desk id key exptime is new
  goes_on g c h desk id (asks.Flush delay) is new = each.flush g c h desk id delay is new
  goes_on g c h desk id asks.Stats is new = each.tally g c h desk id is new
