-- What the answers of a store are.
use Rattle.std.specs.Prelude.{◌≡◌, false}
use Rattle.flash_names.specs.declared.geometry.Geometry.{Geometry}
use Rattle.flash_names.specs.declared.place.Id.{Id}
use Rattle.flash_entry.specs.declared.ask.Ask.{Ask}
use Rattle.flash_machine.specs.Cache.{Cache}
use Rattle.flash_calls.specs.Store.{Desk}
use Rattle.flash_answers.specs.AskCalls.{ask_call}
use Rattle.flash_session.specs.Talks.{ends_command}

-- a step that a store did had memory, so that its command goes on
abbrev pub EachAnswerHadMemory : Type 0
EachAnswerHadMemory = (g : Geometry) (c : Cache) (desk : Desk) (id : Id) (ask : Ask)
    → ends_command (ask_call g c desk id ask).answer ≡ false
