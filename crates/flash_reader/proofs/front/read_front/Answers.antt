use Rattle.std.proofs.Common.{sym, ◌∙◌, ap}
use Rattle.flash_commands.specs.declared.place.Place.{Place}
use Rattle.flash_commands.specs.Commands.{front_of}
use Rattle.flash_reader.specs.declared.front.TheConstants.{LINE_LIMIT}
use Rattle.flash_reader.proofs.front.read_front.Goals as goal

pub returns-in-InSkip : goal.returns-in-InSkip
returns-in-InSkip c = c.skip_front.ensures c.args.item_max ∙ ap (λ (place : Place). front_of c.args.item_max LINE_LIMIT place c.args.bytes.now) (sym c.in-InSkip.is)
