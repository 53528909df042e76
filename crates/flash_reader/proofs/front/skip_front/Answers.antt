use Rattle.std.proofs.Common.{length, ◌∙◌, ap}
use Rattle.std.specs.Prelude.{nat_lt}
use Rattle.flash_commands.specs.Commands.{skip_front}
use Rattle.flash_reader.specs.declared.front.TheConstants.{LINE_LIMIT}
use Rattle.flash_reader.proofs.LineCuts.{skip_either}
use Rattle.flash_reader.proofs.front.skip_front.Goals as goal

pub returns-in-None : goal.returns-in-None
returns-in-None c = λ item_max.
    c.without_feed.ensures ∙ skip_either item_max LINE_LIMIT (nat_lt (length c.args.bytes.now) LINE_LIMIT) ∙ ap (skip_front item_max LINE_LIMIT) c.in-None.ensures.cut
