use Rattle.flash_play.proofs.Printed.{every_play_prints}
use Rattle.flash_play.proofs.laws.every_play_is_printed.Goals as goal

pub returns : goal.returns
returns c =
    every_play_prints (record {
      asks = c.an_ask_leaves_the_moment.ensures;
      others = c.calls_of_no_session_record_no_step.ensures;
    })
