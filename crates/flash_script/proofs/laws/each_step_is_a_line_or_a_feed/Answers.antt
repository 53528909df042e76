use Rattle.flash_script.proofs.Scripts.Laws.{is_a_line, is_a_feed, feed_is_read}
use Rattle.flash_script.proofs.laws.each_step_is_a_line_or_a_feed.Goals as goal

pub returns-clause-line : goal.returns-clause-line
returns-clause-line c = is_a_line

pub returns-clause-feed : goal.returns-clause-feed
returns-clause-feed c = is_a_feed

pub returns-clause-each_feed : goal.returns-clause-each_feed
returns-clause-each_feed c = feed_is_read
