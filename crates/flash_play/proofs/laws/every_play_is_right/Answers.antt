use Rattle.flash_play.proofs.Right.{every_play}
use Rattle.flash_play.proofs.laws.every_play_is_right.Goals as goal

pub returns : goal.returns
returns c = every_play (record {
  goes_on = c.each_ask_goes_on.ensures;
  is_told = c.each_ask_is_told.ensures;
  records = c.each_ask_records_itself.ensures;
  numbers = c.numbers_stay_new.ensures;
  stay = c.outcomes_stay.ensures;
  order = c.outcomes_are_in_order.ensures;
  moment = c.an_ask_leaves_the_moment.ensures;
  others = c.calls_of_no_session_record_no_step.ensures;
  clock = c.each_clock_goes_on.ensures;
  room = c.each_room_goes_on.ensures;
  reaping = c.each_reaping_goes_on.ensures;
  juggling = c.each_juggling_goes_on.ensures;
  first = c.the_first_run.ensures;
}) (record {
  goes_on = c.more_bytes_go_on.ensures;
  stays = c.an_end_stays.ensures;
  joined_are = c.pieces_are_the_replies.ensures;
  pieces = c.pieces_go_on.ensures;
})
