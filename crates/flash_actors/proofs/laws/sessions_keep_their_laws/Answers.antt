use Rattle.flash_actors.proofs.laws.sessions_keep_their_laws.Goals as goal

pub returns : goal.returns
returns c = record {
  first = c.a_new_session_stands_for_nothing.ensures;
  feed = c.a_feed_goes_on.ensures;
  send = c.a_send_goes_on.ensures;
  answer = c.an_answer_goes_on.ensures;
  step = c.an_ask_is_the_next_step.ensures;
  counted = c.steps_are_counted.ensures;
  said = c.all_is_said.ensures;
  more = c.more_bytes_go_on.ensures;
  stays = c.an_end_stays.ensures;
  order = c.outcomes_are_in_order.ensures;
  none = c.a_new_step_has_no_entry.ensures;
  outcomes = c.outcomes_stay.ensures;
  numbers = c.numbers_stay_new.ensures;
}
