use Rattle.flash_seats.proofs.laws.sessions_keep_their_laws.Goals as goal

pub returns : goal.returns
returns c = record {
  feed = c.a_feed_goes_on.ensures;
  send = c.a_send_goes_on.ensures;
  answer = c.an_answer_goes_on.ensures;
  step = c.an_ask_is_the_next_step.ensures;
  counted = c.steps_are_counted.ensures;
  order = c.steps_come_in_order.ensures;
  said = c.all_is_said.ensures;
  piece = c.a_next_piece_stays.ensures;
  told = c.an_answer_holds_a_piece.ensures;
  none = c.no_piece_is_next_at_an_ask.ensures;
  pieces = c.pieces_are_the_replies.ensures;
  more = c.more_bytes_go_on.ensures;
  stays = c.an_end_stays.ensures;
}
