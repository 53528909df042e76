use Rattle.flash_answers.proofs.GoingOn.{goes_on}
use Rattle.flash_answers.proofs.laws.each_ask_goes_on.Goals as goal

pub returns : goal.returns
returns c = goes_on record {
  look = c.each_lookup_goes_on.ensures;
  store = c.each_store_goes_on.ensures;
  delete = c.each_delete_goes_on.ensures;
  sum = c.each_sum_goes_on.ensures;
  touch = c.each_touch_goes_on.ensures;
  flush = c.each_flush_goes_on.ensures;
  tally = c.each_tally_goes_on.ensures;
}
