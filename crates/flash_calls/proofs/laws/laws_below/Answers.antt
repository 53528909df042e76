use Rattle.flash_calls.proofs.laws.laws_below.Goals as goal

pub returns : goal.returns
returns c = record {
  heads = record {
    first = c.the_first_run_is_known.ensures;
    known = c.a_known_run_goes_on.ensures;
    moved = c.a_known_run_goes_on_by_a_move.ensures;
    memory = c.an_item_in_memory_is_known.ensures;
    of = c.each_head_is_of_an_item.ensures;
    head = c.each_key_has_its_head.ensures;
    live = c.each_live_item_is_hidden.ensures;
  };
  lists = record {
    none = c.no_items_are_listed.ensures;
    put = c.each_put_is_listed.ensures;
    removal = c.each_removal_is_listed.ensures;
    change = c.each_change_is_listed.ensures;
    resize = c.each_resize_is_listed.ensures;
    used = c.each_use_is_listed.ensures;
    moves = c.each_move_is_listed.ensures;
    last = c.each_last_has_an_item.ensures;
  };
  blocks = record {
    first = c.the_first_is_in_order.ensures;
    order = c.each_call_keeps_order.ensures;
    opening = c.each_opening_keeps_order.ensures;
    sizes = c.each_call_keeps_sizes.ensures;
    stays = c.each_record_stays.ensures;
    read = c.each_record_is_read.ensures;
    put = c.each_put_is_held.ensures;
  };
}
