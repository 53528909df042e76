use Rattle.flash_store_tests.proofs.tickets.a_page_that_ends.Goals as goal

pub submit-requires : goal.submit-requires
submit-requires g c = λ slot h. c.new-tickets.ensures.fresh _ slot h
