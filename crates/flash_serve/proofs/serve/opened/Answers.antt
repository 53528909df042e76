use Rattle.flash_serve.proofs.serve.opened.Goals as goal

pub returns-in-Err-clause-refused : goal.returns-in-Err-clause-refused
returns-in-Err-clause-refused g c = c.status_of_open.ensures c.args.geometry c.in-Err.ensures.refused.0
