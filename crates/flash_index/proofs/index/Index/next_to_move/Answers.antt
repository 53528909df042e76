use Rattle.flash_index.proofs.Closings.{to_move_named}
use Rattle.flash_index.proofs.index.Index.next_to_move.Goals as goal

pub returns-clause-named : goal.returns-clause-named
returns-clause-named c = to_move_named c.self.inside.items c.args.self.now c.self.view_is c.is_in_step.ensures c.args.rule.now c.next_to_move.result c.next_to_move.ensures
