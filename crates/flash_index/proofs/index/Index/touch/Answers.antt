use Rattle.flash_index.proofs.Closings.{after_touch}
use Rattle.flash_index.proofs.MarkCalls.{after_touch as marks_touched}
use Rattle.flash_index.proofs.index.Index.touch.Goals as goal

pub returns : goal.returns
returns c = after_touch c.self.inside.items c.args.self.now c.self.view_is c.is_in_step.ensures c.touch.new.self c.args.id c.touch.ensures

pub invariant_of-self : goal.invariant_of-self
invariant_of-self c = marks_touched c.self.inside.marks c.self.inside.items c.self.invariant c.touch.new.self c.args.id c.touch.ensures
