use Rattle.flash_index.proofs.Closings.{used}
use Rattle.flash_index.proofs.MarkCalls.{item_of, after_use}
use Rattle.flash_index.proofs.index.Index.set_use.Goals as goal

pub returns : goal.returns
returns c = used c.self.inside.items c.args.self.now c.self.view_is c.is_in_step.ensures c.set_use.new.self c.args.id c.args.deadline c.args.fetched c.args.access c.set_use.ensures

pub invariant_of-self : goal.invariant_of-self
invariant_of-self c =
    let was = item_of c.self.inside.items c.args.self.now c.self.view_is c.is_in_step.ensures c.args.id c.requires in
    after_use c.self.inside.marks c.self.inside.items c.self.invariant c.set_use.new.self c.args.id was.0 c.args.deadline c.args.fetched c.args.access was.1 (c.set_use.ensures was.0 was.1)
