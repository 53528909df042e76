use Rattle.flash_index.proofs.Closings.{moved_away}
use Rattle.flash_index.proofs.MarkCalls.{item_of, after_body}
use Rattle.flash_index.proofs.index.Index.move_away.Goals as goal

pub returns : goal.returns
returns c = moved_away c.self.inside.items c.is_in_step.ensures c.set_body.new.self c.args.id c.args.place c.set_body.ensures.now c.args.self.now c.self.view_is c.requires.length

pub invariant_of-self : goal.invariant_of-self
invariant_of-self c =
    let was = item_of c.self.inside.items c.args.self.now c.self.view_is c.is_in_step.ensures c.args.id c.requires.there in
    after_body c.self.inside.marks c.self.inside.items c.self.invariant c.set_body.new.self c.args.id was.0 c.args.place was.1 (c.set_body.ensures.now was.0 was.1)
