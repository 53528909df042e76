use Rattle.std.proofs.Common.{sym, ap, ◌∙◌}
use Rattle.flash_index.specs.Places.{place_of}
use Rattle.flash_index.proofs.Closings.{place_is}
use Rattle.flash_index.proofs.index.Index.place.Goals as goal

pub returns-in-Here : goal.returns-in-Here
returns-in-Here c = λ key named. sym (ap place_of c.in-Here.is) ∙ place_is c.self.inside.items c.args.self.now c.self.view_is c.is_in_step.ensures c.args.id c.item.result.key.now c.item.result.parts.now c.item.ensures key named

pub returns-in-Away : goal.returns-in-Away
returns-in-Away c = λ key named. sym (ap place_of c.in-Away.is) ∙ place_is c.self.inside.items c.args.self.now c.self.view_is c.is_in_step.ensures c.args.id c.item.result.key.now c.item.result.parts.now c.item.ensures key named
