use Rattle.flash_session.proofs.Lookups.{kept_by}
use Rattle.flash_session.proofs.session.Session.feed.Goals as goal

pub invariant_of-self : goal.invariant_of-self
invariant_of-self c =
    kept_by c.feed.result c.self.inside.reader c.feed.new.self c.self.inside.step c.self.inside.lookup c.self.inside.keys.items _
    c.feed.ensures.fed c.feed.ensures.refused c.self.invariant
