use Rattle.std.proofs.Common.{◌-◌, sym, ◌∙◌, ap}
use Rattle.flash_serve.specs.Serving.{count_after}
use Rattle.flash_serve.proofs.Rising.{kept_on, one_fewer}
use Rattle.flash_serve.proofs.serve.accept_some.Goals as goal

pub connections-preserved : goal.connections-preserved
connections-preserved g c = (
  c.accept_one.ensures.pass,
  c.accept_one.ensures.seen ∙ c.connections.invariant.1,
  kept_on _ _ _ c.connections.invariant.2 c.accept_one.ensures.tried.kept,
  ap (count_after (c.connections.left - 1)) c.in_ok-accept_one.ensures.accepted
      ∙ sym (one_fewer c.connections.left _ c.connections-test.true)
      ∙ c.connections.invariant.3,
)
