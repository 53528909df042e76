use Rattle.std.proofs.Common.{◌≡◌, ◌+◌, ◌≤◌, false}
use Rattle.std.specs.Option.{ForSome}
use Rattle.flash_names.specs.Shared.{Begins, told_length}
use Rattle.flash_core.specs.Sound.{IsNewTold}
use Rattle.flash_turn.specs.Passes.{number_of}
use Rattle.flash_actors.specs.Passing.{IsReady, geometry_known, journal_seen}
use Rattle.flash_actors.specs.Serving.{IsServed}
use Rattle.flash_actors.proofs.session.serve_session.Given as goal

-- the session is served
abbrev pub invariant-turns : goal.invariant-turns
invariant-turns g l = record {
  ready : IsReady l.store l.pass;
  number : number_of l.pass ≡ number_of l.fn.pass;
  begins : Begins (journal_seen l.fn.pass) (journal_seen l.pass);
  free : l.service.session.owed ≡ false;
  new : IsNewTold (journal_seen l.pass) (record { pass = number_of l.pass; seq = l.service.session.last + 1 });
  going : ForSome (journal_seen l.pass) (IsServed (geometry_known l.store) (number_of l.fn.pass) (told_length (g.C.Clock.given l.fn.clock))
      (record { left = g.S.Source.left l.fn.source; held = g.K.Sink.held l.fn.sink; given = g.C.Clock.given l.fn.clock })
      (record { left = g.S.Source.left l.source; held = g.K.Sink.held l.sink; given = g.C.Clock.given l.clock }) l.service);
  source : g.S.Source.faults l.fn.source ≤ g.S.Source.faults l.source;
  sink : g.K.Sink.faults l.fn.sink ≤ g.K.Sink.faults l.sink;
}
