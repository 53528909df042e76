use Rattle.std.proofs.Common.{◌≡◌, ◌+◌, ℕ, [], sym, ◌∙◌, ap, subst, arith}
use Rattle.flash_names.specs.Shared.{own_of, told_length}
use Rattle.flash_names.specs.declared.geometry.Geometry.{Geometry}
use Rattle.flash_core.specs.SharedStore.{told_pairs}
use Rattle.flash_core.specs.Sound.{IsNewTold}
use Rattle.flash_turn.specs.Passes.{number_of}
use Rattle.flash_session.specs.States.{Session}
use Rattle.flash_actors.specs.Headline.{Outside}
use Rattle.flash_actors.specs.Passing.{geometry_known, journal_seen}
use Rattle.flash_actors.specs.Serving.{GoesOn}
use Rattle.flash_actors.specs.declared.service.Service.{Service}
use Rattle.flash_actors.proofs.First.{told_other, first_new, first_served, first_refused}
use Rattle.flash_actors.proofs.Turning.{begins_both}
use Rattle.flash_actors.proofs.session.serve_session.Goals as goal

-- memory ran out before the first read
pub returns-in_default-clause-headline : goal.returns-in_default-clause-headline
returns-in_default-clause-headline g c =
    let n = number_of c.args.pass.now in
    let turn = c.first_turn-geometry in
    let seen = journal_seen turn.new.pass in
    let none : [] ≡ own_of n (told_pairs seen) = sym turn.ensures.none ∙ turn.ensures.ready.linked ∙ ap (λ (m : ℕ). own_of m (told_pairs seen)) turn.ensures.number in
    let now : Outside = record { left = g.S.Source.left c.args.source.now; held = g.K.Sink.held c.args.sink.now; given = g.C.Clock.given c.args.clock.now } in
    first_refused (geometry_known c.args.store.now) n now seen turn.ensures.ready.legal (told_other n seen none)

-- before the first read
pub turns-init : goal.turns-init
turns-init g c =
    let x = geometry_known c.args.store.now in
    let n = number_of c.args.pass.now in
    let turn = c.first_turn-geometry in
    let seen = journal_seen turn.new.pass in
    let m = number_of turn.new.pass in
    let none : [] ≡ own_of m (told_pairs seen) = sym turn.ensures.none ∙ turn.ensures.ready.linked in
    let none_own : [] ≡ own_of n (told_pairs seen) = none ∙ ap (λ (i : ℕ). own_of i (told_pairs seen)) turn.ensures.number in
    let now : Outside = record { left = g.S.Source.left c.args.source.now; held = g.K.Sink.held c.args.sink.now; given = g.C.Clock.given c.args.clock.now } in
    let service : Service = record { session = c.new-2.result; input = c.in-Ok.input; output = c.new-3.result } in
    record {
      ready = turn.ensures.ready;
      number = turn.ensures.number;
      begins = turn.ensures.begins;
      free = ap (λ (s : Session). s.owed) c.new-2.ensures;
      new = first_new m seen turn.ensures.ready.numbered (told_other m seen none) (c.new-2.result.last + 1);
      going =
          first_served x n now c.sessions_keep_their_laws.ensures service c.number.result turn.result.item_max seen c.new-2.ensures (ap (λ (y : Geometry). y.item_max) turn.ensures.geometry)
          c.in-Ok.ensures c.new-3.ensures (told_other n seen none_own);
      source = omega arith;
      sink = omega arith;
    }

-- after each turn
pub turns-preserved : goal.turns-preserved
turns-preserved g c =
    let x = geometry_known c.args.store.now in
    let n = number_of c.args.pass.now in
    let was = c.turns.invariant in
    let turn = c.turn.ensures in
    let seen = journal_seen c.turns.pass in
    let seen_after = journal_seen c.turn.new.pass in
    let start : Outside = record { left = g.S.Source.left c.args.source.now; held = g.K.Sink.held c.args.sink.now; given = g.C.Clock.given c.args.clock.now } in
    let now : Outside = record { left = g.S.Source.left c.turns.source; held = g.K.Sink.held c.turns.sink; given = g.C.Clock.given c.turns.clock } in
    let after : Outside = record { left = g.S.Source.left c.turn.new.source; held = g.K.Sink.held c.turn.new.sink; given = g.C.Clock.given c.turn.new.clock } in
    let goes : GoesOn x n now after c.turns.service c.turn.new.self seen seen_after =
    subst (λ (m : ℕ). GoesOn x m now after c.turns.service c.turn.new.self seen seen_after) was.number c.in-Ok-turn.ensures.goes in
    record {
      ready = turn.ready;
      number = turn.number ∙ was.number;
      begins = begins_both (journal_seen c.args.pass.now) seen seen_after was.begins turn.begins;
      free = c.in-Ok-turn.ensures.free;
      new = subst (λ (m : ℕ). IsNewTold seen_after (record { pass = m; seq = c.turn.new.self.session.last + 1 })) (sym turn.number) c.in-Ok-turn.ensures.new;
      going = goes start (told_length start.given) was.going;
      source = omega (arith, was.source, turn.source_kept);
      sink = omega (arith, was.sink, turn.sink_kept);
    }

pub returns-in-Err-clause-begins : goal.returns-in-Err-clause-begins
returns-in-Err-clause-begins g c =
    begins_both (journal_seen c.args.pass.now) (journal_seen c.turns.pass) (journal_seen c.turn.new.pass) c.turns.invariant.begins c.turn.ensures.begins
