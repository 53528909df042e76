use Rattle.std.proofs.Common.{ℕ, List, Option, subst}
use Rattle.flash_turn.specs.Passes.{number_of}
use Rattle.flash_session.specs.Todos.{Needs}
use Rattle.flash_session.specs.declared.todo.Todo.{Todo}
use Rattle.flash_session.specs.declared.todo.Todo.TheVariants.{Write, Do, Closed, Input}
use Rattle.flash_actors.specs.Headline.{Outside}
use Rattle.flash_actors.specs.Passing.{geometry_known, journal_seen}
use Rattle.flash_actors.specs.Serving.{GoesOn, EndsSo, KeepsOn, Stops}
use Rattle.flash_actors.specs.declared.session_end.SessionEnd.{SessionEnd}
use Rattle.flash_actors.proofs.Turning.{on_ok, if_err, goes_from, ends_from, ends_read}
use Rattle.flash_actors.proofs.service.Service.turn.Goals as goal

-- a piece was taken
pub returns-in-Write-clause-goes : goal.returns-in-Write-clause-goes
returns-in-Write-clause-goes g c =
    let x = geometry_known c.args.store.now in
    let n = number_of c.args.pass.now in
    let seen = journal_seen c.args.pass.now in
    let old = c.args.self.now in
    let mid = c.next.new.self in
    let needs : Needs old.session Write mid = subst (λ (t : Todo). Needs old.session t mid) c.in-Write.is c.in-Ok.ensures.needs in
    let left = g.S.Source.left c.args.source.now in
    let given = g.C.Clock.given c.args.clock.now in
    let now : Outside = record { left = left; held = g.K.Sink.held c.args.sink.now; given = given } in
    let after : Outside = record { left = left; held = g.K.Sink.held c.collect.new.sink; given = given } in
    on_ok c.collect.result ((l gv : Option (List ℕ)) → KeepsOn (record now { left = l; given = gv }) (record after { left = l; given = gv }) (record old { session = mid }) c.collect.new.self)
    (GoesOn x n now after old c.collect.new.self seen seen)
    (λ goes. goes_from x n old mid needs.stands needs.item_max c.sessions_keep_their_laws.ensures now after c.collect.new.self seen seen (goes left given x n seen)) c.collect.ensures.goes

pub returns-in-Write-clause-ends : goal.returns-in-Write-clause-ends
returns-in-Write-clause-ends g c =
    let x = geometry_known c.args.store.now in
    let n = number_of c.args.pass.now in
    let seen = journal_seen c.args.pass.now in
    let old = c.args.self.now in
    let mid = c.next.new.self in
    let needs : Needs old.session Write mid = subst (λ (t : Todo). Needs old.session t mid) c.in-Write.is c.in-Ok.ensures.needs in
    let left = g.S.Source.left c.args.source.now in
    let given = g.C.Clock.given c.args.clock.now in
    let now : Outside = record { left = left; held = g.K.Sink.held c.args.sink.now; given = given } in
    let after : Outside = record { left = left; held = g.K.Sink.held c.collect.new.sink; given = given } in
    if_err c.collect.result (λ (end : SessionEnd). (l gv : Option (List ℕ)) → Stops end (record now { left = l; given = gv }) (record after { left = l; given = gv }) (record old { session = mid }))
    (λ (end : SessionEnd). EndsSo x n end now after old seen seen)
    (λ end stops. ends_from x n old mid needs.stands needs.item_max c.sessions_keep_their_laws.ensures end now after seen seen (stops left given x n seen c.requires.ready.legal)) c.collect.ensures.ends

-- a step was done
pub returns-in-Do-clause-goes : goal.returns-in-Do-clause-goes
returns-in-Do-clause-goes g c =
    let x = geometry_known c.args.store.now in
    let n = number_of c.args.pass.now in
    let seen = journal_seen c.args.pass.now in
    let seen_after = journal_seen c.take_step.new.pass in
    let old = c.args.self.now in
    let mid = c.next.new.self in
    let needs : Needs old.session (Do c.in-Do.id c.in-Do.ask) mid = subst (λ (t : Todo). Needs old.session t mid) c.in-Do.is c.in-Ok.ensures.needs in
    let left = g.S.Source.left c.args.source.now in
    let held = g.K.Sink.held c.args.sink.now in
    let now : Outside = record { left = left; held = held; given = g.C.Clock.given c.args.clock.now } in
    let after : Outside = record { left = left; held = held; given = g.C.Clock.given c.take_step.new.clock } in
    on_ok c.take_step.result ((l hd : Option (List ℕ)) → GoesOn x n (record now { left = l; held = hd }) (record after { left = l; held = hd }) (record old { session = mid }) c.take_step.new.self seen seen_after)
    (GoesOn x n now after old c.take_step.new.self seen seen_after)
    (λ goes. goes_from x n old mid needs.stands needs.item_max c.sessions_keep_their_laws.ensures now after c.take_step.new.self seen seen_after (goes left held)) c.take_step.ensures.goes

pub returns-in-Do-clause-ends : goal.returns-in-Do-clause-ends
returns-in-Do-clause-ends g c =
    let x = geometry_known c.args.store.now in
    let n = number_of c.args.pass.now in
    let seen = journal_seen c.args.pass.now in
    let seen_after = journal_seen c.take_step.new.pass in
    let old = c.args.self.now in
    let mid = c.next.new.self in
    let needs : Needs old.session (Do c.in-Do.id c.in-Do.ask) mid = subst (λ (t : Todo). Needs old.session t mid) c.in-Do.is c.in-Ok.ensures.needs in
    let left = g.S.Source.left c.args.source.now in
    let held = g.K.Sink.held c.args.sink.now in
    let now : Outside = record { left = left; held = held; given = g.C.Clock.given c.args.clock.now } in
    let after : Outside = record { left = left; held = held; given = g.C.Clock.given c.take_step.new.clock } in
    if_err c.take_step.result (λ (end : SessionEnd). (l hd : Option (List ℕ)) → EndsSo x n end (record now { left = l; held = hd }) (record after { left = l; held = hd }) (record old { session = mid }) seen seen_after)
    (λ (end : SessionEnd). EndsSo x n end now after old seen seen_after)
    (λ end stops. ends_from x n old mid needs.stands needs.item_max c.sessions_keep_their_laws.ensures end now after seen seen_after (stops left held)) c.take_step.ensures.ends

-- it was fed, or more was read
pub returns-in-Input-clause-goes : goal.returns-in-Input-clause-goes
returns-in-Input-clause-goes g c =
    let x = geometry_known c.args.store.now in
    let n = number_of c.args.pass.now in
    let seen = journal_seen c.args.pass.now in
    let old = c.args.self.now in
    let mid = c.next.new.self in
    let needs : Needs old.session Input mid = subst (λ (t : Todo). Needs old.session t mid) c.in-Input.is c.in-Ok.ensures.needs in
    let given = g.C.Clock.given c.args.clock.now in
    let now : Outside = record { left = g.S.Source.left c.args.source.now; held = g.K.Sink.held c.args.sink.now; given = given } in
    let after : Outside = record { left = g.S.Source.left c.take_input.new.source; held = g.K.Sink.held c.take_input.new.sink; given = given } in
    on_ok c.take_input.result ((gv : Option (List ℕ)) → KeepsOn (record now { given = gv }) (record after { given = gv }) (record old { session = mid }) c.take_input.new.self)
    (GoesOn x n now after old c.take_input.new.self seen seen)
    (λ goes. goes_from x n old mid needs.stands needs.item_max c.sessions_keep_their_laws.ensures now after c.take_input.new.self seen seen (goes given x n seen)) c.take_input.ensures.goes

pub returns-in-Input-clause-ends : goal.returns-in-Input-clause-ends
returns-in-Input-clause-ends g c =
    let x = geometry_known c.args.store.now in
    let n = number_of c.args.pass.now in
    let seen = journal_seen c.args.pass.now in
    let old = c.args.self.now in
    let mid = c.next.new.self in
    let needs : Needs old.session Input mid = subst (λ (t : Todo). Needs old.session t mid) c.in-Input.is c.in-Ok.ensures.needs in
    let given = g.C.Clock.given c.args.clock.now in
    let now : Outside = record { left = g.S.Source.left c.args.source.now; held = g.K.Sink.held c.args.sink.now; given = given } in
    let after : Outside = record { left = g.S.Source.left c.take_input.new.source; held = g.K.Sink.held c.take_input.new.sink; given = given } in
    if_err c.take_input.result (λ (end : SessionEnd). (gv : Option (List ℕ)) → Stops end (record now { given = gv }) (record after { given = gv }) (record old { session = mid }))
    (λ (end : SessionEnd). EndsSo x n end now after old seen seen)
    (λ end stops. ends_from x n old mid needs.stands needs.item_max c.sessions_keep_their_laws.ensures end now after seen seen (stops given x n seen c.requires.ready.legal)) c.take_input.ensures.ends

-- it is over
pub returns-in-Closed-clause-ends : goal.returns-in-Closed-clause-ends
returns-in-Closed-clause-ends g c =
    let x = geometry_known c.args.store.now in
    let n = number_of c.args.pass.now in
    let seen = journal_seen c.args.pass.now in
    let old = c.args.self.now in
    let mid = c.next.new.self in
    let needs : Needs old.session (Closed c.in-Closed.ending) mid = subst (λ (t : Todo). Needs old.session t mid) c.in-Closed.is c.in-Ok.ensures.needs in
    let left = g.S.Source.left c.args.source.now in
    let given = g.C.Clock.given c.args.clock.now in
    let now : Outside = record { left = left; held = g.K.Sink.held c.args.sink.now; given = given } in
    let after : Outside = record { left = left; held = g.K.Sink.held c.close.new.sink; given = given } in
    ends_from x n old mid needs.stands needs.item_max c.sessions_keep_their_laws.ensures c.close.result now after seen seen (c.close.ensures.ends left given x n seen c.requires.ready.legal)

-- memory ran out
pub returns-in-Err-clause-ends : goal.returns-in-Err-clause-ends
returns-in-Err-clause-ends g c =
    let now : Outside = record { left = g.S.Source.left c.args.source.now; held = g.K.Sink.held c.args.sink.now; given = g.C.Clock.given c.args.clock.now } in
    ends_read c.sessions_keep_their_laws.ensures (geometry_known c.args.store.now) (number_of c.args.pass.now) now c.args.self.now (journal_seen c.args.pass.now) c.requires.ready.legal
