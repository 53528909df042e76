use Rattle.std.proofs.Common.{refl, sym, subst}
use Rattle.flash_commands.specs.Laws.{IsEnd}
use Rattle.flash_session.specs.Todos.{IsNext}
use Rattle.flash_session.specs.declared.todo.Ending.{Ending}
use Rattle.flash_session.specs.declared.todo.Todo.TheVariants as todos
use Rattle.flash_session.specs.declared.todo.Ending.TheVariants.{Quit, LineTooLong, UsedUp}
use Rattle.flash_actors.specs.Headline.{Outside}
use Rattle.flash_actors.specs.declared.session_end.SessionEnd.TheVariants as ends
use Rattle.flash_actors.proofs.Ending.{cut_off, used_up, ends_there}
use Rattle.flash_actors.proofs.Streams.{begun_first}
use Rattle.flash_actors.proofs.service.Service.close.Goals as goal

-- what is gathered was begun
pub returns-in-Err-clause-ends : goal.returns-in-Err-clause-ends
returns-in-Err-clause-ends g c = λ left given x n seen legal start k was h told.
    let service = c.args.self.now in
    let held = g.K.Sink.held c.args.sink.now in
    let after = g.K.Sink.held c.send.new.sink in
    let now : Outside = record { left = left; held = held; given = given } in
    cut_off c.sessions_keep_their_laws.ensures x n k start now service h (was h told) ends.SinkFault after tt (legal h told)
    (begun_first service.output.gathered.items service.session.out held after c.in-Err.ensures.begun) tt

-- `quit` was read
pub returns-in-Quit-clause-ends : goal.returns-in-Quit-clause-ends
returns-in-Quit-clause-ends g c = λ left given x n seen legal start k was h told.
    let service = c.args.self.now in
    let next : IsNext service.session (todos.Closed Quit) = subst (λ (e : Ending). IsNext service.session (todos.Closed e)) c.in-Quit.is c.requires.next in
    let now : Outside = record { left = left; held = g.K.Sink.held c.args.sink.now; given = given } in
    ends_there c.sessions_keep_their_laws.ensures x n k start now service h (was h told) ends.Quit (g.K.Sink.held c.send.new.sink) tt (legal h told) next.0.free.sent next.0.rests c.in-Ok.ensures.written
    (subst IsEnd (sym next.1) tt) next.1

-- a line was too long
pub returns-in-LineTooLong-clause-ends : goal.returns-in-LineTooLong-clause-ends
returns-in-LineTooLong-clause-ends g c = λ left given x n seen legal start k was h told.
    let service = c.args.self.now in
    let next : IsNext service.session (todos.Closed LineTooLong) = subst (λ (e : Ending). IsNext service.session (todos.Closed e)) c.in-LineTooLong.is c.requires.next in
    let now : Outside = record { left = left; held = g.K.Sink.held c.args.sink.now; given = given } in
    ends_there c.sessions_keep_their_laws.ensures x n k start now service h (was h told) ends.LineTooLong (g.K.Sink.held c.send.new.sink) tt (legal h told) next.0.free.sent next.0.rests c.in-Ok.ensures.written
    (subst IsEnd (sym next.1) tt) next.1

-- all numbers were given
pub returns-in-UsedUp-clause-ends : goal.returns-in-UsedUp-clause-ends
returns-in-UsedUp-clause-ends g c = λ left given x n seen legal start k was h told.
    let laws = c.sessions_keep_their_laws.ensures in
    let service = c.args.self.now in
    let next : IsNext service.session (todos.Closed UsedUp) = subst (λ (e : Ending). IsNext service.session (todos.Closed e)) c.in-UsedUp.is c.requires.next in
    let now : Outside = record { left = left; held = g.K.Sink.held c.args.sink.now; given = given } in
    let is = was h told in
    cut_off laws x n k start now service h is ends.UsedUp (g.K.Sink.held c.send.new.sink) tt (legal h told)
    (record { front = service.output.gathered.items; rest = service.session.out; parts = refl; written = c.in-Ok.ensures.written })
    (used_up laws x n k start now service h is next.0.told next.1 next.2)
