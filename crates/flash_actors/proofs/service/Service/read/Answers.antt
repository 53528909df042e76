use Rattle.std.proofs.Common.{List, ℕ, sym, subst}
use Rattle.flash_actors.specs.Headline.{Outside}
use Rattle.flash_actors.specs.Serving.{rest_of, HasRead}
use Rattle.flash_actors.specs.declared.session_end.SessionEnd.TheVariants as ends
use Rattle.flash_actors.proofs.Ending.{cut_off, ends_fed, unread_whole, unread_place}
use Rattle.flash_actors.proofs.Serving.{served_sent, served_read}
use Rattle.flash_actors.proofs.Streams.{begun_first}
use Rattle.flash_actors.proofs.service.Service.read.Goals as goal

-- what is gathered was begun
pub returns-in-Err-clause-ends : goal.returns-in-Err-clause-ends
returns-in-Err-clause-ends g c = λ given x n seen legal start k was h told.
    let service = c.args.self.now in
    let held = g.K.Sink.held c.args.sink.now in
    let after = g.K.Sink.held c.send.new.sink in
    let now : Outside = record { left = g.S.Source.left c.args.source.now; held = held; given = given } in
    cut_off c.sessions_keep_their_laws.ensures x n k start now service h (was h told) ends.SinkFault after tt (legal h told)
    (begun_first service.output.gathered.items service.session.out held after c.in-Err.ensures.begun) tt

-- it was written, and more was read
pub returns-in-Ok-read-clause-goes : goal.returns-in-Ok-read-clause-goes
returns-in-Ok-read-clause-goes g c = λ given x n seen start k was h told.
    let laws = c.sessions_keep_their_laws.ensures in
    let service = c.args.self.now in
    let left = g.S.Source.left c.args.source.now in
    let after = g.K.Sink.held c.send.new.sink in
    let now : Outside = record { left = left; held = g.K.Sink.held c.args.sink.now; given = given } in
    let written = served_sent laws x n k start now service h (was h told) after c.send.new.self c.in-Ok.ensures.written c.in-Ok.ensures.empty in
    served_read laws x n k start (record now { held = after }) (record service { output = c.send.new.self }) h written (g.S.Source.left c.read.new.source) c.read.new.self c.requires.none c.in-Ok-read.ensures.read

-- or nothing was
pub returns-in-Err-read-clause-ends : goal.returns-in-Err-read-clause-ends
returns-in-Err-read-clause-ends g c = λ given x n seen legal start k was h told.
    let laws = c.sessions_keep_their_laws.ensures in
    let service = c.args.self.now in
    let left = g.S.Source.left c.args.source.now in
    let left_after = g.S.Source.left c.read.new.source in
    let now : Outside = record { left = left; held = g.K.Sink.held c.args.sink.now; given = given } in
    let end = c.in-Err-read.end in
    let nothing : HasRead (rest_of service.input) left left_after = subst (λ (l : List ℕ). HasRead l left left_after) (sym c.requires.none) c.in-Err-read.ensures.none in
    let is = served_read laws x n k start now service h (was h told) left_after service.input c.requires.none nothing in
    ends_fed laws x n k start (record now { left = left_after }) service h is end (g.K.Sink.held c.send.new.sink) (unread_whole end c.in-Err-read.ensures.end) (legal h told)
    c.requires.next.0.free.sent c.requires.next.0.rests c.in-Ok.ensures.written c.requires.none (unread_place end service.session.reads.reader.place c.in-Err-read.ensures.end c.requires.next.1)
