use Rattle.std.proofs.Common.{◌++◌}
use Rattle.flash_actors.specs.Headline.{Outside}
use Rattle.flash_actors.specs.declared.session_end.SessionEnd.TheVariants as ends
use Rattle.flash_actors.proofs.Ending.{cut_off}
use Rattle.flash_actors.proofs.Serving.{served_fed}
use Rattle.flash_actors.proofs.Streams.{none_begun}
use Rattle.flash_actors.proofs.service.Service.take_input.Goals as goal

-- it was fed
pub returns-in-Ok-clause-goes : goal.returns-in-Ok-clause-goes
returns-in-Ok-clause-goes g c = λ given x n seen start k was h told.
    let now : Outside = record { left = g.S.Source.left c.args.source.now; held = g.K.Sink.held c.args.sink.now; given = given } in
    served_fed c.sessions_keep_their_laws.ensures x n k start now c.args.self.now h (was h told) c.feed.new.self c.feed.new.session c.in-Ok.ensures.fed

-- or not, for want of memory
pub returns-in-Err-clause-ends : goal.returns-in-Err-clause-ends
returns-in-Err-clause-ends g c = λ given x n seen legal start k was h told.
    let service = c.args.self.now in
    let held = g.K.Sink.held c.args.sink.now in
    let now : Outside = record { left = g.S.Source.left c.args.source.now; held = held; given = given } in
    cut_off c.sessions_keep_their_laws.ensures x n k start now service h (was h told) ends.NoMemory held tt (legal h told)
    (none_begun (service.output.gathered.items ++ service.session.out) held) tt
