use Rattle.std.proofs.Common.{◌++◌, List, ℕ, length, ◌∙◌, ap, subst}
use Rattle.flash_streams.specs.Writing.{IsBegun}
use Rattle.flash_session.specs.States.{sent}
use Rattle.flash_actors.specs.Headline.{Outside, talk_over}
use Rattle.flash_actors.specs.Serving.{rest_of, HasTaken}
use Rattle.flash_actors.proofs.Ending.{cut_off, unwritten_cut, unwritten_used}
use Rattle.flash_actors.proofs.Serving.{served_piece}
use Rattle.flash_actors.proofs.service.Service.collect.Goals as goal

-- a piece was taken
pub returns-in-Ok-clause-goes : goal.returns-in-Ok-clause-goes
returns-in-Ok-clause-goes g c = λ left given x n seen start k was h told.
    let service = c.args.self.now in
    let held = g.K.Sink.held c.args.sink.now in
    let after = g.K.Sink.held c.take.new.sink in
    let now : Outside = record { left = left; held = held; given = given } in
    let piece : HasTaken service.session.out service.output.gathered.items c.take.new.self.gathered.items held after =
    subst (λ (l : List ℕ). HasTaken l service.output.gathered.items c.take.new.self.gathered.items held after) c.out.ensures c.in-Ok.ensures.taken in
    served_piece c.sessions_keep_their_laws.ensures x n k start now service h (was h told) after c.take.new.self c.sent.new.self piece
    (c.sent.ensures ∙ ap (λ (l : List ℕ). sent service.session (length l)) c.out-in-Ok.ensures)

-- or it was begun
pub returns-in-Err-clause-ends : goal.returns-in-Err-clause-ends
returns-in-Err-clause-ends g c = λ left given x n seen legal start k was h told.
    let service = c.args.self.now in
    let held = g.K.Sink.held c.args.sink.now in
    let after = g.K.Sink.held c.take.new.sink in
    let now : Outside = record { left = left; held = held; given = given } in
    let is = was h told in
    let end = c.in-Err.end in
    let begun : IsBegun (service.output.gathered.items ++ service.session.out) held after =
    subst (λ (l : List ℕ). IsBegun (service.output.gathered.items ++ l) held after) c.out.ensures c.in-Err.ensures.begun in
    cut_off c.sessions_keep_their_laws.ensures x n k start now service h is end after (unwritten_cut end c.in-Err.ensures.end) (legal h told) begun
    (unwritten_used end (talk_over x (is.fed ++ rest_of service.input) is.told) c.in-Err.ensures.end)
