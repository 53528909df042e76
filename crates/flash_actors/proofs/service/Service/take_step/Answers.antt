use Rattle.std.proofs.Common.{◌≡◌, ◌+◌, ℕ, ◌∙◌, ap, sym, subst}
use Rattle.flash_core.specs.Sound.{IsNewTold}
use Rattle.flash_turn.specs.Passes.{number_of}
use Rattle.flash_answers.specs.Records.{AreOfOthers}
use Rattle.flash_session.specs.States.{Session}
use Rattle.flash_actors.specs.Headline.{Outside}
use Rattle.flash_actors.specs.Passing.{geometry_known, journal_seen}
use Rattle.flash_actors.specs.declared.session_end.SessionEnd.TheVariants as ends
use Rattle.flash_actors.proofs.Ending.{cut_off}
use Rattle.flash_actors.proofs.Serving.{answered}
use Rattle.flash_actors.proofs.Streams.{none_begun}
use Rattle.flash_actors.proofs.Turning.{step_begins, step_new_told, step_served, with_session}
use Rattle.flash_actors.proofs.service.Service.take_step.Goals as goal

-- what was seen goes on
pub returns-in-Ok-clause-begins : goal.returns-in-Ok-clause-begins
returns-in-Ok-clause-begins g c =
    step_begins (geometry_known c.args.store.now) (record { pass = number_of c.args.pass.now; seq = c.args.seq }) c.args.ask.now c.now.result c.step-told.result (AreOfOthers (number_of c.args.pass.now))
    (journal_seen c.args.pass.now) (journal_seen c.step-told.new.pass) c.step-told.ensures.step

pub returns-clause-begins : goal.returns-clause-begins
returns-clause-begins g c =
    step_begins (geometry_known c.args.store.now) (record { pass = number_of c.args.pass.now; seq = c.args.seq }) c.args.ask.now c.now.result c.step-told.result (AreOfOthers (number_of c.args.pass.now))
    (journal_seen c.args.pass.now) (journal_seen c.step-told.new.pass) c.step-told.ensures.step

-- no answer is owed
pub returns-in-Ok-clause-free : goal.returns-in-Ok-clause-free
returns-in-Ok-clause-free g c =
    ap (λ (s : Session). s.owed) c.in-Ok.ensures.told ∙ (answered c.args.self.now.session c.args.ask.now c.step-told.result c.requires.asks).free

-- the next number is new
pub returns-in-Ok-clause-new : goal.returns-in-Ok-clause-new
returns-in-Ok-clause-new g c =
    let n = number_of c.args.pass.now in
    let seen = journal_seen c.step-told.new.pass in
    let last : c.answer.new.self.last ≡ c.args.seq =
    ap (λ (s : Session). s.last) c.in-Ok.ensures.told ∙ (answered c.args.self.now.session c.args.ask.now c.step-told.result c.requires.asks).last ∙ c.requires.last in
    subst (λ (m : ℕ). IsNewTold seen (record { pass = n; seq = m + 1 })) (sym last)
    (step_new_told (geometry_known c.args.store.now) (record { pass = n; seq = c.args.seq }) c.args.ask.now c.now.result c.step-told.result c.sessions_keep_their_laws.ensures
    (journal_seen c.args.pass.now) seen c.step-told.ensures.step c.requires.new)

-- the session goes on
pub returns-in-Ok-clause-goes : goal.returns-in-Ok-clause-goes
returns-in-Ok-clause-goes g c = λ left held start k was h told.
    let x = geometry_known c.args.store.now in
    let n = number_of c.args.pass.now in
    let service = c.args.self.now in
    let given = g.C.Clock.given in
    let now : Outside = record { left = left; held = held; given = given c.args.clock.now } in
    let served = step_served c.sessions_keep_their_laws.ensures x n k start now service c.args.ask.now c.now.result c.args.seq c.step-told.result (given c.now.new.self)
    (journal_seen c.args.pass.now) (journal_seen c.step-told.new.pass) c.requires.owed c.requires.asks c.requires.last c.now.ensures.reads c.requires.new c.step-told.ensures.step was h told in
    with_session x n k start (record now { given = given c.now.new.self }) service c.answer.new.self _ h c.in-Ok.ensures.told served

-- or ends for want of memory
pub returns-clause-ends : goal.returns-clause-ends
returns-clause-ends g c = λ left held start k was h told.
    let laws = c.sessions_keep_their_laws.ensures in
    let x = geometry_known c.args.store.now in
    let n = number_of c.args.pass.now in
    let service = c.args.self.now in
    let given = g.C.Clock.given in
    let now : Outside = record { left = left; held = held; given = given c.args.clock.now } in
    let served = step_served laws x n k start now service c.args.ask.now c.now.result c.args.seq c.step-told.result (given c.now.new.self)
    (journal_seen c.args.pass.now) (journal_seen c.step-told.new.pass) c.requires.owed c.requires.asks c.requires.last c.now.ensures.reads c.requires.new c.step-told.ensures.step was h told in
    cut_off laws x n k start (record now { given = given c.now.new.self }) _ h served ends.NoMemory held tt (c.step-told.ensures.ready.legal h told) (none_begun _ held) tt
