use Rattle.std.proofs.Common.{Bool, refl, subst}
use Rattle.flash_answers.specs.AskCalls.{ask_call}
use Rattle.flash_session.specs.Todos.{Needs}
use Rattle.flash_session.specs.declared.todo.Todo.{Todo}
use Rattle.flash_session.specs.declared.todo.Todo.TheVariants.{Write, Do, Closed, Input}
use Rattle.flash_seats.specs.Seats.{kept_of}
use Rattle.flash_seats.specs.Turns.{AfterPart, FedOrTurned}
use Rattle.flash_seats.proofs.Parts.{idle_if, wrote, fed_part, end_part, did, asked_new, did_new, did_tells, fed_new, end_new, wrote_new}
use Rattle.flash_seats.proofs.Single.{took, did_one, fed_or_idle, closed_now}
use Rattle.flash_seats.proofs.seat.Seat.turn_or_feed.Goals as goal

-- a step is asked
pub do_ask-requires : goal.do_ask-requires
do_ask-requires g c =
    let needs : Needs c.args.self.now.session (Do c.in-Do.id c.in-Do.ask) c.next.new.self = subst (λ (t : Todo). Needs c.args.self.now.session t c.next.new.self) c.in-Do.is c.in_ok-next.ensures.needs in
    asked_new c.args.core.now.told c.args.self.now c.next.new.self c.in-Do.id c.in-Do.ask needs c.requires.new

-- no bytes are left to feed
pub returns-then-branch-clause-turned : goal.returns-then-branch-clause-turned
returns-then-branch-clause-turned g c =
    let needs : Needs c.args.self.now.session Input c.next.new.self = subst (λ (t : Todo). Needs c.args.self.now.session t c.next.new.self) c.in-Input.is c.in_ok-next.ensures.needs in
    λ number seat is. subst (λ (b : Bool). FedOrTurned (idle_if b) number seat c.args.core.now c.args.core.now c.feed.new.self) c.if-branch.true
    (fed_or_idle c.sessions_keep_their_laws.ensures number seat c.args.core.now c.args.self.now is c.next.new.self needs.item_max (needs.stands is.fed seat.told seat.replies is.stands)
    _ c.feed.new.self c.in_ok-feed-in-Input.field-0 needs refl refl refl refl c.in_ok-feed-in-Input.ensures)

pub returns-then-branch-clause-part : goal.returns-then-branch-clause-part
returns-then-branch-clause-part g c =
    let needs : Needs c.args.self.now.session Input c.next.new.self = subst (λ (t : Todo). Needs c.args.self.now.session t c.next.new.self) c.in-Input.is c.in_ok-next.ensures.needs in
    λ number given final was. subst (λ (b : Bool). AfterPart (idle_if b) c.args.core.now.geometry number given final (kept_of c.args.core.now) c.feed.new.self) c.if-branch.true
    (fed_part c.sessions_keep_their_laws.ensures c.args.core.now.geometry number given final (kept_of c.args.core.now) c.args.self.now _ c.feed.new.self c.next.new.self c.in_ok-feed-in-Input.field-0 needs refl refl refl
    c.in_ok-feed-in-Input.ensures was)

pub returns-then-branch-clause-new : goal.returns-then-branch-clause-new
returns-then-branch-clause-new g c =
    let needs : Needs c.args.self.now.session Input c.next.new.self = subst (λ (t : Todo). Needs c.args.self.now.session t c.next.new.self) c.in-Input.is c.in_ok-next.ensures.needs in
    fed_new c.args.core.now.told c.args.self.now _ c.feed.new.self c.next.new.self c.in_ok-feed-in-Input.field-0 needs refl c.in_ok-feed-in-Input.ensures c.requires.new

-- it was fed
pub returns-else-branch-clause-turned : goal.returns-else-branch-clause-turned
returns-else-branch-clause-turned g c =
    let needs : Needs c.args.self.now.session Input c.next.new.self = subst (λ (t : Todo). Needs c.args.self.now.session t c.next.new.self) c.in-Input.is c.in_ok-next.ensures.needs in
    λ number seat is. subst (λ (b : Bool). FedOrTurned (idle_if b) number seat c.args.core.now c.args.core.now c.feed.new.self) c.if-branch.false
    (fed_or_idle c.sessions_keep_their_laws.ensures number seat c.args.core.now c.args.self.now is c.next.new.self needs.item_max (needs.stands is.fed seat.told seat.replies is.stands)
    _ c.feed.new.self c.in_ok-feed-in-Input.field-0 needs refl refl refl refl c.in_ok-feed-in-Input.ensures)

pub returns-else-branch-clause-part : goal.returns-else-branch-clause-part
returns-else-branch-clause-part g c =
    let needs : Needs c.args.self.now.session Input c.next.new.self = subst (λ (t : Todo). Needs c.args.self.now.session t c.next.new.self) c.in-Input.is c.in_ok-next.ensures.needs in
    λ number given final was. subst (λ (b : Bool). AfterPart (idle_if b) c.args.core.now.geometry number given final (kept_of c.args.core.now) c.feed.new.self) c.if-branch.false
    (fed_part c.sessions_keep_their_laws.ensures c.args.core.now.geometry number given final (kept_of c.args.core.now) c.args.self.now _ c.feed.new.self c.next.new.self c.in_ok-feed-in-Input.field-0 needs refl refl refl
    c.in_ok-feed-in-Input.ensures was)

pub returns-else-branch-clause-new : goal.returns-else-branch-clause-new
returns-else-branch-clause-new g c =
    let needs : Needs c.args.self.now.session Input c.next.new.self = subst (λ (t : Todo). Needs c.args.self.now.session t c.next.new.self) c.in-Input.is c.in_ok-next.ensures.needs in
    fed_new c.args.core.now.told c.args.self.now _ c.feed.new.self c.next.new.self c.in_ok-feed-in-Input.field-0 needs refl c.in_ok-feed-in-Input.ensures c.requires.new

-- its bytes have an end
pub returns-in-Closed-clause-turned : goal.returns-in-Closed-clause-turned
returns-in-Closed-clause-turned g c =
    let needs : Needs c.args.self.now.session (Closed c.in-Closed.ending) c.next.new.self = subst (λ (t : Todo). Needs c.args.self.now.session t c.next.new.self) c.in-Closed.is c.in_ok-next.ensures.needs in
    λ number seat is. closed_now c.sessions_keep_their_laws.ensures number seat c.args.core.now c.args.self.now is c.next.new.self needs.item_max (needs.stands is.fed seat.told seat.replies is.stands)
    _ c.end.new.self c.in-Closed.ending needs refl refl refl c.in_ok-end-in-Closed.ensures

pub returns-in-Closed-clause-part : goal.returns-in-Closed-clause-part
returns-in-Closed-clause-part g c =
    let needs : Needs c.args.self.now.session (Closed c.in-Closed.ending) c.next.new.self = subst (λ (t : Todo). Needs c.args.self.now.session t c.next.new.self) c.in-Closed.is c.in_ok-next.ensures.needs in
    λ number given final was. end_part c.sessions_keep_their_laws.ensures c.args.core.now.geometry number given final (kept_of c.args.core.now) c.args.self.now _ c.end.new.self c.next.new.self c.in-Closed.ending needs refl refl refl
    c.in_ok-end-in-Closed.ensures was

pub returns-in-Closed-clause-new : goal.returns-in-Closed-clause-new
returns-in-Closed-clause-new g c =
    let needs : Needs c.args.self.now.session (Closed c.in-Closed.ending) c.next.new.self = subst (λ (t : Todo). Needs c.args.self.now.session t c.next.new.self) c.in-Closed.is c.in_ok-next.ensures.needs in
    end_new c.args.core.now.told c.args.self.now _ c.end.new.self c.next.new.self c.in-Closed.ending needs refl c.in_ok-end-in-Closed.ensures c.requires.new

-- a piece of its replies was taken
pub returns-in_ok-collect-in-Write-clause-turned : goal.returns-in_ok-collect-in-Write-clause-turned
returns-in_ok-collect-in-Write-clause-turned g c =
    let needs : Needs c.args.self.now.session Write c.next.new.self = subst (λ (t : Todo). Needs c.args.self.now.session t c.next.new.self) c.in-Write.is c.in_ok-next.ensures.needs in
    let has = c.in_ok-collect-in-Write.ensures in
    λ number seat is. took c.sessions_keep_their_laws.ensures number seat c.args.core.now c.args.self.now is c.next.new.self needs.item_max (needs.stands is.fed seat.told seat.replies is.stands)
    c.collect.new.self needs has.replies has.session has.rest has.closed

pub returns-in_ok-collect-in-Write-clause-part : goal.returns-in_ok-collect-in-Write-clause-part
returns-in_ok-collect-in-Write-clause-part g c =
    let needs : Needs c.args.self.now.session Write c.next.new.self = subst (λ (t : Todo). Needs c.args.self.now.session t c.next.new.self) c.in-Write.is c.in_ok-next.ensures.needs in
    let has = c.in_ok-collect-in-Write.ensures in
    λ number given final was. wrote c.sessions_keep_their_laws.ensures c.args.core.now.geometry number given final (kept_of c.args.core.now) c.args.self.now c.collect.new.self c.next.new.self needs has.replies has.session has.rest was

pub returns-in_ok-collect-in-Write-clause-new : goal.returns-in_ok-collect-in-Write-clause-new
returns-in_ok-collect-in-Write-clause-new g c =
    let needs : Needs c.args.self.now.session Write c.next.new.self = subst (λ (t : Todo). Needs c.args.self.now.session t c.next.new.self) c.in-Write.is c.in_ok-next.ensures.needs in
    wrote_new c.args.core.now.told c.args.self.now c.collect.new.self c.next.new.self needs c.in_ok-collect-in-Write.ensures.session c.requires.new

-- a step was done
pub returns-in_ok-answer-in-Do-clause-turned : goal.returns-in_ok-answer-in-Do-clause-turned
returns-in_ok-answer-in-Do-clause-turned g c =
    let needs : Needs c.args.self.now.session (Do c.in-Do.id c.in-Do.ask) c.next.new.self = subst (λ (t : Todo). Needs c.args.self.now.session t c.next.new.self) c.in-Do.is c.in_ok-next.ensures.needs in
    λ number seat is. did_one c.sessions_keep_their_laws.ensures number seat c.args.core.now c.args.self.now is c.next.new.self needs.item_max (needs.stands is.fed seat.told seat.replies is.stands)
    c.each_answer_had_memory.ensures c.do_ask.new.core _ c.in-Do.id c.in-Do.ask c.in_ok-told-in-Do.told needs c.requires.tells c.in_ok-told-in-Do.ensures.ok c.in_ok-told-in-Do.ensures.answer
    c.in_ok-answer-in-Do.ensures.told refl refl refl

pub returns-in_ok-answer-in-Do-clause-part : goal.returns-in_ok-answer-in-Do-clause-part
returns-in_ok-answer-in-Do-clause-part g c =
    let needs : Needs c.args.self.now.session (Do c.in-Do.id c.in-Do.ask) c.next.new.self = subst (λ (t : Todo). Needs c.args.self.now.session t c.next.new.self) c.in-Do.is c.in_ok-next.ensures.needs in
    λ number given final was. did c.sessions_keep_their_laws.ensures c.args.core.now.geometry number given final c.each_answer_had_memory.ensures c.args.core.now c.do_ask.new.core c.args.self.now _ c.next.new.self c.in-Do.id c.in-Do.ask
    c.in_ok-told-in-Do.told needs c.requires.tells refl c.in_ok-told-in-Do.ensures.ok c.in_ok-told-in-Do.ensures.answer c.in_ok-answer-in-Do.ensures.told refl refl was

pub returns-in_ok-answer-in-Do-clause-new : goal.returns-in_ok-answer-in-Do-clause-new
returns-in_ok-answer-in-Do-clause-new g c =
    let needs : Needs c.args.self.now.session (Do c.in-Do.id c.in-Do.ask) c.next.new.self = subst (λ (t : Todo). Needs c.args.self.now.session t c.next.new.self) c.in-Do.is c.in_ok-next.ensures.needs in
    did_new c.each_ask_records_itself.ensures c.numbers_stay_new.ensures c.args.core.now c.do_ask.new.core c.args.self.now c.next.new.self c.answer.new.self c.in-Do.id c.in-Do.ask c.in_ok-told-in-Do.told needs c.in_ok-told-in-Do.ensures.ok
    c.in_ok-answer-in-Do.ensures.told c.requires.new

pub returns-in_ok-answer-in-Do-clause-tells : goal.returns-in_ok-answer-in-Do-clause-tells
returns-in_ok-answer-in-Do-clause-tells g c = did_tells c.args.core.now c.do_ask.new.core (ask_call c.args.core.now.geometry c.args.core.now.cache c.args.core.now.desk c.in-Do.id c.in-Do.ask) c.in_ok-told-in-Do.ensures.ok c.requires.tells
