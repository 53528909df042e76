use Rattle.std.proofs.Common.{Option, Some, ◌∙◌, ap, subst}
use Rattle.flash_names.specs.declared.geometry.Geometry.{Geometry}
use Rattle.flash_seats.specs.Seats.{kept_of}
use Rattle.flash_seats.specs.declared.seat.Turn.{Turn}
use Rattle.flash_seats.specs.Turns.{steps_left, AfterPart, IsOver}
use Rattle.flash_seats.proofs.Parts.{begins, has_run}
use Rattle.flash_seats.proofs.seat.Seat.run.Goals as goal

-- it needs more bytes
pub returns-in-Idle-clause-run : goal.returns-in-Idle-clause-run
returns-in-Idle-clause-run g c = λ number seat is.
    let s = c.args.core.now in
    let s2 = c.turn_or_feed.new.core in
    let final = steps_left s.geometry seat.given seat.told (kept_of s, seat.told) number in
    let part = c.in_ok-turn.ensures.part number seat.given final (c.parts.invariant.going number seat.given final (begins s c.args.self.now number seat is)) in
    let last = subst (λ (p : Option Turn). AfterPart p c.parts.core.geometry number seat.given final (kept_of s2) c.turn_or_feed.new.self) (c.in-Some.is ∙ ap (λ (t : Turn). Some t) c.in-Idle.is) part in
    has_run s s2 c.turn_or_feed.new.self number seat (subst (λ (h : Geometry). IsOver h number seat.given final (kept_of s2) c.turn_or_feed.new.self) c.parts.invariant.geometry last)

-- it has met the end of its bytes
pub returns-in-Closed-clause-run : goal.returns-in-Closed-clause-run
returns-in-Closed-clause-run g c = λ number seat is.
    let s = c.args.core.now in
    let s2 = c.turn_or_feed.new.core in
    let final = steps_left s.geometry seat.given seat.told (kept_of s, seat.told) number in
    let part = c.in_ok-turn.ensures.part number seat.given final (c.parts.invariant.going number seat.given final (begins s c.args.self.now number seat is)) in
    let last = subst (λ (p : Option Turn). AfterPart p c.parts.core.geometry number seat.given final (kept_of s2) c.turn_or_feed.new.self) (c.in-Some.is ∙ ap (λ (t : Turn). Some t) c.in-Closed.is) part in
    has_run s s2 c.turn_or_feed.new.self number seat (subst (λ (h : Geometry). IsOver h number seat.given final (kept_of s2) c.turn_or_feed.new.self) c.parts.invariant.geometry last)
