use Rattle.std.proofs.Common.{sym, ◌∙◌, subst}
use Rattle.flash_names.specs.declared.geometry.Geometry.{Geometry}
use Rattle.flash_play.specs.Playing.{seat_at}
use Rattle.flash_seats.specs.Seats.{IsSeat}
use Rattle.flash_trace.specs.Seats.{AreSeats}
use Rattle.flash_trace.proofs.Playing.Turns.{next_new, ran}
use Rattle.flash_trace.proofs.play.Play.run.Goals as goal

pub run-requires-clause-new : goal.run-requires-clause-new
run-requires-clause-new g c =
    let going = c.requires.going in
    let number = c.args.session.number in
    let own = subst (λ (h : Geometry). IsSeat h.item_max number (seat_at going.play number) c.take_seat-seat.result) c.geometry.ensures.same
    (c.take_seat-seat.ensures.seat going.play (subst (λ (h : Geometry). AreSeats h.item_max 1 going.play.seats c.args.self.now.seats.items) (sym c.geometry.ensures.same) going.is.seats)) in
    next_new c.a_seat_has_the_next_number.ensures c.args.core.now c.args.self.now number c.take_seat-seat.result going (record { some = c.args.session.some; within = c.args.session.within }) own

pub returns-clause-done : goal.returns-clause-done
returns-clause-done g c = λ p is.
    let number = c.args.session.number in
    let own = subst (λ (h : Geometry). IsSeat h.item_max number (seat_at p number) c.take_seat-seat.result) c.geometry.ensures.same
    (c.take_seat-seat.ensures.seat p (subst (λ (h : Geometry). AreSeats h.item_max 1 p.seats c.args.self.now.seats.items) (sym c.geometry.ensures.same) is.seats)) in
    ran c.args.core.now c.run.new.core c.args.self.now c.put_seat.new.self c.take_seat-seat.new.self p number c.run.new.self c.args.session.some c.take_seat-seat.ensures.seats c.put_seat.ensures.seats
    (c.put_seat.ensures.printed ∙ c.take_seat-seat.ensures.printed) c.in_ok-run.ensures.geometry (c.in_ok-run.ensures.run number (seat_at p number) own) is
