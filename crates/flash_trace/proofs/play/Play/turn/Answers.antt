use Rattle.std.proofs.Common.{ℕ, List, sym, ◌∙◌, ap, subst}
use Rattle.flash_names.specs.declared.geometry.Geometry.{Geometry}
use Rattle.flash_play.specs.Playing.{seat_at}
use Rattle.flash_seats.specs.Seats.{IsSeat}
use Rattle.flash_trace.specs.Seats.{AreSeats, with_turn_line}
use Rattle.flash_trace.proofs.Playing.Played.{on_ok, both_ok}
use Rattle.flash_trace.proofs.Playing.Turns.{next_new, took_turn}
use Rattle.flash_trace.proofs.play.Play.turn.Goals as goal

pub turn-requires-clause-new : goal.turn-requires-clause-new
turn-requires-clause-new g c =
    let going = c.requires.going in
    let number = c.args.session.number in
    let own = subst (λ (h : Geometry). IsSeat h.item_max number (seat_at going.play number) c.take_seat-seat.result) c.geometry.ensures.same
    (c.take_seat-seat.ensures.seat going.play (subst (λ (h : Geometry). AreSeats h.item_max 1 going.play.seats c.args.self.now.seats.items) (sym c.geometry.ensures.same) going.is.seats)) in
    next_new c.a_seat_has_the_next_number.ensures c.args.core.now c.args.self.now number c.take_seat-seat.result going (record { some = c.args.session.some; within = c.args.session.within }) own

pub returns-clause-done : goal.returns-clause-done
returns-clause-done g c =
    let number = c.args.session.number in
    let turn = c.in_ok-turn.turn in
    on_ok c.print_turn.result _ _
    (λ printed. λ p is.
    let own = subst (λ (h : Geometry). IsSeat h.item_max number (seat_at p number) c.take_seat-seat.result) c.geometry.ensures.same
    (c.take_seat-seat.ensures.seat p (subst (λ (h : Geometry). AreSeats h.item_max 1 p.seats c.args.self.now.seats.items) (sym c.geometry.ensures.same) is.seats)) in
    took_turn c.args.core.now c.turn.new.core c.args.self.now c.print_turn.new.self c.take_seat-seat.new.self p number c.args.line turn c.turn.new.self c.args.session.some c.take_seat-seat.ensures.seats
    (printed.1 ∙ c.put_seat.ensures.seats)
    (printed.0 ∙ ap (λ (l : List ℕ). with_turn_line l c.args.line turn) (c.put_seat.ensures.printed ∙ c.take_seat-seat.ensures.printed))
    c.in_ok-turn.ensures.geometry (c.in_ok-turn.ensures.turned number (seat_at p number) own) is)
    (both_ok c.print_turn.result _ _ c.print_turn.ensures.printed c.print_turn.ensures.seats)
