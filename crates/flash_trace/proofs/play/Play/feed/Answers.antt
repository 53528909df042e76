use Rattle.std.proofs.Common.{◌≡◌, ◌++◌, not, ◌∙◌, ap, if◌then◌else◌, List, ℕ, ◌∷◌, []}
use Rattle.std.specs.Prelude.{codes, decimal}
use Rattle.flash_play.specs.Playing.{seat_at}
use Rattle.flash_trace.proofs.Playing.Played.{on_ok, both_ok}
use Rattle.flash_trace.proofs.Playing.Turns.{fed}
use Rattle.flash_trace.proofs.play.Play.feed.Goals as goal

pub returns-clause-done : goal.returns-clause-done
returns-clause-done c =
    let m = c.args.geometry.now.item_max in
    let number = c.args.session.number in
    let taken = c.in_ok-taken.taken in
    on_ok c.print_unless.result _ _
    (λ lines. λ p sixteen are said.
    let own = c.take_seat-seat.ensures.seat p are in
    let closed : taken ≡ not (seat_at p number).closed = c.in_ok-taken.ensures.taken ∙ ap not own.closed in
    fed m p c.args.line number (c.args.input.now ++ c.args.end.now) c.args.self.now.printed.items c.print_unless.new.self.printed.items c.args.self.now.seats.items c.take_seat-seat.new.self.seats.items
    c.print_unless.new.self.seats.items c.give_both.new.seat c.args.session.some c.take_seat-seat.ensures.seats (lines.1 ∙ c.put_seat.ensures.seats) are said taken closed (c.in_ok-taken.ensures.heard m number (seat_at p number) own)
    (lines.0 ∙ ap (λ (l : List ℕ). if taken then l else l ++ codes "closed" ++ 32 ∷ decimal c.args.line ++ 10 ∷ []) (c.put_seat.ensures.printed ∙ c.take_seat-seat.ensures.printed)))
    (both_ok c.print_unless.result _ _ c.print_unless.ensures.printed c.print_unless.ensures.seats)
