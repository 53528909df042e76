use Rattle.std.proofs.Common.{ℕ, List, append_assoc, subst}
use Rattle.flash_seats.specs.Seats.{IsSeat}
use Rattle.flash_play.specs.Playing.{seat_with_more}
use Rattle.flash_trace.proofs.play.give_both.Goals as goal

pub returns-clause-heard : goal.returns-clause-heard
returns-clause-heard c = λ item_max number s is.
    subst (λ (l : List ℕ). IsSeat item_max number (record s { given = l }) c.give-2.new.self) (append_assoc s.given c.args.input.now c.args.end.now)
    (c.in_ok-give-2.ensures.given item_max number (seat_with_more s c.args.input.now) (c.in_ok-give.ensures.given item_max number s is))
