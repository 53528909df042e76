use Rattle.std.proofs.Common.{◌≡◌, get_or, sym, ◌∙◌, ap}
use Rattle.flash_trace.proofs.Playing.SeatLists.{seat_at_place}
use Rattle.flash_trace.proofs.play.Play.take_seat.Goals as goal

pub returns-clause-seat : goal.returns-clause-seat
returns-clause-seat c =
    let seats = c.args.self.now.seats.items in
    let index = c.index.result in
    let taken = c.replace-made.ensures.value in
    let there : c.replace-made.result ≡ get_or seats index c.replace-made.result =
    taken ∙ c.index_mut.ensures.value ∙ ap (λ seat. get_or seats index seat) (sym taken) in
    λ p are. seat_at_place c.args.item_max c.args.session.number index seats c.replace-made.result c.index.ensures.index c.requires.places c.index.ensures.within there p c.made_or_new.result c.made_or_new.ensures are
