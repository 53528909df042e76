use Rattle.std.proofs.Common.{◌≡◌, ℕ, ◌+◌, length, ◌∙◌, ap, arith}
use Rattle.flash_names.specs.declared.place.Id.{Id}
use Rattle.flash_session.specs.Stands.{one_if}
use Rattle.flash_seats.proofs.laws.a_seat_has_the_next_number.Goals as goal

pub returns : goal.returns
returns c = λ item_max number seat code is.
    let counted = c.steps_are_counted.ensures is.fed seat.told seat.replies code.session is.stands in
    let none : one_if code.session.owed ≡ 0 = ap one_if is.free in
    let last : code.session.last + 1 ≡ length seat.told + 1 = omega (arith, counted, none) in
    let by : ℕ → ℕ → Id = λ pass seq. record { pass = pass; seq = seq } in
    ap (λ (n : ℕ). by n (code.session.last + 1)) is.pass ∙ ap (by number) last
