use Rattle.std.proofs.Common.{◌∙◌, sym, subst, Option}
use Rattle.flash_names.specs.declared.geometry.Geometry.{Geometry}
use Rattle.flash_seats.specs.Seats.{IsSeat}
use Rattle.flash_seats.specs.Turns.{FedOrTurned}
use Rattle.flash_seats.specs.declared.seat.Turn.{Turn}
use Rattle.flash_seats.proofs.Single.{turned_from}
use Rattle.flash_seats.proofs.seat.Seat.turn.Goals as goal

pub returns-in-Some-clause-turned : goal.returns-in-Some-clause-turned
returns-in-Some-clause-turned g c = λ number seat is.
    let still = c.parts.invariant.still number seat is in
    let part = subst (λ (p : Option Turn). FedOrTurned p number seat c.parts.core c.turn_or_feed.new.core c.turn_or_feed.new.self) c.in-Some.is (c.in_ok-turn.ensures.turned number seat still.1) in
    turned_from c.in-Some.turn number seat c.args.core.now c.parts.core c.turn_or_feed.new.core c.turn_or_feed.new.self c.parts.invariant.geometry still.0 part

pub parts-preserved : goal.parts-preserved
parts-preserved g c = record {
  tells = c.in_ok-turn.ensures.tells;
  new = c.in_ok-turn.ensures.new;
  geometry = c.in_ok-turn.ensures.geometry ∙ c.parts.invariant.geometry;
  still = λ number seat is.
      let still = c.parts.invariant.still number seat is in
      let part = subst (λ (p : Option Turn). FedOrTurned p number seat c.parts.core c.turn_or_feed.new.core c.turn_or_feed.new.self) c.in_default.is (c.in_ok-turn.ensures.turned number seat still.1) in
      (part.0 ∙ still.0, subst (λ (h : Geometry). IsSeat h.item_max number seat c.turn_or_feed.new.self) (sym c.in_ok-turn.ensures.geometry) part.1);
}
