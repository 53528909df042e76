use Rattle.std.proofs.Common.{◌≡◌, ◌∙◌, ap, sym, refl, subst, box_value, IsSome}
use Rattle.std.specs.Global.{Global}
use Rattle.flash_turn.specs.Passes.{view_of, FitsPass}
use Rattle.flash_turn.specs.Closing.{IsLast, IsOut}
use Rattle.flash_turn.proofs.Ending.{last, is_out, left_there}
use Rattle.flash_turn.proofs.turn.Turn.close.Goals as goal

pub returns-then-tickets-served : goal.returns-then-tickets-served
returns-then-tickets-served g c =
    subst (λ x. IsOut g.T.Shared.story g.T.Shared.own g.T.Shared.fixed Global c.args.pass x.words.items x.slots.items) (sym c.of-at_end.ensures)
    (is_out g.T.Shared.story g.T.Shared.own g.T.Shared.fixed c.args.self c.args.pass _ _ c.close_with-closed.ensures.values.2 _ _ c.word-tickets.ensures c.word-served.ensures c.if-tickets-served.true)

pub unwrap-requires : goal.unwrap-requires
unwrap-requires g c =
    let final = c.close_with-closed.ensures.values.2 in
    let t = left_there g.T.Shared.story g.T.Shared.own g.T.Shared.fixed c.args.self c.args.pass _ _ final _ _ c.take-slot.result c.requires c.word-tickets.ensures c.word-served.ensures c.if-tickets-served.false c.take-slot.ensures.value in
    subst IsSome (sym t.1) refl

pub returns : goal.returns
returns g c =
    let final = c.close_with-closed.ensures.values.2 in
    let t = left_there g.T.Shared.story g.T.Shared.own g.T.Shared.fixed c.args.self c.args.pass _ _ final _ _ c.take-slot.result c.requires c.word-tickets.ensures c.word-served.ensures c.if-tickets-served.false c.take-slot.ensures.value in
    let is : t.0 ≡ c.unwrap.result = cc (t.1, c.unwrap.ensures) in
    (subst (λ y. FitsPass g.T.Shared.story g.T.Shared.own g.T.Shared.fixed c.args.self c.args.pass y) (ap box_value is ∙ sym c.into_inner.ensures) t.2, (c.word-tickets.result, subst (λ k. IsLast g.T.Shared.story g.T.Shared.own g.T.Shared.fixed Global c.args.pass c.word-tickets.result k) (sym c.if-tickets-served.false) (last g.T.Shared.story g.T.Shared.own g.T.Shared.fixed c.args.self c.args.pass _ _ final c.word-tickets.result c.word-served.result c.word-tickets.ensures c.word-served.ensures)))
