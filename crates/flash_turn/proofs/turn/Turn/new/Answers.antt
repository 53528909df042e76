use Rattle.std.proofs.Common.{rules, ◌∷◌, [], ◌++◌, Some, subst, sym, ◌∙◌, ap, refl}
use Rattle.std.specs.Option.{option_and_then, option_map}
use Rattle.atomic_table.specs.Table.{opening}
use Rattle.flash_turn.specs.Rule.{LockRule, things_left}
use Rattle.flash_turn.specs.Steps.{first_view}
use Rattle.flash_turn.proofs.Opening.{opens}
use Rattle.flash_turn.proofs.Handed.{pass_of, first_idle}
use Rattle.flash_turn.proofs.turn.Turn.new.Goals as goal

pub new-requires-2 : goal.new-requires-2
new-requires-2 g c =
    let items = c.push_reserved.ensures.items ∙ ap (λ l. l ++ Some c.in-Ok.boxed ∷ []) c.in-Ok-with_capacity.ensures.items in
    let start = c.of-start.result.value in
    subst (λ l. LockRule g.T.Shared.story g.T.Shared.own g.T.Shared.fixed (opening (0 ∷ 0 ∷ 2 ∷ []) l (first_view start))) (sym items)
    (opens g.T.Shared.story g.T.Shared.own g.T.Shared.fixed c.in-Ok.boxed start (search rules) (ap g.T.Shared.own c.of-start.ensures ∙ c.requires))

pub emptied-requires : goal.emptied-requires
emptied-requires g c = (c.in-Ok.boxed, c.in-Err-new.ensures.err ∙ (c.push_reserved.ensures.items ∙ ap (λ l. l ++ Some c.in-Ok.boxed ∷ []) c.in-Ok-with_capacity.ensures.items))

pub returns-in-Ok-new-clause-made : goal.returns-in-Ok-new-clause-made
returns-in-Ok-new-clause-made g c =
    let e = c.in-Ok-new.ensures.ok in
    let start = c.of-start.result.value in
    let key = ap (λ k. k.value) e.5 in (
      pass_of g.T.Shared.fixed _ _ (first_view start) e.2 e.4 (first_idle start) (ap g.T.Shared.fixed (sym key)),
      refl,
      ap (λ m. option_and_then g.T.Shared.story m.0.seen) e.4 ∙ ap g.T.Shared.story c.of-start.ensures,
      ap (λ m. things_left g.T.Shared.own 1 m.0.left) e.4,
      ap (λ m. option_map g.T.Shared.face m.0.took) e.4,
      ap (λ m. option_map g.T.Shared.face m.0.left) e.4,
      ap g.T.Shared.fixed (key ∙ c.of-start.ensures),
    )
