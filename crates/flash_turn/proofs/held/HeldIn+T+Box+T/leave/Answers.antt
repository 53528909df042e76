use Rattle.std.proofs.Common.{rules, ◌∷◌, Some, ◌∙◌, ap}
use Rattle.atomic_table.specs.Table.{rest}
use Rattle.flash_turn.proofs.Leaving.{serves_from}
use Rattle.flash_turn.proofs.Handed.{pass_of, left_idle, served}
use Rattle.flash_turn.proofs.held.HeldIn+T+Box+T.leave.Goals as goal

pub fetch_add-requires : goal.fetch_add-requires
fetch_add-requires g c =
    let h = c.requires.held in let old = c.args.self.pass.now.seat.me.0 in let e = c.exchange-none.ensures in
    let is = e.3 ∙ ap (λ l. (old, (0, Some c.args.self.value) ∷ rest l)) h.slot in
    (search rules, search rules, serves_from g.T.Shared.story g.T.Shared.own g.T.Shared.fixed _ _ _ old c.args.self.value c.args.self.taken.value _ _ _ c.args.self.turn.now.sized.1 is h.holding.ticket h.holding.has h.took h.holding.numbers c.requires.story c.requires.own c.requires.fixed)

pub returns-clause-pass : goal.returns-clause-pass
returns-clause-pass g c =
    let h = c.requires.held in let old = c.args.self.pass.now.seat.me.0 in let e = c.exchange-none.ensures in
    let is = e.3 ∙ ap (λ l. (old, (0, Some c.args.self.value) ∷ rest l)) h.slot in
    pass_of g.T.Shared.fixed _ _ _ (search rules) (served _ _ c.fetch_add.result old c.args.self.value is c.fetch_add.ensures.2) (left_idle _ old c.args.self.value.value h.holding) (c.requires.fixed ∙ h.knows)
