use Rattle.std.proofs.Common.{rules, [], ◌∷◌, ◌∙◌, ap, sym, false}
use Rattle.std.specs.Option.{option_and_then, option_map}
use Rattle.flash_turn.specs.Rule.{things_left}
use Rattle.flash_turn.specs.Steps.{new_view, split_left, split_right}
use Rattle.flash_turn.proofs.Splitting.{draws_number, puts_back_from, splits_from, all_below}
use Rattle.flash_turn.proofs.Handed.{pass_of, new_idle, drew, drew_idle}
use Rattle.flash_turn.proofs.pass.Pass.split.Goals as goal

pub fetch_add-drawn-requires : goal.fetch_add-drawn-requires
fetch_add-drawn-requires g c = let h = c.requires in (h.table, search rules, draws_number g.T.Shared.story g.T.Shared.own g.T.Shared.fixed _ _ _ _ h.idle.pending h.idle.over)

pub fetch_sub-requires : goal.fetch_sub-requires
fetch_sub-requires g c = let d = c.fetch_add-drawn.ensures in
    (d.0 ∙ c.requires.table, search rules, puts_back_from g.T.Shared.story g.T.Shared.own g.T.Shared.fixed _ _ c.fetch_add-drawn.new.seat.me c.args.self.now.seat.me.0 _ _ (d.2.1 (search rules)))

pub split_seat-seat-requires : goal.split_seat-seat-requires
split_seat-seat-requires g c = let d = c.fetch_add-drawn.ensures in
    (d.0 ∙ c.requires.table, search rules, splits_from g.T.Shared.story g.T.Shared.own g.T.Shared.fixed _ c.fetch_add-drawn.new.seat.me c.args.self.now.seat.me.0 _ c.fetch_add-drawn.result _ (d.2.0 (search rules)))

pub returns-then-drawn-ge-LIMIT-clause-pass : goal.returns-then-drawn-ge-LIMIT-clause-pass
returns-then-drawn-ge-LIMIT-clause-pass g c =
    let d = c.fetch_add-drawn.ensures in let v = c.args.self.now.seat.me.0 in let h = c.requires in
    let r = c.fetch_add-drawn.result in
    let e = c.fetch_sub.ensures.2 ∙ (ap (λ x. (record x.0 { over = false }, x.1)) (d.2.1 (search rules)) ∙ (ap (λ o. (record v { over = o; draws = r ∷ v.draws }, c.args.self.now.seat.me.1)) (sym h.idle.over) ∙ ap (λ l. (drew v r, l)) h.slots)) in
    pass_of g.T.Shared.fixed _ _ (drew v r) (c.fetch_sub.ensures.0 ∙ (d.0 ∙ h.table)) e (drew_idle _ v h.idle r) h.knows

pub returns-clause-pass : goal.returns-clause-pass
returns-clause-pass g c =
    let d = c.fetch_add-drawn.ensures in let v = c.args.self.now.seat.me.0 in let h = c.requires in let s = c.split_seat-seat.ensures in
    let r = c.fetch_add-drawn.result in
    let e = s.2 ∙ (ap (λ x. (split_left x.0, x.1)) (d.2.0 (search rules)) ∙ (ap (λ o. (record v { pending = o; draws = r ∷ v.draws }, c.args.self.now.seat.me.1)) (sym h.idle.pending) ∙ ap (λ l. (drew v r, l)) h.slots)) in
    pass_of g.T.Shared.fixed _ _ (drew v r) (s.0 ∙ (d.0 ∙ h.table)) e (drew_idle _ v h.idle r) h.knows

pub returns-clause-split : goal.returns-clause-split
returns-clause-split g c =
    let d = c.fetch_add-drawn.ensures in let v = c.args.self.now.seat.me.0 in let h = c.requires in let s = c.split_seat-seat.ensures in
    let r = c.fetch_add-drawn.result in
    let e = s.4 ∙ ap (λ x. (split_right x.0, [])) (d.2.0 (search rules)) in (
      record {
        pass = pass_of g.T.Shared.fixed c.args.turn.now (record { seat = c.split_seat-seat.result; number = r }) (new_view r v.seen) (s.3 ∙ (d.0 ∙ h.table)) e (new_idle _ v h.idle r) h.knows;
        seen_same = ap (λ x. option_and_then g.T.Shared.story x.0.seen) e;
        left_nothing = ap (λ x. things_left g.T.Shared.own r x.0.left) e;
        took_no_face = ap (λ x. option_map g.T.Shared.face x.0.took) e;
        left_no_face = ap (λ x. option_map g.T.Shared.face x.0.left) e;
        within = search rules;
        above = all_below g.T.Shared.story g.T.Shared.own g.T.Shared.fixed v r (search rules) d.2.2;
      },
      d.2.2,
    )
