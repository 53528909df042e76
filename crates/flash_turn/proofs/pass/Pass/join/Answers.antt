use Rattle.std.proofs.Common.{rules, ◌∙◌}
use Rattle.flash_turn.specs.Steps.{joined_view}
use Rattle.flash_turn.proofs.Joining.{joins, compares_from}
use Rattle.flash_turn.proofs.Joined.{after_join}
use Rattle.flash_turn.proofs.pass.Pass.join.Goals as goal

pub join_seat-requires : goal.join_seat-requires
join_seat-requires g c = let h = c.requires.own in let o = c.requires.other in
    (h.table, o.table, o.slots, search rules, joins g.T.Shared.story g.T.Shared.own g.T.Shared.fixed _ _ c.args.self.now.seat.me.0 c.args.other.seat.me.0 _ _ h.idle.numbers o.idle.ticket o.idle.has o.idle.pending o.idle.over)

pub load-requires : goal.load-requires
load-requires g c = let h = c.requires.own in let o = c.requires.other in let j = c.join_seat.ensures in
    (j.0 ∙ h.table, search rules, compares_from g.T.Shared.story g.T.Shared.own g.T.Shared.fixed _ _ c.join_seat.new.seat.me (joined_view c.args.self.now.seat.me.0 c.args.other.seat.me.0) c.args.self.now.seat.me.1 h.idle.last o.idle.last j.2 h.idle.seen o.idle.seen)

pub returns-clause-pass : goal.returns-clause-pass
returns-clause-pass g c = let h = c.requires.own in let j = c.join_seat.ensures in let l = c.load.ensures in
    (after_join g.T.Shared.story g.T.Shared.own g.T.Shared.fixed c.args.turn.now c.args.self.now c.args.other c.load.new.seat c.join_seat.new.seat.me c.load.result h c.requires.other (l.0 ∙ (j.0 ∙ h.table)) j.2 l.2).0

pub returns-clause-joined : goal.returns-clause-joined
returns-clause-joined g c = let h = c.requires.own in let j = c.join_seat.ensures in let l = c.load.ensures in
    (after_join g.T.Shared.story g.T.Shared.own g.T.Shared.fixed c.args.turn.now c.args.self.now c.args.other c.load.new.seat c.join_seat.new.seat.me c.load.result h c.requires.other (l.0 ∙ (j.0 ∙ h.table)) j.2 l.2).1
