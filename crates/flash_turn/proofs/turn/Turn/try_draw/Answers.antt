use Rattle.std.proofs.Common.{rules}
use Rattle.flash_turn.proofs.Entering.{draws}
use Rattle.flash_turn.proofs.turn.Turn.try_draw.Goals as goal

pub compare_exchange-found-requires : goal.compare_exchange-found-requires
compare_exchange-found-requires g c = let h = c.requires in (h.table, search rules, draws g.T.Shared.story g.T.Shared.own g.T.Shared.fixed _ _ _ _ h.ticket)
