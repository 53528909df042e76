use Rattle.std.proofs.Common.{◌≡◌, rules, Some, box_value, IsSome, subst, sym, ◌∙◌, ap, refl}
use Rattle.flash_turn.specs.Passes.{FitsPass}
use Rattle.flash_turn.proofs.Entering.{looks_from}
use Rattle.flash_turn.proofs.Handed.{taken_me, meets, taken_holding, found_own, found_other, slot_of, moved_out, holding_of}
use Rattle.flash_turn.proofs.turn.Turn.take.Goals as goal

pub loop-init : goal.loop-init
loop-init g c = let d = c.draw-ticket.ensures in record {
  table = d.table;
  number = d.number;
  waits = (d.drawn.0, d.drawn.1, d.drawn.2 ∙ ap (λ l. (record c.args.pass.now.seat.me.0 { ticket = Some d.drawn.0 }, l)) c.requires.slots);
}

pub load-requires : goal.load-requires
load-requires g c = let i = c.loop.invariant in
    (i.table ∙ c.requires.table, search rules, looks_from g.T.Shared.story g.T.Shared.own g.T.Shared.fixed _ _ _ (record c.args.pass.now.seat.me.0 { ticket = Some i.waits.0 }) i.waits.0 c.args.self.now.sized.1 i.waits.2 refl c.requires.idle.has)

pub exchange-requires : goal.exchange-requires
exchange-requires g c =
    let i = c.loop.invariant in let v = c.args.pass.now.seat.me.0 in
    let t = found_own g.T.Shared.story g.T.Shared.own g.T.Shared.fixed c.loop.pass.seat.me c.load.new.seat.me v i.waits.0 _ _ i.waits.2 c.load.ensures.2 i.waits.1 c.if-load-ticket.true in
    (c.load.ensures.0 ∙ (i.table ∙ c.requires.table), (Some t.0, slot_of g.T.Shared.story g.T.Shared.own g.T.Shared.fixed c.loop.pass.seat.me c.load.new.seat.me t))

pub unwrap-requires : goal.unwrap-requires
unwrap-requires g c =
    let i = c.loop.invariant in let v = c.args.pass.now.seat.me.0 in
    let t = found_own g.T.Shared.story g.T.Shared.own g.T.Shared.fixed c.loop.pass.seat.me c.load.new.seat.me v i.waits.0 _ _ i.waits.2 c.load.ensures.2 i.waits.1 c.if-load-ticket.true in
    subst IsSome (sym (moved_out g.T.Shared.story g.T.Shared.own g.T.Shared.fixed c.loop.pass.seat.me c.load.new.seat.me t c.exchange.result c.exchange.ensures.2)) refl

pub loop-preserved : goal.loop-preserved
loop-preserved g c =
    let i = c.loop.invariant in let v = c.args.pass.now.seat.me.0 in
    let same = found_other g.T.Shared.story g.T.Shared.own g.T.Shared.fixed c.loop.pass.seat.me c.load.new.seat.me v i.waits.0 _ _ i.waits.2 c.load.ensures.2 i.waits.1 c.if-load-ticket.false in record {
      table = c.load.ensures.0 ∙ i.table;
      number = i.number;
      waits = (i.waits.0, i.waits.1, same ∙ i.waits.2);
    }

pub returns-then-load-ticket : goal.returns-then-load-ticket
returns-then-load-ticket g c =
    let i = c.loop.invariant in let v = c.args.pass.now.seat.me.0 in
    let t = found_own g.T.Shared.story g.T.Shared.own g.T.Shared.fixed c.loop.pass.seat.me c.load.new.seat.me v i.waits.0 _ _ i.waits.2 c.load.ensures.2 i.waits.1 c.if-load-ticket.true in
    let me = taken_me g.T.Shared.story g.T.Shared.own g.T.Shared.fixed _ _ _ v i.waits.0 i.waits.2 t c.exchange.ensures.3 in
    let out = moved_out g.T.Shared.story g.T.Shared.own g.T.Shared.fixed c.loop.pass.seat.me c.load.new.seat.me t c.exchange.result c.exchange.ensures.2 in
    let is : t.0 ≡ c.unwrap.result = cc (out, c.unwrap.ensures) in
    let value = ap box_value is in record {
      table = c.exchange.ensures.0 ∙ (c.load.ensures.0 ∙ i.table);
      slot = ap (λ m. m.1) me;
      number = i.number;
      holding = rw (i.number) (holding_of _ _ _ _ me (taken_holding c.args.pass.now.number i.waits.0 v t.0.value c.requires.idle));
      took = ap (λ m. m.0.took) me ∙ ap Some value;
      told = subst (λ y. FitsPass g.T.Shared.story g.T.Shared.own g.T.Shared.fixed c.args.self.now c.args.pass.now y) value (meets g.T.Shared.story g.T.Shared.own g.T.Shared.fixed c.args.self.now c.args.pass.now c.loop.pass.seat.me c.load.new.seat.me i.waits.0 c.requires i.waits.2 t);
    }
