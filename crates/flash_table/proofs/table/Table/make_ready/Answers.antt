use Rattle.std.proofs.Common.{ap, subst, ◌∙◌, arith}
use Rattle.flash_table.specs.AtHome.{SameSlots}
use Rattle.flash_table.specs.Table.{TableState, state_of}
use Rattle.flash_table.proofs.TableReady.{items_kept, keys_kept, slots_kept, table_with, ready_now}
use Rattle.flash_table.proofs.table.Table.make_ready.Goals as goal

pub invariant_of-self-in_err-reserve_one : goal.invariant_of-self-in_err-reserve_one
invariant_of-self-in_err-reserve_one c =
    table_with c.self.inside.keys c.reserve_one.new.self c.self.inside.chains.items c.make_room.new.chains.items c.self.inside.power c.self.inside.last c.self.inside.spare c.self.inside.count c.self.invariant c.reserve_one.ensures.kept c.in_ok-make_room.ensures.made
    c.self.inside.spare c.self.invariant.one_spare (λ more. absurd (omega (arith, more)))

pub returns-in_err-reserve_one-clause-map : goal.returns-in_err-reserve_one-clause-map
returns-in_err-reserve_one-clause-map c =
    items_kept c.self.inside.keys c.reserve_one.new.self c.self.inside.chains.items c.make_room.new.chains.items c.self.inside.power c.self.inside.last c.self.inside.spare c.self.inside.count c.self.invariant c.reserve_one.ensures.kept c.in_ok-make_room.ensures.made
    ∙ ap (λ (s : TableState). s.map) c.self.view_is

pub returns-in_err-reserve_one-clause-keys : goal.returns-in_err-reserve_one-clause-keys
returns-in_err-reserve_one-clause-keys c =
    keys_kept c.self.inside.keys c.reserve_one.new.self c.self.inside.chains.items c.make_room.new.chains.items c.self.inside.power c.self.inside.last c.self.inside.spare c.self.inside.count c.self.invariant c.reserve_one.ensures.kept c.in_ok-make_room.ensures.made
    ∙ ap (λ (s : TableState). s.keys) c.self.view_is

pub invariant_of-self-2 : goal.invariant_of-self-2
invariant_of-self-2 c =
    table_with c.self.inside.keys c.reserve_one.new.self c.self.inside.chains.items c.make_room.new.chains.items c.self.inside.power c.self.inside.last c.self.inside.spare c.self.inside.count c.self.invariant c.reserve_one.ensures.kept c.in_ok-make_room.ensures.made
    1 (omega arith) (λ more. ready_now c.self.inside.keys c.reserve_one.new.self c.self.inside.chains.items c.make_room.new.chains.items c.self.inside.power c.self.inside.last c.self.inside.spare c.self.inside.count c.self.invariant c.reserve_one.ensures.kept c.in_ok-make_room.ensures.made c.in_ok-reserve_one.ensures.room (omega arith))

pub returns-clause-map : goal.returns-clause-map
returns-clause-map c =
    items_kept c.self.inside.keys c.reserve_one.new.self c.self.inside.chains.items c.make_room.new.chains.items c.self.inside.power c.self.inside.last c.self.inside.spare c.self.inside.count c.self.invariant c.reserve_one.ensures.kept c.in_ok-make_room.ensures.made
    ∙ ap (λ (s : TableState). s.map) c.self.view_is

pub returns-clause-keys : goal.returns-clause-keys
returns-clause-keys c =
    keys_kept c.self.inside.keys c.reserve_one.new.self c.self.inside.chains.items c.make_room.new.chains.items c.self.inside.power c.self.inside.last c.self.inside.spare c.self.inside.count c.self.invariant c.reserve_one.ensures.kept c.in_ok-make_room.ensures.made
    ∙ ap (λ (s : TableState). s.keys) c.self.view_is

pub returns-in_err-reserve_one-clause-slots : goal.returns-in_err-reserve_one-clause-slots
returns-in_err-reserve_one-clause-slots c =
    let new : TableState = state_of c.reserve_one.new.self c.make_room.new.chains.items c.self.inside.spare in
    subst (λ (s : TableState). SameSlots s new) c.self.view_is
    (slots_kept c.self.inside.keys c.reserve_one.new.self c.self.inside.chains.items c.make_room.new.chains.items c.self.inside.power c.self.inside.last c.self.inside.spare c.self.inside.count c.self.invariant c.reserve_one.ensures.kept c.in_ok-make_room.ensures.made)

pub returns-clause-slots : goal.returns-clause-slots
returns-clause-slots c =
    let new : TableState = state_of c.reserve_one.new.self c.make_room.new.chains.items 1 in
    subst (λ (s : TableState). SameSlots s new) c.self.view_is
    (slots_kept c.self.inside.keys c.reserve_one.new.self c.self.inside.chains.items c.make_room.new.chains.items c.self.inside.power c.self.inside.last c.self.inside.spare c.self.inside.count c.self.invariant c.reserve_one.ensures.kept c.in_ok-make_room.ensures.made)
