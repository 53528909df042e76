use Rattle.std.proofs.Common.{◌-◌, ℕ, List, length, Some, ap, sym, subst, ◌∙◌}
use Rattle.std.specs.FinMap as finite
use Rattle.flash_names.specs.KeyHash.{hash_of}
use Rattle.flash_table.specs.declared.entry.Entry.{Entry}
use Rattle.flash_table.specs.Chains.{with_entry, IsSlotOf}
use Rattle.flash_table.specs.Entries.{vacant}
use Rattle.flash_table.specs.Flat.{flat}
use Rattle.flash_table.specs.Maps.{items_in, keys_in}
use Rattle.flash_table.specs.Home.{home}
use Rattle.flash_table.specs.Slots.{slots_in, Empties}
use Rattle.flash_table.specs.Table.{TableState, IsTable}
use Rattle.flash_table.proofs.ById.{slot_names}
use Rattle.flash_table.proofs.ChainSlots.{item_found}
use Rattle.flash_table.proofs.TableRemoved.{table_now, map_is, keys_are, some_counted, empties}
use Rattle.flash_table.proofs.table.Table.take.Goals as goal

pub overflow_sub-self : goal.overflow_sub-self
overflow_sub-self c =
    let store = c.self.inside.keys in
    let next = c.take_out-item.new.keys in
    let chains = c.self.inside.chains.items in
    let key = c.slot_of_id-home.ensures.key in
    let h = c.slot_of_id-home.result.0 in
    let slot = c.slot_of_id-home.result.1 in
    let at : IsSlotOf store chains key h slot = c.slot_of_id-home.ensures.slot in
    some_counted store next chains c.self.inside.power c.self.inside.last c.self.inside.spare c.self.inside.count c.self.invariant key h slot at c.take_out-item.ensures.names c.take_out-item.ensures.room

pub invariant_of-self : goal.invariant_of-self
invariant_of-self c =
    let store = c.self.inside.keys in
    let next = c.take_out-item.new.keys in
    let chains = c.self.inside.chains.items in
    let key = c.slot_of_id-home.ensures.key in
    let h = c.slot_of_id-home.result.0 in
    let slot = c.slot_of_id-home.result.1 in
    let at : IsSlotOf store chains key h slot = c.slot_of_id-home.ensures.slot in
    subst (λ (cs : List (List Entry)). IsTable next cs c.self.inside.power c.self.inside.last c.self.inside.spare (c.self.inside.count - 1)) (sym c.take_out-item.ensures.chains)
    (table_now store next chains c.self.inside.power c.self.inside.last c.self.inside.spare c.self.inside.count c.self.invariant key h slot at c.take_out-item.ensures.names c.take_out-item.ensures.room)

pub returns-clause-taken : goal.returns-clause-taken
returns-clause-taken c =
    let store = c.self.inside.keys in
    let next = c.take_out-item.new.keys in
    let chains = c.self.inside.chains.items in
    let key = c.slot_of_id-home.ensures.key in
    let h = c.slot_of_id-home.result.0 in
    let slot = c.slot_of_id-home.result.1 in
    let at : IsSlotOf store chains key h slot = c.slot_of_id-home.ensures.slot in
    record {
      key = key;
      named = ap (λ (s : TableState). finite.get s.keys c.args.id.number) (sym c.self.view_is)
          ∙ ap (finite.get (keys_in store (flat chains))) (sym c.slot_of_id-home.ensures.is_id) ∙ slot_names store chains c.self.invariant.chained key h slot at;
      had = ap (λ (s : TableState). finite.get s.map key) (sym c.self.view_is) ∙ item_found store chains c.self.invariant.chained key h slot at ∙ ap (λ (n : ℕ). Some n) (sym c.take_out-item.ensures.item);
      removed = ap (λ (cs : List (List Entry)). items_in next (flat cs)) c.take_out-item.ensures.chains
          ∙ map_is store next chains c.self.inside.power c.self.inside.last c.self.inside.spare c.self.inside.count c.self.invariant key h slot at c.take_out-item.ensures.names c.take_out-item.ensures.room
          ∙ ap (λ (s : TableState). finite.remove s.map key) c.self.view_is;
      emptied = subst (λ (s : TableState). Empties s.chains (slots_in next c.take_out-item.new.chains.items) (home s.homes (hash_of key)) key c.take_out-item.result) c.self.view_is
          (subst (λ (cs : List (List Entry)). Empties (slots_in store chains) (slots_in next cs) (home (length chains) (hash_of key)) key c.take_out-item.result) (sym c.take_out-item.ensures.chains)
          (subst (λ (x : ℕ). Empties (slots_in store chains) (slots_in next (with_entry chains h slot vacant)) (home (length chains) (hash_of key)) key x) (sym c.take_out-item.ensures.item)
          (empties store next chains c.self.inside.power c.self.inside.last c.self.inside.spare c.self.inside.count c.self.invariant key h slot at c.take_out-item.ensures.names c.take_out-item.ensures.room)));
    }

pub returns-clause-keys : goal.returns-clause-keys
returns-clause-keys c =
    let store = c.self.inside.keys in
    let next = c.take_out-item.new.keys in
    let chains = c.self.inside.chains.items in
    let key = c.slot_of_id-home.ensures.key in
    let h = c.slot_of_id-home.result.0 in
    let slot = c.slot_of_id-home.result.1 in
    let at : IsSlotOf store chains key h slot = c.slot_of_id-home.ensures.slot in
    ap (λ (cs : List (List Entry)). keys_in next (flat cs)) c.take_out-item.ensures.chains
    ∙ keys_are store next chains c.self.inside.power c.self.inside.last c.self.inside.spare c.self.inside.count c.self.invariant key h slot at c.take_out-item.ensures.names c.take_out-item.ensures.room
    ∙ ap (finite.remove (keys_in store (flat chains))) c.slot_of_id-home.ensures.is_id
    ∙ ap (λ (s : TableState). finite.remove s.keys c.args.id.number) c.self.view_is
