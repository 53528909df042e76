use Rattle.std.proofs.Common.{◌≡◌, ◌-◌, ℕ, List, length, Some, None, ap, sym, subst, ◌∙◌}
use Rattle.std.specs.FinMap as finite
use Rattle.flash_names.specs.KeyHash.{hash_of}
use Rattle.flash_table.specs.declared.entry.Entry.{Entry}
use Rattle.flash_table.specs.Chains.{chain_of, with_entry, IsSlotOf}
use Rattle.flash_table.specs.Entries.{vacant, entry_at}
use Rattle.flash_table.specs.Flat.{flat}
use Rattle.flash_table.specs.Maps.{items_in, keys_in}
use Rattle.flash_table.specs.Home.{home}
use Rattle.flash_table.specs.Slots.{slots_in, Empties}
use Rattle.flash_table.specs.Table.{TableState, IsTable}
use Rattle.flash_table.proofs.ById.{slot_names}
use Rattle.flash_table.proofs.ChainSlots.{item_found}
use Rattle.flash_table.proofs.Maps.{remove_absent}
use Rattle.flash_table.proofs.TableRemoved.{table_now, map_is, keys_are, some_counted, empties}
use Rattle.flash_table.proofs.table.Table.remove.Goals as goal

pub overflow_sub-self : goal.overflow_sub-self
overflow_sub-self c =
    let store = c.self.inside.keys in
    let next = c.take_out-item.new.keys in
    let chains = c.self.inside.chains.items in
    let key = c.args.key.now in
    let h = c.in-Some.home in
    let slot = c.in-Some.slot in
    let at : IsSlotOf store chains key h slot = subst (λ (k : List ℕ). IsSlotOf store chains k h slot) c.bytes.ensures.same c.in-Some.ensures.found in
    some_counted store next chains c.self.inside.power c.self.inside.last c.self.inside.spare c.self.inside.count c.self.invariant key h slot at c.take_out-item.ensures.names c.take_out-item.ensures.room

pub invariant_of-self : goal.invariant_of-self
invariant_of-self c =
    let store = c.self.inside.keys in
    let next = c.take_out-item.new.keys in
    let chains = c.self.inside.chains.items in
    let key = c.args.key.now in
    let h = c.in-Some.home in
    let slot = c.in-Some.slot in
    let at : IsSlotOf store chains key h slot = subst (λ (k : List ℕ). IsSlotOf store chains k h slot) c.bytes.ensures.same c.in-Some.ensures.found in
    subst (λ (cs : List (List Entry)). IsTable next cs c.self.inside.power c.self.inside.last c.self.inside.spare (c.self.inside.count - 1)) (sym c.take_out-item.ensures.chains)
    (table_now store next chains c.self.inside.power c.self.inside.last c.self.inside.spare c.self.inside.count c.self.invariant key h slot at c.take_out-item.ensures.names c.take_out-item.ensures.room)

pub returns-in-Some-clause-item : goal.returns-in-Some-clause-item
returns-in-Some-clause-item c =
    let store = c.self.inside.keys in
    let next = c.take_out-item.new.keys in
    let chains = c.self.inside.chains.items in
    let key = c.args.key.now in
    let h = c.in-Some.home in
    let slot = c.in-Some.slot in
    let at : IsSlotOf store chains key h slot = subst (λ (k : List ℕ). IsSlotOf store chains k h slot) c.bytes.ensures.same c.in-Some.ensures.found in
    ap (λ (n : ℕ). Some n) c.take_out-item.ensures.item
    ∙ sym (item_found store chains c.self.invariant.chained key h slot at)
    ∙ ap (λ (s : TableState). finite.get s.map key) c.self.view_is

pub returns-in-Some-clause-slot : goal.returns-in-Some-clause-slot
returns-in-Some-clause-slot c =
    let store = c.self.inside.keys in
    let next = c.take_out-item.new.keys in
    let chains = c.self.inside.chains.items in
    let key = c.args.key.now in
    let h = c.in-Some.home in
    let slot = c.in-Some.slot in
    let at : IsSlotOf store chains key h slot = subst (λ (k : List ℕ). IsSlotOf store chains k h slot) c.bytes.ensures.same c.in-Some.ensures.found in
    subst (λ (s : TableState). Empties s.chains (slots_in next c.take_out-item.new.chains.items) (home s.homes (hash_of key)) key c.take_out-item.result) c.self.view_is
    (subst (λ (cs : List (List Entry)). Empties (slots_in store chains) (slots_in next cs) (home (length chains) (hash_of key)) key c.take_out-item.result) (sym c.take_out-item.ensures.chains)
    (subst (λ (x : ℕ). Empties (slots_in store chains) (slots_in next (with_entry chains h slot vacant)) (home (length chains) (hash_of key)) key x) (sym c.take_out-item.ensures.item)
    (empties store next chains c.self.inside.power c.self.inside.last c.self.inside.spare c.self.inside.count c.self.invariant key h slot at c.take_out-item.ensures.names c.take_out-item.ensures.room)))

pub returns-in-Some-clause-map : goal.returns-in-Some-clause-map
returns-in-Some-clause-map c =
    let store = c.self.inside.keys in
    let next = c.take_out-item.new.keys in
    let chains = c.self.inside.chains.items in
    let key = c.args.key.now in
    let h = c.in-Some.home in
    let slot = c.in-Some.slot in
    let at : IsSlotOf store chains key h slot = subst (λ (k : List ℕ). IsSlotOf store chains k h slot) c.bytes.ensures.same c.in-Some.ensures.found in
    ap (λ (cs : List (List Entry)). items_in next (flat cs)) c.take_out-item.ensures.chains
    ∙ map_is store next chains c.self.inside.power c.self.inside.last c.self.inside.spare c.self.inside.count c.self.invariant key h slot at c.take_out-item.ensures.names c.take_out-item.ensures.room
    ∙ ap (λ (s : TableState). finite.remove s.map key) c.self.view_is

pub returns-in-Some-clause-keys : goal.returns-in-Some-clause-keys
returns-in-Some-clause-keys c =
    let store = c.self.inside.keys in
    let next = c.take_out-item.new.keys in
    let chains = c.self.inside.chains.items in
    let key = c.args.key.now in
    let h = c.in-Some.home in
    let slot = c.in-Some.slot in
    let at : IsSlotOf store chains key h slot = subst (λ (k : List ℕ). IsSlotOf store chains k h slot) c.bytes.ensures.same c.in-Some.ensures.found in
    let id = (entry_at (chain_of chains h) slot).id.number in
    record {
      id = id;
      named = ap (λ (s : TableState). finite.get s.keys id) (sym c.self.view_is) ∙ slot_names store chains c.self.invariant.chained key h slot at;
      removed = ap (λ (cs : List (List Entry)). keys_in next (flat cs)) c.take_out-item.ensures.chains
          ∙ keys_are store next chains c.self.inside.power c.self.inside.last c.self.inside.spare c.self.inside.count c.self.invariant key h slot at c.take_out-item.ensures.names c.take_out-item.ensures.room
          ∙ ap (λ (s : TableState). finite.remove s.keys id) c.self.view_is;
    }

pub returns-in-None-clause-map : goal.returns-in-None-clause-map
returns-in-None-clause-map c =
    let none : finite.get (items_in c.self.inside.keys (flat c.self.inside.chains.items)) c.args.key.now ≡ None = ap (finite.get (items_in c.self.inside.keys (flat c.self.inside.chains.items))) (sym c.bytes.ensures.same) ∙ c.in-None.ensures.none in
    remove_absent c.args.self.now.map c.args.key.now (ap (λ (s : TableState). finite.get s.map c.args.key.now) (sym c.self.view_is) ∙ none)
