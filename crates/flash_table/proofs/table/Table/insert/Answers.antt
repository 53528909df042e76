use Rattle.std.proofs.Common.{◌≡◌, ◌-◌, ◌+◌, ◌≤◌, ℕ, List, length, Some, None, ap, sym, subst, ◌∙◌, arith}
use Rattle.std.specs.FinMap as finite
use Rattle.flash_keys.specs.Names.{NamesOnly}
use Rattle.flash_names.specs.KeyHash.{hash_of}
use Rattle.flash_table.specs.declared.entry.Entry.{Entry}
use Rattle.flash_table.specs.Flat.{flat}
use Rattle.flash_table.specs.Held.{HasKey}
use Rattle.flash_table.specs.Home.{home, tag}
use Rattle.flash_table.specs.Maps.{items_in, keys_in}
use Rattle.flash_table.specs.Slots.{slots_in, FillsFirst}
use Rattle.flash_table.specs.Table.{TableState, IsTable}
use Rattle.flash_table.proofs.TableInserted.{each_empty, table_now, map_is, keys_are, id_is_new, fills_first}
use Rattle.flash_table.proofs.table.Table.insert.Goals as goal

pub first_empty_in-slot-requires-clause-empty : goal.first_empty_in-slot-requires-clause-empty
first_empty_in-slot-requires-clause-empty c =
    let some : 1 ≤ c.self.inside.spare = subst (λ (s : TableState). 1 ≤ s.spare) (sym c.self.view_is) c.requires.spare in
    each_empty c.self.inside.keys c.self.inside.chains.items c.self.inside.power c.self.inside.last c.self.inside.spare c.self.inside.count c.home_of-home.result c.self.invariant some (omega arith)

pub invariant_of-self : goal.invariant_of-self
invariant_of-self c =
    let store = c.self.inside.keys in
    let next = c.keep-id.new.self in
    let chains = c.self.inside.chains.items in
    let key = c.args.key.now in
    let h = c.home_of-home.result in
    let e : Entry = record { tag = c.tag_of.result; id = c.keep-id.result; item = c.args.item.key } in
    let some : 1 ≤ c.self.inside.spare = subst (λ (s : TableState). 1 ≤ s.spare) (sym c.self.view_is) c.requires.spare in
    let absent : finite.get (items_in store (flat chains)) key ≡ None = subst (λ (s : TableState). finite.get s.map key ≡ None) (sym c.self.view_is) c.requires.absent in
    let names : NamesOnly store next c.keep-id.result.number (Some key) = subst (λ (k : List ℕ). NamesOnly store next c.keep-id.result.number (Some k)) c.bytes.ensures.same c.keep-id.ensures.named in
    let has : HasKey next e key = record { names = names.here; tagged = c.tag_of.ensures ∙ ap tag c.key_hash-hash.ensures } in
    let long : length chains ≡ c.len.result = omega arith in
    let at_home : home (length chains) (hash_of key) ≡ h = ap (home (length chains)) (sym c.key_hash-hash.ensures) ∙ ap (λ (n : ℕ). home n c.key_hash-hash.result) long ∙ sym c.home_of-home.ensures.same in
    subst (λ (cs : List (List Entry)). IsTable next cs c.self.inside.power h (c.self.inside.spare - 1) (c.self.inside.count + 1)) (sym c.put_in.ensures)
    (table_now store next chains c.self.inside.power c.self.inside.last c.self.inside.spare c.self.inside.count c.self.invariant e key h c.first_empty_in-slot.result c.keep-id.ensures.fresh names has at_home (omega arith) c.first_empty_in-slot.ensures.inside c.first_empty_in-slot.ensures.empty absent some)

pub returns-clause-map : goal.returns-clause-map
returns-clause-map c =
    let store = c.self.inside.keys in
    let next = c.keep-id.new.self in
    let chains = c.self.inside.chains.items in
    let key = c.args.key.now in
    let h = c.home_of-home.result in
    let e : Entry = record { tag = c.tag_of.result; id = c.keep-id.result; item = c.args.item.key } in
    let some : 1 ≤ c.self.inside.spare = subst (λ (s : TableState). 1 ≤ s.spare) (sym c.self.view_is) c.requires.spare in
    let absent : finite.get (items_in store (flat chains)) key ≡ None = subst (λ (s : TableState). finite.get s.map key ≡ None) (sym c.self.view_is) c.requires.absent in
    let names : NamesOnly store next c.keep-id.result.number (Some key) = subst (λ (k : List ℕ). NamesOnly store next c.keep-id.result.number (Some k)) c.bytes.ensures.same c.keep-id.ensures.named in
    let has : HasKey next e key = record { names = names.here; tagged = c.tag_of.ensures ∙ ap tag c.key_hash-hash.ensures } in
    let long : length chains ≡ c.len.result = omega arith in
    let at_home : home (length chains) (hash_of key) ≡ h = ap (home (length chains)) (sym c.key_hash-hash.ensures) ∙ ap (λ (n : ℕ). home n c.key_hash-hash.result) long ∙ sym c.home_of-home.ensures.same in
    ap (λ (cs : List (List Entry)). items_in next (flat cs)) c.put_in.ensures
    ∙ map_is store next chains c.self.inside.power c.self.inside.last c.self.inside.spare c.self.inside.count c.self.invariant e key h c.first_empty_in-slot.result c.keep-id.ensures.fresh names has at_home (omega arith) c.first_empty_in-slot.ensures.inside c.first_empty_in-slot.ensures.empty absent some
    ∙ ap (λ (s : TableState). finite.insert s.map key c.args.item.key) c.self.view_is

pub returns-clause-keys : goal.returns-clause-keys
returns-clause-keys c =
    let store = c.self.inside.keys in
    let next = c.keep-id.new.self in
    let chains = c.self.inside.chains.items in
    let key = c.args.key.now in
    let h = c.home_of-home.result in
    let e : Entry = record { tag = c.tag_of.result; id = c.keep-id.result; item = c.args.item.key } in
    let some : 1 ≤ c.self.inside.spare = subst (λ (s : TableState). 1 ≤ s.spare) (sym c.self.view_is) c.requires.spare in
    let absent : finite.get (items_in store (flat chains)) key ≡ None = subst (λ (s : TableState). finite.get s.map key ≡ None) (sym c.self.view_is) c.requires.absent in
    let names : NamesOnly store next c.keep-id.result.number (Some key) = subst (λ (k : List ℕ). NamesOnly store next c.keep-id.result.number (Some k)) c.bytes.ensures.same c.keep-id.ensures.named in
    let has : HasKey next e key = record { names = names.here; tagged = c.tag_of.ensures ∙ ap tag c.key_hash-hash.ensures } in
    let long : length chains ≡ c.len.result = omega arith in
    let at_home : home (length chains) (hash_of key) ≡ h = ap (home (length chains)) (sym c.key_hash-hash.ensures) ∙ ap (λ (n : ℕ). home n c.key_hash-hash.result) long ∙ sym c.home_of-home.ensures.same in
    ap (λ (cs : List (List Entry)). keys_in next (flat cs)) c.put_in.ensures
    ∙ keys_are store next chains c.self.inside.power c.self.inside.last c.self.inside.spare c.self.inside.count c.self.invariant e key h c.first_empty_in-slot.result c.keep-id.ensures.fresh names has at_home (omega arith) c.first_empty_in-slot.ensures.inside c.first_empty_in-slot.ensures.empty absent some
    ∙ ap (λ (s : TableState). finite.insert s.keys c.keep-id.result.number key) c.self.view_is

pub returns-clause-fresh : goal.returns-clause-fresh
returns-clause-fresh c =
    let store = c.self.inside.keys in
    let next = c.keep-id.new.self in
    let chains = c.self.inside.chains.items in
    let key = c.args.key.now in
    let h = c.home_of-home.result in
    let e : Entry = record { tag = c.tag_of.result; id = c.keep-id.result; item = c.args.item.key } in
    let some : 1 ≤ c.self.inside.spare = subst (λ (s : TableState). 1 ≤ s.spare) (sym c.self.view_is) c.requires.spare in
    let absent : finite.get (items_in store (flat chains)) key ≡ None = subst (λ (s : TableState). finite.get s.map key ≡ None) (sym c.self.view_is) c.requires.absent in
    let names : NamesOnly store next c.keep-id.result.number (Some key) = subst (λ (k : List ℕ). NamesOnly store next c.keep-id.result.number (Some k)) c.bytes.ensures.same c.keep-id.ensures.named in
    let has : HasKey next e key = record { names = names.here; tagged = c.tag_of.ensures ∙ ap tag c.key_hash-hash.ensures } in
    let long : length chains ≡ c.len.result = omega arith in
    let at_home : home (length chains) (hash_of key) ≡ h = ap (home (length chains)) (sym c.key_hash-hash.ensures) ∙ ap (λ (n : ℕ). home n c.key_hash-hash.result) long ∙ sym c.home_of-home.ensures.same in
    ap (λ (s : TableState). finite.get s.keys c.keep-id.result.number) (sym c.self.view_is)
    ∙ id_is_new store next chains c.self.inside.power c.self.inside.last c.self.inside.spare c.self.inside.count c.self.invariant e key h c.first_empty_in-slot.result c.keep-id.ensures.fresh names has at_home (omega arith) c.first_empty_in-slot.ensures.inside c.first_empty_in-slot.ensures.empty absent some

pub returns-clause-slot : goal.returns-clause-slot
returns-clause-slot c =
    let store = c.self.inside.keys in
    let next = c.keep-id.new.self in
    let chains = c.self.inside.chains.items in
    let key = c.args.key.now in
    let h = c.home_of-home.result in
    let e : Entry = record { tag = c.tag_of.result; id = c.keep-id.result; item = c.args.item.key } in
    let some : 1 ≤ c.self.inside.spare = subst (λ (s : TableState). 1 ≤ s.spare) (sym c.self.view_is) c.requires.spare in
    let absent : finite.get (items_in store (flat chains)) key ≡ None = subst (λ (s : TableState). finite.get s.map key ≡ None) (sym c.self.view_is) c.requires.absent in
    let names : NamesOnly store next c.keep-id.result.number (Some key) = subst (λ (k : List ℕ). NamesOnly store next c.keep-id.result.number (Some k)) c.bytes.ensures.same c.keep-id.ensures.named in
    let has : HasKey next e key = record { names = names.here; tagged = c.tag_of.ensures ∙ ap tag c.key_hash-hash.ensures } in
    let long : length chains ≡ c.len.result = omega arith in
    let at_home : home (length chains) (hash_of key) ≡ h = ap (home (length chains)) (sym c.key_hash-hash.ensures) ∙ ap (λ (n : ℕ). home n c.key_hash-hash.result) long ∙ sym c.home_of-home.ensures.same in
    subst (λ (s : TableState). FillsFirst s.chains (slots_in next c.put_in.new.chains.items) (home s.homes (hash_of key)) key c.args.item.key) c.self.view_is
    (subst (λ (cs : List (List Entry)). FillsFirst (slots_in store chains) (slots_in next cs) (home (length chains) (hash_of key)) key c.args.item.key) (sym c.put_in.ensures)
    (fills_first store next chains c.self.inside.power c.self.inside.last c.self.inside.spare c.self.inside.count c.self.invariant e key h c.first_empty_in-slot.result c.keep-id.ensures.fresh names has at_home (omega arith) c.first_empty_in-slot.ensures.inside c.first_empty_in-slot.ensures.empty absent some c.first_empty_in-slot.ensures.first))
