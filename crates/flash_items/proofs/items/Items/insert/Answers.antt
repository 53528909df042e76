use Rattle.std.proofs.Common.{ℕ, ◌∙◌, ap, sym, subst, length, List, Some, arith}
use Rattle.std.specs.FinMap.{get}
use Rattle.slab.specs.Slab.{Updates}
use Rattle.flash_items.specs.declared.item.Entry.{Entry}
use Rattle.flash_items.specs.ItemsState.{ItemsState}
use Rattle.flash_items.specs.Item.{size_of}
use Rattle.flash_items.proofs.Calls.{no_item}
use Rattle.flash_items.proofs.Closings.{added}
use Rattle.flash_items.proofs.items.Items.insert.Goals as goal

pub returns-clause-fresh : goal.returns-clause-fresh
returns-clause-fresh c = no_item c.self.inside.table c.self.inside.entries c.self.inside.segments c.args.self.now c.self.invariant c.self.view_is (record { key = c.vacant_key.result }) c.vacant_key.ensures.vacant

pub invariant_of-self : goal.invariant_of-self
invariant_of-self c = rw c.put_hot.ensures (added c.self.inside.table c.insert-name.new.self c.self.inside.entries c.insert_reserved.new.self c.self.inside.segments c.args.self.now c.self.invariant c.self.view_is (record { key = c.vacant_key.result }) c.args.item (record { key = c.insert-name.result; parts = c.parts_of.result }) c.parts_of.ensures c.vacant_key.ensures.vacant (subst (λ (n : ℕ). Updates c.self.inside.entries c.insert_reserved.new.self n (Some (let e : Entry = record { key = c.insert-name.result; parts = c.parts_of.result } in e))) (c.insert_reserved.ensures.key ∙ sym c.vacant_key.ensures.value) c.insert_reserved.ensures.updates) (ap (λ (s : ItemsState). get s.ids c.args.item.key) c.self.view_is ∙ c.requires.absent) c.insert-name.ensures.fresh c.insert-name.ensures.map c.insert-name.ensures.keys (omega (arith, c.bytes.ensures.fits)) c.size_of-size.result (c.size_of-size.ensures ∙ ap (λ (l : List ℕ). size_of (length l) c.args.item.body) c.bytes.ensures.same)).0

pub returns-clause-added : goal.returns-clause-added
returns-clause-added c = rw c.put_hot.ensures (added c.self.inside.table c.insert-name.new.self c.self.inside.entries c.insert_reserved.new.self c.self.inside.segments c.args.self.now c.self.invariant c.self.view_is (record { key = c.vacant_key.result }) c.args.item (record { key = c.insert-name.result; parts = c.parts_of.result }) c.parts_of.ensures c.vacant_key.ensures.vacant (subst (λ (n : ℕ). Updates c.self.inside.entries c.insert_reserved.new.self n (Some (let e : Entry = record { key = c.insert-name.result; parts = c.parts_of.result } in e))) (c.insert_reserved.ensures.key ∙ sym c.vacant_key.ensures.value) c.insert_reserved.ensures.updates) (ap (λ (s : ItemsState). get s.ids c.args.item.key) c.self.view_is ∙ c.requires.absent) c.insert-name.ensures.fresh c.insert-name.ensures.map c.insert-name.ensures.keys (omega (arith, c.bytes.ensures.fits)) c.size_of-size.result (c.size_of-size.ensures ∙ ap (λ (l : List ℕ). size_of (length l) c.args.item.body) c.bytes.ensures.same)).1
