use Rattle.std.proofs.Common.{◌≡◌, Some, ap, ◌∙◌}
use Rattle.std.specs.Ordering.{nat_cmp}
use Rattle.std.specs.Cmp.Lexicographic.{slice_cmp}
use Rattle.std.specs.FinMap.{get, get-empty}
use Rattle.flash_items.specs.declared.item.Item.{Item}
use Rattle.flash_items.specs.ItemsState.{Ids, ItemMap}
use Rattle.flash_store_tests.proofs.Inserted.{insert_here, some_of, one_value}
use Rattle.flash_store_tests.proofs.items.sample_of.Goals as goal

pub insert-id-requires-clause-absent : goal.insert-id-requires-clause-absent
insert-id-requires-clause-absent c =
    ap (λ (m : Ids). get m c.in_ok-item_of.field-0.key) (c.reserve_one.ensures.ids ∙ c.in_ok-items.ensures.ids)
    ∙ get-empty (slice_cmp nat_cmp) c.in_ok-item_of.field-0.key

here : (c : goal.After-insert-id) → get c.insert-id.new.self.items c.insert-id.result.key ≡ Some c.in_ok-item_of.field-0
here c =
    ap (λ (m : ItemMap). get m c.insert-id.result.key) c.insert-id.ensures.added.items
    ∙ insert_here c.reserve_one.new.self.items c.insert-id.result.key c.in_ok-item_of.field-0

pub returns : goal.returns
returns c = record {
  there = some_of _ c.in_ok-item_of.field-0 (here c);
  named = λ was is. ap (λ (i : Item). i.key) (one_value (get c.insert-id.new.self.items c.insert-id.result.key) was c.in_ok-item_of.field-0 is (here c))
      ∙ c.in_ok-item_of.ensures.key ∙ c.copy.ensures;
}
