-- Items that get a label, or lose it.
use Rattle.std.proofs.Common.{◌≡◌, ℕ, List, None, Some, sym, ◌∙◌, ap}
use Rattle.std.specs.Prelude.{replicate}
use Rattle.flash_names.specs.declared.place.Label.{Label}
use Rattle.flash_machine.specs.Item.{Item, moved_head}
use Rattle.flash_machine.specs.Cache.{Cache, Items}
use Rattle.flash_machine.specs.Steps.{labelled}
use Rattle.flash_heads.specs.Heads.{hidden, heads}
use Rattle.flash_heads.specs.Moves.{with_head, EachMoveIsHidden, EachMoveIsThatOfTheHeads, EachRecachedItemIsKnown}
use Rattle.flash_heads.proofs.Hiding.{value_length, put_hidden, items_once}

put_in : (c : Cache) (key : List ℕ) (item : Item) → heads (with_head c key item) ≡ with_head (heads c) key (hidden item)
put_in c key item = ap (λ (items : Items). record c { items = items }) (put_hidden c.items key item)

-- a moved item's head is that by its head
same_head : (label : Label) (item : Item) → moved_head label item ≡ moved_head label (hidden item)
same_head label item = ap (λ (n : ℕ). record item { value = replicate n 0; label = Some label }) (sym (value_length item.label item.value))

pub moved : (c : Cache) (key : List ℕ) (label : Label) (item : Item) → heads (labelled c key (Some label) (Some item)) ≡ with_head (heads c) key (moved_head label item)
moved c key label item = put_in c key (record item { label = Some label })

pub moves : EachMoveIsHidden
moves c key label item = record {
  of_item = moved c key label item;
  of_head = moved c key label item ∙ ap (with_head (heads c) key) (same_head label item);
}

pub same_move : EachMoveIsThatOfTheHeads
same_move c key label None = ap (λ (items : Items). record c { items = items }) (sym (items_once c.items))
same_move c key label (Some item) =
    moved c key label item
    ∙ ap (with_head (heads c) key) (same_head label item)
    ∙ ap (λ (items : Items). with_head (record c { items = items }) key (moved_head label (hidden item))) (sym (items_once c.items))
    ∙ sym (moved (heads c) key label (hidden item))

pub recached : EachRecachedItemIsKnown
recached c key item = put_in c key (record item { label = None })
