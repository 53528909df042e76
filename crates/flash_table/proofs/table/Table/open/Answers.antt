use Rattle.std.proofs.Common.{◌≡◌, ◌++◌, List, [], ◌∷◌, ap, sym, subst, ◌∙◌}
use Rattle.flash_table.specs.declared.entry.Entry.{Entry}
use Rattle.flash_table.specs.Flat.{flat}
use Rattle.flash_table.specs.Maps.{items_in, keys_in}
use Rattle.flash_table.specs.Table.{IsTable}
use Rattle.flash_table.proofs.TableOpened.{opened, table_opened, no_items, no_keys}
use Rattle.flash_table.proofs.table.Table.open.Goals as goal

pub invariant_of-result : goal.invariant_of-result
invariant_of-result c =
    let one : c.push.new.self.items ≡ opened =
    c.in_ok-push.ensures.items ∙ ap (λ (cs : List (List Entry)). cs ++ c.new.result ∷ []) c.new-chains.ensures.items ∙ ap (λ (es : List Entry). es ∷ []) c.new.ensures in
    subst (λ (cs : List (List Entry)). IsTable c.open.result cs 1 0 0 0) (sym one) (table_opened c.open.result)

pub returns-clause-map : goal.returns-clause-map
returns-clause-map c =
    let one : c.push.new.self.items ≡ opened =
    c.in_ok-push.ensures.items ∙ ap (λ (cs : List (List Entry)). cs ++ c.new.result ∷ []) c.new-chains.ensures.items ∙ ap (λ (es : List Entry). es ∷ []) c.new.ensures in
    ap (λ (cs : List (List Entry)). items_in c.open.result (flat cs)) one ∙ no_items c.open.result

pub returns-clause-keys : goal.returns-clause-keys
returns-clause-keys c =
    let one : c.push.new.self.items ≡ opened =
    c.in_ok-push.ensures.items ∙ ap (λ (cs : List (List Entry)). cs ++ c.new.result ∷ []) c.new-chains.ensures.items ∙ ap (λ (es : List Entry). es ∷ []) c.new.ensures in
    ap (λ (cs : List (List Entry)). keys_in c.open.result (flat cs)) one ∙ no_keys c.open.result
