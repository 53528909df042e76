use Rattle.std.proofs.Common.{length, Option, sym, ◌∙◌, ap, subst}
use Rattle.std.specs.Prelude.{option_map}
use Rattle.flash_names.specs.declared.place.ItemId.{ItemId}
use Rattle.flash_machine.specs.Item.{Item}
use Rattle.flash_index.specs.IndexState.{IndexState, Names}
use Rattle.flash_index.specs.Known.{known_parts}
use Rattle.flash_core.specs.declared.sought.Sought.{Sought}
use Rattle.flash_core.specs.Changes.{AreLeft, items_after_touch, swept_desk, with_renewed}
use Rattle.flash_core.specs.Desks.{desk_of}
use Rattle.flash_core.specs.Sought.{id_sought, cause_sought}
use Rattle.flash_core.proofs.touch.renew_or_drop.Goals as goal

pub returns-in-Live : goal.returns-in-Live
returns-in-Live c = λ key at.
    let s = c.args.index.now in
    let t = c.args.blocks.now in
    let named : Names s c.in-Live.id key = sym at ∙ ap (λ (k : Sought). option_map (λ (i : ItemId). i.key) (id_sought k)) c.in-Live.is in
    let item : Item = known_parts (length key) c.item.result.parts.now in
    let there = c.item.ensures.item key named in
    let set = c.set_use.ensures key item named there in
    subst (λ (k : Sought). AreLeft s.memory (items_after_touch c.args.deadline key k s.items) (swept_desk (cause_sought k) key (desk_of s t)) c.set_use.new.self t) (sym c.in-Live.is)
    (record {
      items_are = ap (λ (t : IndexState). t.items) set ∙ ap (λ (f : Option Item). with_renewed c.args.deadline key f s.items) (sym there);
      desk_is = ap (λ (u : IndexState). desk_of u t) set;
      memory_is = ap (λ (t : IndexState). t.memory) set;
    })
