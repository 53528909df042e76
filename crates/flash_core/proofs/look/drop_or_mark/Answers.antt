use Rattle.std.proofs.Common.{ℕ, true, length, Option, sym, ◌∙◌, ap, subst}
use Rattle.std.specs.Prelude.{option_map}
use Rattle.std.specs.FinMap as map
use Rattle.flash_names.specs.declared.place.ItemId.{ItemId}
use Rattle.flash_machine.specs.Item.{Item}
use Rattle.flash_index.specs.IndexState.{IndexState, Names, HasId}
use Rattle.flash_index.specs.Known.{known_parts}
use Rattle.flash_index.specs.KeyLists.{touched}
use Rattle.flash_core.specs.declared.sought.Sought.{Sought}
use Rattle.flash_core.specs.Changes.{AreLeft, items_after_look, desk_after_look, with_found}
use Rattle.flash_core.specs.Desks.{desk_of}
use Rattle.flash_core.specs.Sought.{id_sought}
use Rattle.flash_core.proofs.look.drop_or_mark.Goals as goal

pub renewed_at-deadline-requires-clause-below : goal.renewed_at-deadline-requires-clause-below
renewed_at-deadline-requires-clause-below c =
    let has : HasId c.args.index.now c.in-Live.id = c.requires.id c.in-Live.id (ap id_sought c.in-Live.is) in
    c.requires.deadline has.0 (known_parts (length has.0) c.item.result.parts.now) (c.item.ensures.item has.0 has.1)

pub touch-requires : goal.touch-requires
touch-requires c =
    let has : HasId c.args.index.now c.in-Live.id = c.requires.id c.in-Live.id (ap id_sought c.in-Live.is) in
    let set = c.set_use.ensures has.0 (known_parts (length has.0) c.item.result.parts.now) has.1 (c.item.ensures.item has.0 has.1) in
    (has.0, ap (λ (s : IndexState). map.get s.ids has.0) set ∙ has.1)

pub returns-in-Live : goal.returns-in-Live
returns-in-Live c = λ key at.
    let s = c.args.index.now in
    let t = c.args.blocks.now in
    let named : Names s c.in-Live.id key = sym at ∙ ap (λ (k : Sought). option_map (λ (i : ItemId). i.key) (id_sought k)) c.in-Live.is in
    let item : Item = known_parts (length key) c.item.result.parts.now in
    let there = c.item.ensures.item key named in
    let set = c.set_use.ensures key item named there in
    let touch = c.touch.ensures key (ap (λ (t : IndexState). map.get t.ids key) set ∙ named) in
    subst (λ (k : Sought). AreLeft s.memory (items_after_look c.args.renew c.args.moment key k s.items) (desk_after_look key k (desk_of s t)) c.touch.new.self t) (sym c.in-Live.is)
    (record {
      items_are = ap (λ (t : IndexState). t.items) touch ∙ ap (λ (t : IndexState). t.items) set
          ∙ ap (λ (d : Option ℕ). map.insert s.items key (record item { deadline = d; fetched = true; access = c.args.moment })) c.renewed_at-deadline.ensures.exact
          ∙ ap (λ (f : Option Item). with_found c.args.renew c.args.moment key f s.items) (sym there);
      desk_is = ap (λ (u : IndexState). desk_of u t) touch ∙ ap (λ (u : IndexState). record (desk_of u t) { lists = touched key u.lists }) set;
      memory_is = ap (λ (t : IndexState). t.memory) touch ∙ ap (λ (t : IndexState). t.memory) set;
    })
