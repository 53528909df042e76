use Rattle.std.proofs.Common.{◌≡◌, ℕ, List, Option, None, Some, refl, sym, ◌∙◌, subst}
use Rattle.std.specs.Option.{option_map}
use Rattle.flash_entry.specs.declared.entry.DropCause.{DropCause}
use Rattle.flash_index.specs.KeyEnds.{last_key}
use Rattle.flash_index.specs.KeyLists.{list_of}
use Rattle.flash_calls.specs.Rooms.{if_swept}
use Rattle.flash_core.specs.declared.room.Leaver as code
use Rattle.flash_core.specs.Desks.{desk_of}
use Rattle.flash_core.specs.Numbers.{cache_of_items}
use Rattle.flash_core.specs.Rooms.{AreLeavers}
use Rattle.flash_core.proofs.There.{named_key}
use Rattle.flash_core.proofs.room.leaving_last_of.Goals as goal

pub returns-in-None : goal.returns-in-None
returns-in-None c =
    let s = c.args.index.now in
    let now = cache_of_items s.items c.args.numbers.now in
    let desk = desk_of s c.args.blocks.now in
    let named = named_key s c.in-Some.id (last_key (list_of c.args.segment s.lists)) c.in-Some.ensures in
    subst (λ (key : Option (List ℕ)). AreLeavers s None (if_swept now desk key)) (sym named.1)
    (subst (λ (cause : Option DropCause). AreLeavers s None (option_map (λ one. record { key = named.0; cause = one }) cause)) (sym c.in-None.is ∙ c.leaving_cause.ensures named.0 named.2) tt)

pub returns-in-Some-leaving_cause : goal.returns-in-Some-leaving_cause
returns-in-Some-leaving_cause c =
    let s = c.args.index.now in
    let now = cache_of_items s.items c.args.numbers.now in
    let desk = desk_of s c.args.blocks.now in
    let named = named_key s c.in-Some.id (last_key (list_of c.args.segment s.lists)) c.in-Some.ensures in
    let one : code.Leaver = record { id = c.in-Some.id; cause = c.in-Some-leaving_cause.cause } in
    subst (λ (key : Option (List ℕ)). AreLeavers s (Some one) (if_swept now desk key)) (sym named.1)
    (subst (λ (cause : Option DropCause). AreLeavers s (Some one) (option_map (λ one. record { key = named.0; cause = one }) cause))
    (sym c.in-Some-leaving_cause.is ∙ c.leaving_cause.ensures named.0 named.2)
    (record { named = named.2; cause = refl }))
