use Rattle.std.proofs.Common.{◌≡◌, Some, sym, ◌∙◌}
use Rattle.std.specs.FinMap as finite
use Rattle.flash_table.specs.Flat.{flat}
use Rattle.flash_table.specs.Maps.{keys_in}
use Rattle.flash_table.proofs.ById.{some_is, named_by, slot_found, item_of, slot_has_id}
use Rattle.flash_table.proofs.chains.slot_of_id.Goals as goal

pub unreachable-requires : goal.unreachable-requires
unreachable-requires c =
    let es = flat c.args.chains.now.items in
    let at = some_is (finite.get (keys_in c.args.keys.now es) c.args.id.number) c.requires.id in
    let named = named_by c.args.keys.now es c.requires.chained.sound c.args.id.number at.0 at.1 in
    let none = c.in_default.ensures in
    cc

pub unreachable-requires-in-None : goal.unreachable-requires-in-None
unreachable-requires-in-None c =
    let es = flat c.args.chains.now.items in
    let at = some_is (finite.get (keys_in c.args.keys.now es) c.args.id.number) c.requires.id in
    let named = named_by c.args.keys.now es c.requires.chained.sound c.args.id.number at.0 at.1 in
    let is : finite.get (keys_in c.args.keys.now es) c.args.id.number ≡ Some c.in-Some.key.now = at.1 ∙ sym named ∙ sym c.in-Some.ensures in
    let slot = slot_found c.args.keys.now es c.requires.chained.sound c.args.id.number c.in-Some.key.now is in
    let some = item_of c.args.keys.now es c.requires.chained.sound slot.0 c.in-Some.key.now slot.1 in
    let none = c.in-None.ensures.none in
    cc

pub returns : goal.returns
returns c =
    let es = flat c.args.chains.now.items in
    let at = some_is (finite.get (keys_in c.args.keys.now es) c.args.id.number) c.requires.id in
    let named = named_by c.args.keys.now es c.requires.chained.sound c.args.id.number at.0 at.1 in
    let is : finite.get (keys_in c.args.keys.now es) c.args.id.number ≡ Some c.in-Some.key.now = at.1 ∙ sym named ∙ sym c.in-Some.ensures in
    slot_has_id c.args.keys.now c.args.chains.now.items c.requires.chained c.args.id.number c.in-Some.key.now c.in-Some-slot_of_key.at.0 c.in-Some-slot_of_key.at.1 is c.in-Some-slot_of_key.ensures.found
