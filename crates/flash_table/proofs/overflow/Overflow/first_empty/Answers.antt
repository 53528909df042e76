use Rattle.std.proofs.Common.{length, ◌≡◌, ap, ◌∙◌, arith}
use Rattle.flash_table.specs.declared.entry.Entry.{Entry}
use Rattle.flash_table.proofs.Flat.{whole_length}
use Rattle.flash_table.proofs.Loops.{slot_is, slot_inside, none_seen, none_next, nothing_left}
use Rattle.flash_table.proofs.overflow.Overflow.first_empty.Goals as goal

abbrev IsEmpty : Entry → Type 0
IsEmpty e = e.tag ≡ 0

pub returns-then-slot-lt16-clause-found : goal.returns-then-slot-lt16-clause-found
returns-then-slot-lt16-clause-found c =
    let kept = c.self.inside.groups.items in
    let gs = c.deref-group-items.result.now in
    let es = c.args.self.now in
    let s = c.first_tagged-slot.result in (
      slot_inside kept gs es c.deref-group-items.ensures.value c.self.view_is c.self.invariant c.groups.number c.group-item.result c.group-item.is c.groups-test.true s c.if-slot-lt16.true,
      ap (λ e. e.tag) (slot_is kept gs es c.deref-group-items.ensures.value c.self.view_is c.self.invariant c.groups.number c.group-item.result c.group-item.is c.groups-test.true s c.if-slot-lt16.true)
          ∙ c.first_tagged-slot.ensures.found c.if-slot-lt16.true,
    )

pub returns-then-slot-lt16-clause-first : goal.returns-then-slot-lt16-clause-first
returns-then-slot-lt16-clause-first c =
    none_seen c.self.inside.groups.items c.deref-group-items.result.now c.args.self.now c.deref-group-items.ensures.value c.self.view_is c.self.invariant
    c.groups.number c.group-item.result c.group-item.is c.groups-test.true IsEmpty c.first_tagged-slot.result (omega arith) c.groups.invariant c.first_tagged-slot.ensures.before

pub groups-preserved : goal.groups-preserved
groups-preserved c =
    none_next c.self.inside.groups.items c.deref-group-items.result.now c.args.self.now c.deref-group-items.ensures.value c.self.view_is c.self.invariant
    c.groups.number c.group-item.result c.group-item.is c.groups-test.true IsEmpty c.groups.invariant (λ s small. c.first_tagged-slot.ensures.before s (omega arith))

pub returns-clause-none : goal.returns-clause-none
returns-clause-none c =
    nothing_left c.self.inside.groups.items c.deref-group-items.result.now c.args.self.now c.deref-group-items.ensures.value c.self.view_is c.self.invariant
    IsEmpty c.groups.number (omega arith) c.groups.invariant

pub returns-then-slot-lt16-clause-few : goal.returns-then-slot-lt16-clause-few
returns-then-slot-lt16-clause-few c = omega (arith, whole_length c.self.inside.groups.items c.self.invariant, ap length c.self.view_is, ap length c.deref-group-items.ensures.value)

pub returns-clause-few : goal.returns-clause-few
returns-clause-few c = omega (arith, whole_length c.self.inside.groups.items c.self.invariant, ap length c.self.view_is, ap length c.deref-group-items.ensures.value)
