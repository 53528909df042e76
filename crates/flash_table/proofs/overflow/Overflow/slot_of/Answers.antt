use Rattle.std.proofs.Common.{length, ap, sym, subst, arith}
use Rattle.flash_table.specs.Entries.{IsFor}
use Rattle.flash_table.proofs.Flat.{whole_length}
use Rattle.flash_table.proofs.Loops.{slot_is, slot_inside, none_next, nothing_left}
use Rattle.flash_table.proofs.overflow.Overflow.slot_of.Goals as goal

pub returns-in-Some-clause-found : goal.returns-in-Some-clause-found
returns-in-Some-clause-found c =
    let kept = c.self.inside.groups.items in
    let gs = c.deref-group-items.result.now in
    let es = c.args.self.now in
    let s = c.in-Some.slot in
    let found = c.in-Some.ensures.found in
    record {
      inside = slot_inside kept gs es c.deref-group-items.ensures.value c.self.view_is c.self.invariant c.chain.number c.group-item.result c.group-item.is c.chain-test.true s found.0;
      is_for = subst (IsFor c.args.keys.now c.args.tag c.args.key.now)
          (sym (slot_is kept gs es c.deref-group-items.ensures.value c.self.view_is c.self.invariant c.chain.number c.group-item.result c.group-item.is c.chain-test.true s found.0)) found.1;
    }

pub chain-preserved : goal.chain-preserved
chain-preserved c =
    none_next c.self.inside.groups.items c.deref-group-items.result.now c.args.self.now c.deref-group-items.ensures.value c.self.view_is c.self.invariant
    c.chain.number c.group-item.result c.group-item.is c.chain-test.true (IsFor c.args.keys.now c.args.tag c.args.key.now) c.chain.invariant c.in_default.ensures.none

pub returns-clause-none : goal.returns-clause-none
returns-clause-none c =
    nothing_left c.self.inside.groups.items c.deref-group-items.result.now c.args.self.now c.deref-group-items.ensures.value c.self.view_is c.self.invariant
    (IsFor c.args.keys.now c.args.tag c.args.key.now) c.chain.number (omega arith) c.chain.invariant

pub returns-in-Some-clause-few : goal.returns-in-Some-clause-few
returns-in-Some-clause-few c = omega (arith, whole_length c.self.inside.groups.items c.self.invariant, ap length c.self.view_is, ap length c.deref-group-items.ensures.value)

pub returns-clause-few : goal.returns-clause-few
returns-clause-few c = omega (arith, whole_length c.self.inside.groups.items c.self.invariant, ap length c.self.view_is, ap length c.deref-group-items.ensures.value)
