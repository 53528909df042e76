use Rattle.std.proofs.Common.{◌≡◌, ◌+◌, ◌<◌, ℕ, Bool, false, List, length, get_or, refl, ap, sym, subst, ◌∙◌, arith}
use Rattle.std.proofs.lemmas.List.{length-map, get_or-map}
use Rattle.flash_table.specs.declared.entry.Entry.{Entry}
use Rattle.flash_table.specs.Chains.{chain_of, with_entry}
use Rattle.flash_table.specs.Entries.{entry_at, vacant}
use Rattle.flash_table.specs.Growth.{goes}
use Rattle.flash_table.proofs.Dividing.{IsDividing, started, stays, goes_on, ended, later_same, from_inside}
use Rattle.flash_table.proofs.growth.divide.Goals as goal
use Rattle.flash_table.proofs.growth.divide.Goals.{then-marked-slot, else-marked-slot}

-- the mark of a slot says whether its key goes
marked_inside : (c : goal.Joined-marked-slot) → c.slots.slot < length (chain_of c.args.chains.now.items c.args.from)
marked_inside c =
    omega (arith, c.slots-test.true, ap length c.requires.marked, length-map (chain_of c.args.chains.now.items c.args.from) (goes c.args.keys.now (c.args.last + 1) c.args.last))

mark_is : (c : goal.Joined-marked-slot) → goes c.args.keys.now (c.args.last + 1) c.args.last (entry_at (chain_of c.slots.chains.items c.args.from) c.slots.slot) ≡ get_or c.args.marked.now c.slots.slot false
mark_is c =
    let leaves : Entry → Bool = goes c.args.keys.now (c.args.last + 1) c.args.last in
    ap leaves (c.slots.invariant.2 c.slots.slot (omega arith))
    ∙ sym (ap (λ (bs : List Bool). get_or bs c.slots.slot false) c.requires.marked ∙ get_or-map leaves (chain_of c.args.chains.now.items c.args.from) c.slots.slot vacant false (marked_inside c))

pub slots-init : goal.slots-init
slots-init c = (omega arith, started c.args.keys.now c.args.chains.now.items c.args.last c.args.from c.requires.divide, λ i later. refl)

pub slots-preserved : goal.slots-preserved
slots-preserved c =
    let store = c.args.keys.now in
    let old = c.args.chains.now.items in
    let now = c.slots.chains.items in
    let from = c.args.from in
    let last = c.args.last in
    let slot = c.slots.slot in
    let next = c.slots.next in
    let low : from < last = from_inside last from c.requires.divide.some c.requires.divide.split in
    elim c.if-marked-slot.branch [
      | then-marked-slot w ↦
          let chain : c.if-marked-slot.chains.items ≡ with_entry (with_entry now from slot vacant) last next (entry_at (chain_of now from) slot) =
          ap (λ v. v.items) w.chains-is
          ∙ w.put_in-then-marked-slot.ensures
          ∙ ap (λ (cs : List (List Entry)). with_entry cs last next w.entry_in-entry.result) (w.put_in.ensures ∙ ap (with_entry now from slot) w.vacant.ensures)
          ∙ ap (with_entry (with_entry now from slot vacant) last next) w.entry_in-entry.ensures in (
            omega arith,
            subst (λ (n : ℕ). IsDividing store old c.if-marked-slot.chains.items last from (slot + 1) n) (sym w.next-is)
                (subst (λ (cs : List (List Entry)). IsDividing store old cs last from (slot + 1) (next + 1)) (sym chain)
                (goes_on store old now last from slot next c.requires.divide c.slots.invariant.1 (marked_inside c) (mark_is c ∙ w.if-marked-slot.true))),
            λ i later. ap (λ (cs : List (List Entry)). entry_at (chain_of cs from) i) chain
                ∙ later_same now from last slot next (entry_at (chain_of now from) slot) (omega (arith, low, c.slots.invariant.1.many, c.requires.divide.many)) (λ same. omega (arith, low, same)) i later
                ∙ c.slots.invariant.2 i (omega (arith, later)),
          )
      | else-marked-slot w ↦ (
        omega arith,
        subst (λ (n : ℕ). IsDividing store old c.if-marked-slot.chains.items last from (slot + 1) n) (sym w.next-is)
            (subst (λ (cs : List (List Entry)). IsDividing store old cs last from (slot + 1) next) (sym (ap (λ v. v.items) w.chains-is))
            (stays store old now last from slot next c.requires.divide c.slots.invariant.1 (marked_inside c) (mark_is c ∙ w.if-marked-slot.false))),
        λ i later. ap (λ v. entry_at (chain_of v.items from) i) w.chains-is ∙ c.slots.invariant.2 i (omega (arith, later)),
      )
    ]

pub returns : goal.returns
returns c =
    ended c.args.keys.now c.args.chains.now.items c.slots.chains.items c.args.last c.args.from c.slots.slot c.slots.next c.requires.divide c.slots.invariant.1
    (omega (arith, c.slots-test.false, ap length c.requires.marked, length-map (chain_of c.args.chains.now.items c.args.from) (goes c.args.keys.now (c.args.last + 1) c.args.last)))
