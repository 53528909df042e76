use Rattle.std.proofs.Common.{rules, ◌≡◌, [], refl}
use Rattle.std.proofs.lemmas.List.{nil_from_length}
use Rattle.flash_session.specs.States.{front_now}
use Rattle.flash_session.proofs.ReadingOn.{reads_more, read_needs, then_needs}
use Rattle.flash_session.proofs.Resting.{fewer}
use Rattle.flash_session.proofs.session.Session.next.Goals as goal

pub returns-in-Some-clause-needs : goal.returns-in-Some-clause-needs
returns-in-Some-clause-needs c =
    then_needs c.args.self.now c.fronts.self c.go_on.new.self c.in-Some.todo c.fronts.invariant (rw c.in-Some.is at c.in_ok-todo.ensures.needs)

pub fronts-smaller : goal.fronts-smaller
fronts-smaller c = fewer c.fronts.self c.go_on.new.self (front_now c.fronts.self) refl (c.in_ok-todo.ensures.read (search rules))

pub fronts-preserved : goal.fronts-preserved
fronts-preserved c =
    let empty : c.fronts.self.out ≡ [] = nil_from_length c.fronts.self.out (search rules) in
    reads_more _ c.fronts.self c.go_on.new.self c.a_read_goes_on.ensures c.a_read_holds_a_piece.ensures c.fronts.invariant empty
    (c.in_ok-todo.ensures.read (search rules))

pub returns-clause-needs : goal.returns-clause-needs
returns-clause-needs c = let some : c.fronts.self.out ≡ [] → ⊥ = search rules in read_needs c.args.self.now c.fronts.self c.fronts.invariant some
