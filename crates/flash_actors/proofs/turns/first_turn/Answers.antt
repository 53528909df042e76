use Rattle.std.proofs.Common.{◌≡◌, ℕ, ◌<◌, List, Option, sym, ◌∙◌, ap, subst, rules}
use Rattle.std.specs.Option.{ForSome}
use Rattle.flash_names.specs.Shared.{own_of}
use Rattle.flash_names.specs.declared.geometry.Geometry.{Geometry}
use Rattle.flash_entry.specs.declared.entry.Entry.{Entry}
use Rattle.flash_machine.specs.Legal.{Legal}
use Rattle.flash_calls.specs.Store.{Store}
use Rattle.flash_core.specs.SharedStore.{geometry_of, own_steps, told_pairs}
use Rattle.flash_turn.specs.declared.turn.Turn.{Turn}
use Rattle.flash_turn.specs.Passes.{IsPassOf, number_of}
use Rattle.flash_actors.specs.Passing.{IsReady, geometry_known, journal_seen}
use Rattle.flash_actors.proofs.Turned.{run_legal}
use Rattle.flash_actors.proofs.turns.first_turn.Goals as goal

pub returns-clause-ready : goal.returns-clause-ready
returns-clause-ready g c =
    let new = c.leave.new.self.0 in
    let f = c.enter-held.ensures.told in
    let s = c.state-core.result.now in
    let is : s ≡ c.enter-held.result.taken.value = c.state-core.ensures.value ∙ c.enter-held.ensures.value in
    let number : number_of new ≡ number_of c.args.pass.now = c.leave.ensures.number ∙ c.enter-held.ensures.number in
    let geometry : s.geometry ≡ geometry_known c.args.store.now = ap (λ (s : Store). s.geometry) is ∙ f.same_fixed in
    let legal : ForSome s.told (Legal s.geometry) = run_legal s.geometry s.cache s.told c.journal.ensures.run in
    let there : IsReady c.args.store.now new = record {
      of = subst (λ (s : Turn Store). IsPassOf geometry_of s new) c.enter-held.ensures.same_turn c.leave.ensures.pass;
      numbered = subst (λ (n : ℕ). 0 < n) (sym number) f.numbered;
      linked = c.leave.ensures.own ∙ ap (λ (n : ℕ). own_of n (own_steps s)) (sym c.leave.ensures.number)
          ∙ ap (λ (t : Option (List Entry)). own_of (number_of new) (told_pairs t)) (sym c.leave.ensures.seen);
      legal = subst (λ (x : Geometry). ForSome (journal_seen new) (Legal x)) geometry
          (subst (λ (t : Option (List Entry)). ForSome t (Legal s.geometry)) (sym c.leave.ensures.seen) legal);
    } in
    search (rules, there)
