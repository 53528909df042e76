use Rattle.std.proofs.Common.{◌≡◌, ℕ, ◌<◌, List, Option, sym, ◌∙◌, ap, subst, rules}
use Rattle.std.specs.Option.{ForSome}
use Rattle.flash_names.specs.Shared.{own_of, without}
use Rattle.flash_names.specs.declared.geometry.Geometry.{Geometry}
use Rattle.flash_entry.specs.declared.entry.Entry.{Entry}
use Rattle.flash_machine.specs.Legal.{Legal}
use Rattle.flash_calls.specs.Store.{Store}
use Rattle.flash_core.specs.SharedStore.{geometry_of, face_of, own_steps, told_pairs}
use Rattle.flash_turn.specs.declared.pass.Pass.{Pass}
use Rattle.flash_turn.specs.declared.turn.Turn.{Turn}
use Rattle.flash_turn.specs.Passes.{IsPassOf, number_of}
use Rattle.flash_actors.specs.Keeping.{HasKept, HasKeptIn}
use Rattle.flash_actors.specs.Passing.{IsReady, geometry_known, journal_seen}
use Rattle.flash_actors.proofs.Keeping.{kept_pairs}
use Rattle.flash_actors.proofs.Turned.{run_legal}
use Rattle.flash_actors.proofs.keeper.keeper_turn.Goals as goal

pub leave-requires-clause-own : goal.leave-requires-clause-own
leave-requires-clause-own g c =
    let s = c.state.result.now in
    let after = c.keep_under-step.new.core in
    let is : s ≡ c.enter-held.result.taken.value = c.state.ensures.value ∙ c.enter-held.ensures.value in
    let n = number_of c.enter-held.result.pass.now in
    ap (without n) (kept_pairs c.keep_under-step.result s.geometry s.told (face_of s) after.told (face_of after) c.keep_under-step.ensures.kept)
    ∙ ap (λ (s : Store). without n (own_steps s)) is

pub returns-clause-ready : goal.returns-clause-ready
returns-clause-ready g c =
    let new = c.leave.new.self.0 in
    let f = c.enter-held.ensures.told in
    let s = c.state.result.now in
    let after = c.keep_under-step.new.core in
    let is : s ≡ c.enter-held.result.taken.value = c.state.ensures.value ∙ c.enter-held.ensures.value in
    let number : number_of new ≡ number_of c.args.pass.now = c.leave.ensures.number ∙ c.enter-held.ensures.number in
    let geometry : after.geometry ≡ geometry_known c.args.store.now = c.keep_under-step.ensures.geometry ∙ ap (λ (s : Store). s.geometry) is ∙ f.same_fixed in
    let legal : ForSome after.told (Legal after.geometry) = run_legal after.geometry after.cache after.told c.keep_under-step.ensures.run in
    let there : IsReady c.args.store.now new = record {
      of = subst (λ (s : Turn Store). IsPassOf geometry_of s new) c.enter-held.ensures.same_turn c.leave.ensures.pass;
      numbered = subst (λ (n : ℕ). 0 < n) (sym number) c.requires.numbered;
      linked = c.leave.ensures.own ∙ ap (λ (n : ℕ). own_of n (own_steps after)) (sym c.leave.ensures.number)
          ∙ ap (λ (t : Option (List Entry)). own_of (number_of new) (told_pairs t)) (sym c.leave.ensures.seen);
      legal = subst (λ (x : Geometry). ForSome (journal_seen new) (Legal x)) geometry
          (subst (λ (t : Option (List Entry)). ForSome t (Legal after.geometry)) (sym c.leave.ensures.seen) legal);
    } in
    subst (λ (p : Pass Store). IsReady c.args.store.now p) (search rules) there

pub returns-clause-kept : goal.returns-clause-kept
returns-clause-kept g c =
    let new = c.leave.new.self.0 in
    let f = c.enter-held.ensures.told in
    let s = c.state.result.now in
    let t = c.enter-held.result.taken.value in
    let after = c.keep_under-step.new.core in
    let step = c.keep_under-step.result in
    let known = geometry_known c.args.store.now in
    let is : s ≡ t = c.state.ensures.value ∙ c.enter-held.ensures.value in
    let taken : HasKept step t.geometry t.told (face_of t) after.told (face_of after) =
    subst (λ (s : Store). HasKept step s.geometry s.told (face_of s) after.told (face_of after)) is c.keep_under-step.ensures.kept in
    let there : HasKeptIn c.args.store.now step new = record {
      taken = face_of t;
      left = face_of after;
      took = c.leave.ensures.took_face;
      leaves = c.leave.ensures.left_face;
      kept = subst (λ (told : Option (List Entry)). HasKept step known told (face_of t) (journal_seen new) (face_of after)) (sym c.leave.ensures.took_story)
          (subst (λ (told : Option (List Entry)). HasKept step known t.told (face_of t) told (face_of after)) (sym c.leave.ensures.seen)
          (subst (λ (g : Geometry). HasKept step g t.told (face_of t) after.told (face_of after)) f.same_fixed taken));
    } in
    subst (λ (p : Pass Store). HasKeptIn c.args.store.now step p) (search rules) there
