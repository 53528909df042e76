use Rattle.std.proofs.Common.{◌≡◌, ℕ, ◌<◌, List, Option, sym, ◌∙◌, ap, subst, rules}
use Rattle.std.specs.Option.{ForSome}
use Rattle.flash_names.specs.Shared.{own_of, without}
use Rattle.flash_names.specs.declared.geometry.Geometry.{Geometry}
use Rattle.flash_names.specs.declared.place.Id.{Id}
use Rattle.flash_entry.specs.declared.entry.Entry.{Entry}
use Rattle.flash_machine.specs.Legal.{Legal}
use Rattle.flash_calls.specs.Store.{Store}
use Rattle.flash_core.specs.SharedStore.{geometry_of, own_steps, told_pairs}
use Rattle.flash_core.specs.Sound.{IsNewTold}
use Rattle.flash_turn.specs.declared.pass.Pass.{Pass}
use Rattle.flash_turn.specs.declared.turn.Turn.{Turn}
use Rattle.flash_turn.specs.Passes.{IsPassOf, number_of}
use Rattle.flash_answers.specs.Records.{AreOfNoStep, AreOfOthers}
use Rattle.flash_actors.specs.Passing.{IsReady, geometry_known, journal_seen}
use Rattle.flash_actors.specs.Stepping.{BothTold, IsStep}
use Rattle.flash_actors.proofs.Turned.{taken_new, told_without, step_legal, turned}
use Rattle.flash_actors.proofs.turns.step.Goals as goal

pub step_under-told-requires : goal.step_under-told-requires
step_under-told-requires g c =
    let pass = c.args.pass.now in
    let id : Id = record { pass = number_of pass; seq = c.args.seq } in
    let f = c.enter-held.ensures.told in
    let new = taken_new (journal_seen pass) c.enter-held.result.taken.value.told id f.begins (f.as_left ∙ c.requires.ready.linked) c.requires.new in
    let is : c.state.result.now ≡ c.enter-held.result.taken.value = c.state.ensures.value ∙ c.enter-held.ensures.value in
    subst (λ (n : ℕ). IsNewTold c.state.result.now.told (record { pass = n; seq = c.args.seq })) (sym c.number.ensures)
    (subst (λ (s : Store). IsNewTold s.told id) (sym is) new)

pub leave-requires-clause-own : goal.leave-requires-clause-own
leave-requires-clause-own g c =
    let is : c.state.result.now ≡ c.enter-held.result.taken.value = c.state.ensures.value ∙ c.enter-held.ensures.value in
    let n : c.number.result ≡ number_of c.enter-held.result.pass.now = c.number.ensures ∙ sym c.enter-held.ensures.number in
    let id : Id = record { pass = c.number.result; seq = c.args.seq } in
    let kept = told_without c.state.result.now.geometry id c.args.ask.now c.args.reading c.step_under-told.result c.state.result.now.told
    c.step_under-told.new.core.told c.step_under-told.ensures.step in
    subst (λ (k : ℕ). without k (own_steps c.step_under-told.new.core) ≡ without k (own_steps c.enter-held.result.taken.value)) n
    (kept ∙ ap (λ (s : Store). without c.number.result (own_steps s)) is)

pub returns-clause-step : goal.returns-clause-step
returns-clause-step g c =
    let pass = c.args.pass.now in
    let f = c.enter-held.ensures.told in
    let t = c.enter-held.result.taken.value in
    let is : c.state.result.now ≡ t = c.state.ensures.value ∙ c.enter-held.ensures.value in
    let known = geometry_known c.args.store.now in
    let ask = c.args.ask.now in
    let told = c.step_under-told.result in
    let id : Id = record { pass = c.number.result; seq = c.args.seq } in
    let over : BothTold (IsStep AreOfNoStep known id ask c.args.reading told) t.told c.step_under-told.new.core.told =
    subst (λ (x : Geometry). BothTold (IsStep AreOfNoStep x id ask c.args.reading told) t.told c.step_under-told.new.core.told) f.same_fixed
    (subst (λ (s : Store). BothTold (IsStep AreOfNoStep s.geometry id ask c.args.reading told) s.told c.step_under-told.new.core.told) is c.step_under-told.ensures.step) in
    let whole = turned known (number_of pass) c.number.result c.args.seq ask c.args.reading told (journal_seen pass) t.told c.step_under-told.new.core.told
    c.number.ensures f.begins (f.as_left ∙ c.requires.ready.linked) over in
    let own : Id = record { pass = number_of pass; seq = c.args.seq } in
    let there : BothTold (IsStep (AreOfOthers (number_of pass)) known own ask c.args.reading told) (journal_seen pass) (journal_seen c.leave.new.self.0) =
    subst (BothTold (IsStep (AreOfOthers (number_of pass)) known own ask c.args.reading told) (journal_seen pass)) (sym c.leave.ensures.seen) whole in
    search (rules, there)

pub returns-clause-ready : goal.returns-clause-ready
returns-clause-ready g c =
    let new = c.leave.new.self.0 in
    let f = c.enter-held.ensures.told in
    let s = c.state.result.now in
    let after = c.step_under-told.new.core in
    let is : s ≡ c.enter-held.result.taken.value = c.state.ensures.value ∙ c.enter-held.ensures.value in
    let number : number_of new ≡ number_of c.args.pass.now = c.leave.ensures.number ∙ c.enter-held.ensures.number in
    let geometry : s.geometry ≡ geometry_known c.args.store.now = ap (λ (s : Store). s.geometry) is ∙ f.same_fixed in
    let legal : ForSome after.told (Legal s.geometry) =
    step_legal s.geometry (record { pass = c.number.result; seq = c.args.seq }) c.args.ask.now c.args.reading c.step_under-told.result AreOfNoStep s.told after.told c.step_under-told.ensures.step in
    let there : IsReady c.args.store.now new = record {
      of = subst (λ (s : Turn Store). IsPassOf geometry_of s new) c.enter-held.ensures.same_turn c.leave.ensures.pass;
      numbered = subst (λ (n : ℕ). 0 < n) (sym number) c.requires.ready.numbered;
      linked = c.leave.ensures.own ∙ ap (λ (n : ℕ). own_of n (own_steps after)) (sym c.leave.ensures.number)
          ∙ ap (λ (t : Option (List Entry)). own_of (number_of new) (told_pairs t)) (sym c.leave.ensures.seen);
      legal = subst (λ (x : Geometry). ForSome (journal_seen new) (Legal x)) geometry
          (subst (λ (t : Option (List Entry)). ForSome t (Legal s.geometry)) (sym c.leave.ensures.seen) legal);
    } in
    subst (λ (p : Pass Store). IsReady c.args.store.now p) (search rules) there
