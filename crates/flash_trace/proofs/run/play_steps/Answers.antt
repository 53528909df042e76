use Rattle.std.proofs.Common.{◌≡◌, ◌+◌, List, ◌∷◌, sym, ◌∙◌, ap, subst, arith, length, drop, map}
use Rattle.flash_names.specs.declared.geometry.Geometry.{Geometry}
use Rattle.flash_play.specs.Playing.{play_from, play_step}
use Rattle.flash_script.specs.declared.step.Step.{Step}
use Rattle.flash_script.specs.CodeScripts.{AreWithin, step_meant}
use Rattle.flash_trace.proofs.Playing.Played.{front_item}
use Rattle.flash_trace.proofs.Playing.Turns.{trace_goes_on}
use Rattle.flash_trace.proofs.run.play_steps.Goals as goal

pub steps-preserved : goal.steps-preserved
steps-preserved c =
    let one = c.in_ok-step.ensures in
    let was = c.steps.invariant in
    let all = c.args.steps.now in
    let bytes = c.args.bytes.now in
    let gg = c.steps.core.geometry in
    let item = c.step-item.result in
    let next = c.steps.line + 1 in
    let rest = drop (c.steps.step-index + 1) all in
    let front : drop c.steps.step-index all ≡ item ∷ rest = front_item all c.steps.step-index item (omega (arith, c.steps-test.true)) c.step-item.is in
    record {
      counted = omega (arith, was.counted);
      geometry = one.geometry ∙ was.geometry;
      going = trace_goes_on c.steps_leave_numbers_new.ensures c.steps.core c.step.new.core c.steps.play c.step.new.self bytes item next was.going one.done one.places one.tells;
      within = (subst (AreWithin (length bytes)) front was.within).1;
      left = λ p is.
          let before = was.left p is in
          let after = play_step gg before.0 next (step_meant bytes item) in (
            after,
            one.done before.0 before.1,
            ap (λ (h : Geometry). play_from h after (next + 1) (map (step_meant bytes) rest)) one.geometry
                ∙ ap (λ (l : List Step). play_from gg before.0 next (map (step_meant bytes) l)) (sym front) ∙ before.2,
          );
    }
