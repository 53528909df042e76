use Rattle.std.proofs.Common.{◌+◌, drop, length-drop, Some, vec_len, sym, ◌∙◌, ap, subst, arith}
use Rattle.flash_script.specs.CodeScripts.{IsFault}
use Rattle.flash_script.specs.Scripts.{fault_from}
use Rattle.flash_script.proofs.Scripts.Fronts.{fault_full, fault_bad}
use Rattle.flash_script.proofs.Scripts.StepLoop.{within_more, read_more, faults_more}
use Rattle.flash_script.proofs.script.read_steps.Goals as goal

pub returns-then-len-ge-MAX_STEPS-clause-bad : goal.returns-then-len-ge-MAX_STEPS-clause-bad
returns-then-len-ge-MAX_STEPS-clause-bad c =
    let full = fault_full (drop c.steps.start c.args.bytes.now) (vec_len c.steps.steps + 2) (omega arith) (omega (arith, length-drop c.steps.start c.args.bytes.now)) in
    subst (IsFault (fault_from 2 (drop c.args.steps_offset c.args.bytes.now))) (sym c.bad.ensures) (sym c.steps.invariant.fault ∙ full)

pub steps-preserved : goal.steps-preserved
steps-preserved c =
    let pushed = c.in_ok-push-in-Ok.ensures in
    let turn = c.in-Ok.ensures in
    record {
      inside = turn.size.1;
      few = omega (arith, pushed.len);
      fault = faults_more c.args.bytes.now c.steps.start c.in-Ok.size c.steps.steps.items c.push.new.self.items c.in-Ok.step pushed.items (sym turn.read)
          (vec_len c.steps.steps + 2) (vec_len c.push.new.self + 2) (fault_from 2 (drop c.args.steps_offset c.args.bytes.now)) (omega arith) (omega (arith, pushed.len)) c.steps.invariant.fault;
      read = read_more c.args.bytes.now c.steps.start c.in-Ok.size c.steps.steps.items c.push.new.self.items c.in-Ok.step pushed.items (sym turn.read) _ c.steps.invariant.read;
      within = within_more c.args.bytes.now c.steps.start c.in-Ok.size c.steps.steps.items c.push.new.self.items c.in-Ok.step pushed.items c.steps.invariant.within turn.within;
    }

pub returns-in-Err-clause-bad : goal.returns-in-Err-clause-bad
returns-in-Err-clause-bad c =
    let first = fault_bad (drop c.steps.start c.args.bytes.now) (vec_len c.steps.steps + 2) c.in-Err.why (omega arith) (omega (arith, length-drop c.steps.start c.args.bytes.now)) (sym c.in-Err.ensures.read) in
    subst (IsFault (fault_from 2 (drop c.args.steps_offset c.args.bytes.now))) (sym c.bad-in-Err.ensures)
    (sym c.steps.invariant.fault ∙ first ∙ ap (λ n. Some (record { line = n + 2; why = c.in-Err.why })) (sym c.len-in-steps.ensures))
