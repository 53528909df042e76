use Rattle.std.proofs.Common.{◌+◌, length, take, map, Option, Some, sym, ◌∙◌, ap, subst, arith}
use Rattle.std.proofs.lemmas.Result.{err_from_is_err_and}
use Rattle.flash_script.specs.declared.fault.Why.{Why}
use Rattle.flash_script.specs.declared.fault.ScriptFault.{ScriptFault}
use Rattle.flash_script.specs.CodeScripts.{step_meant, IsFault}
use Rattle.flash_script.specs.Scripts.{fault_of}
use Rattle.flash_script.proofs.Scripts.FirstLine.{fault_no_line, fault_first_line, fault_behind, script_is}
use Rattle.flash_script.proofs.Scripts.Seats.{has_seats}
use Rattle.flash_script.proofs.script.read_script.Goals as goal

pub returns-in_default-clause-bad : goal.returns-in_default-clause-bad
returns-in_default-clause-bad c =
    subst (IsFault (fault_of c.args.bytes.now)) (sym c.bad-in_default.ensures) (fault_no_line c.args.bytes.now (omega arith) (sym c.in_default.ensures.parts))

pub returns-in-Err-clause-bad : goal.returns-in-Err-clause-bad
returns-in-Err-clause-bad c =
    let bad = fault_first_line c.args.bytes.now c.in-Some.first_line.now c.in-Some.field-0-1.now (omega arith) (sym c.in-Some.ensures.parts) c.in-Err.fault (sym c.in-Err.ensures) in
    subst (IsFault (fault_of c.args.bytes.now)) (sym c.bad-in-Err.ensures) (bad ∙ ap (λ (why : Why). Some (record { line = 1; why = why })) (sym c.why_of.ensures))

pub returns-in_err-steps-clause-bad : goal.returns-in_err-steps-clause-bad
returns-in_err-steps-clause-bad c =
    let p = err_from_is_err_and c.from_residual.result c.from_residual.ensures.1 in
    let with_more = fault_behind c.args.bytes.now c.in-Some.first_line.now c.in-Some.field-0-1.now (omega arith) (sym c.in-Some.ensures.parts) c.in-Ok.geometry (sym c.in-Ok.ensures) in
    rw (p.1, p.2) (subst (λ (f : Option ScriptFault). IsFault f c.in_err-steps.field-0.0) (sym with_more) c.in_err-steps.ensures.bad)

pub returns-clause-read : goal.returns-clause-read
returns-clause-read c =
    script_is c.args.bytes.now c.in-Some.first_line.now c.in-Some.field-0-1.now (omega arith) (sym c.in-Some.ensures.parts) c.in-Ok.geometry (sym c.in-Ok.ensures)
    (map (step_meant c.args.bytes.now) c.in_ok-steps.steps.items) c.in_ok-steps.ensures.good c.in_ok-steps.ensures.read

-- the sessions of a reading are seated
pub returns-clause-seated : goal.returns-clause-seated
returns-clause-seated c =
    let first_line = c.in-Some.first_line.now in
    has_seats c.args.bytes.now
    (record { geometry = c.in-Ok.geometry; first_line = take (length first_line + 1) c.args.bytes.now; steps = map (step_meant c.args.bytes.now) c.in_ok-steps.steps.items })
    (script_is c.args.bytes.now first_line c.in-Some.field-0-1.now (omega arith) (sym c.in-Some.ensures.parts) c.in-Ok.geometry (sym c.in-Ok.ensures)
    (map (step_meant c.args.bytes.now) c.in_ok-steps.steps.items) c.in_ok-steps.ensures.good c.in_ok-steps.ensures.read)
