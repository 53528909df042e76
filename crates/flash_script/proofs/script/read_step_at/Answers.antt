use Rattle.std.proofs.Common.{Ok, Err, sym, ◌∙◌, ap}
use Rattle.std.specs.Str.{bytes_eq}
use Rattle.std.proofs.lemmas.List.{take_rest}
use Rattle.std.proofs.lemmas.Result.{err_from_is_err_and}
use Rattle.flash_names.specs.Cut.{cut_at}
use Rattle.flash_script.specs.CodeScripts.{step_meant}
use Rattle.flash_script.proofs.Scripts.StepAt.{feed_is, line_step_is}
use Rattle.flash_script.proofs.script.read_step_at.Goals as goal

pub returns-then-eq-clause-read : goal.returns-then-eq-clause-read
returns-then-eq-clause-read c =
    let cut = sym (c.in-Some.ensures.parts ∙ ap (cut_at 10) (take_rest c.args.bytes.now c.args.start)) in
    let this = sym (c.if-eq.ensures ∙ ap (bytes_eq c.split_word.result.0.now) c.as_slice.ensures) in
    c.read_feed.ensures.read ∙ feed_is c.args.bytes.now c.args.start c.in-Some.line.now c.in-Some.field-0-1.now c.split_word.result.0.now _ cut c.split_word.ensures this

pub returns-in_err-step-clause-read : goal.returns-in_err-step-clause-read
returns-in_err-step-clause-read c =
    let p = err_from_is_err_and c.from_residual.result c.from_residual.ensures.1 in
    let cut = sym (c.in-Some.ensures.parts ∙ ap (cut_at 10) (take_rest c.args.bytes.now c.args.start)) in
    let other = sym (c.if-eq.ensures ∙ ap (bytes_eq c.split_word.result.0.now) c.as_slice.ensures) in
    rw (p.1, p.2)
    (line_step_is c.args.bytes.now c.args.start c.in-Some.line.now c.in-Some.field-0-1.now c.split_word.result.0.now _ cut c.split_word.ensures other (Err c.in_err-step.field-0.0) c.in_err-step.ensures.read)

pub returns-clause-read : goal.returns-clause-read
returns-clause-read c =
    let cut = sym (c.in-Some.ensures.parts ∙ ap (cut_at 10) (take_rest c.args.bytes.now c.args.start)) in
    let other = sym (c.if-eq.ensures ∙ ap (bytes_eq c.split_word.result.0.now) c.as_slice.ensures) in
    line_step_is c.args.bytes.now c.args.start c.in-Some.line.now c.in-Some.field-0-1.now c.split_word.result.0.now _ cut c.split_word.ensures other (Ok (step_meant c.args.bytes.now c.in_ok-step.step)) c.in_ok-step.ensures.read
