use Rattle.std.proofs.Common.{ℕ, length, List, Option, Some, Ok, slice_range, option_map, sym, ◌∙◌, ap, arith}
use Rattle.std.specs.Option.{ok_or}
use Rattle.flash_script.specs.declared.fault.Why.TheVariants.{BadNumber}
use Rattle.flash_script.specs.declared.step.SessionNumber.{SessionNumber}
use Rattle.flash_script.specs.Steps.{Say}
use Rattle.flash_script.proofs.Scripts.Words.{end_length, end_between}
use Rattle.flash_script.proofs.Scripts.StepWords.{ends_line, say_is, clock_is, turn_is, run_is, one_word_is, match_read}
use Rattle.flash_script.specs.Scripts.{step_of}
use Rattle.flash_script.proofs.step_line.read_step.Goals as goal

-- a line of one word
pub returns-in_default-rest-clause-read : goal.returns-in_default-rest-clause-read
returns-in_default-rest-clause-read c =
    let line = slice_range c.args.bytes.now c.args.start c.args.end in
    let is = one_word_is line c.split_word.result.0.now c.split_word.result.1 c.split_word.ensures c.in_default-rest.is c.in-Some.word (sym c.step_word.ensures ∙ c.in-Some.is) in
    match_read c.args.bytes.now c.step_of_one_word.result (step_of line) (c.step_of_one_word.ensures.read c.args.bytes.now ∙ sym is)

pub returns-in_default-rest-clause-within : goal.returns-in_default-rest-clause-within
returns-in_default-rest-clause-within c = c.step_of_one_word.ensures.within (length c.args.bytes.now)

-- a reading of the clock with a word too many
pub returns-in_default-2-clause-read : goal.returns-in_default-2-clause-read
returns-in_default-2-clause-read c =
    clock_is (slice_range c.args.bytes.now c.args.start c.args.end) c.split_word.result.0.now c.split_word-2.result.0.now c.split_word.result.1 c.split_word-2.result.1 c.in-Some-rest.rest c.in_default-2.field-0-1
    c.split_word.ensures c.in-Some-rest.is c.split_word-2.ensures c.in_default-2.is-1 (sym c.step_word.ensures ∙ c.in-Some.is ∙ ap Some c.in_default-2.is-0)

-- a turn with a word too many
pub returns-in_default-2-2-clause-read : goal.returns-in_default-2-2-clause-read
returns-in_default-2-2-clause-read c =
    turn_is (slice_range c.args.bytes.now c.args.start c.args.end) c.split_word.result.0.now c.split_word-2.result.0.now c.split_word.result.1 c.split_word-2.result.1 c.in-Some-rest.rest c.in_default-2.field-0-1
    c.split_word.ensures c.in-Some-rest.is c.split_word-2.ensures c.in_default-2.is-1 (sym c.step_word.ensures ∙ c.in-Some.is ∙ ap Some c.in_default-2.is-0)

-- a run with a word too many
pub returns-in_default-2-3-clause-read : goal.returns-in_default-2-3-clause-read
returns-in_default-2-3-clause-read c =
    run_is (slice_range c.args.bytes.now c.args.start c.args.end) c.split_word.result.0.now c.split_word-2.result.0.now c.split_word.result.1 c.split_word-2.result.1 c.in-Some-rest.rest c.in_default-2.field-0-1
    c.split_word.ensures c.in-Some-rest.is c.split_word-2.ensures c.in_default-2.is-1 (sym c.step_word.ensures ∙ c.in-Some.is ∙ ap Some c.in_default-2.is-0)

-- what the number of a `say` says
pub returns-in_default-read_session-clause-read : goal.returns-in_default-read_session-clause-read
returns-in_default-read_session-clause-read c =
    say_is (slice_range c.args.bytes.now c.args.start c.args.end) c.split_word.result.0.now c.split_word-2.result.0.now c.split_word.result.1 c.split_word-2.result.1 c.in-Some-rest.rest c.in-Say-Some.input
    c.split_word.ensures c.in-Some-rest.is c.split_word-2.ensures c.in-Say-Some.is-1 (sym c.step_word.ensures ∙ c.in-Some.is ∙ ap Some c.in-Say-Some.is-0)
    ∙ ap (λ (n : Option ℕ). ok_or (option_map (λ session. Say session c.in-Say-Some.input.now) n) BadNumber)
    (sym c.read_session-in-Say-Some.ensures ∙ ap (λ (s : Option SessionNumber). option_map (λ session. session.number) s) c.in_default-read_session.is)

pub overflow_sub-result : goal.overflow_sub-result
overflow_sub-result c =
    let ends = ends_line (slice_range c.args.bytes.now c.args.start c.args.end) c.split_word.result.0.now c.split_word-2.result.0.now c.split_word.result.1 c.split_word-2.result.1 c.in-Some-rest.rest c.in-Say-Some.input
    c.split_word.ensures c.in-Some-rest.is c.split_word-2.ensures c.in-Say-Some.is-1 in
    omega (arith, end_length c.args.bytes.now c.in-Say-Some.input.now c.args.start c.args.end c.requires.order c.requires.within ends)

pub returns-in-Some-read_session-clause-read : goal.returns-in-Some-read_session-clause-read
returns-in-Some-read_session-clause-read c =
    let ends = ends_line (slice_range c.args.bytes.now c.args.start c.args.end) c.split_word.result.0.now c.split_word-2.result.0.now c.split_word.result.1 c.split_word-2.result.1 c.in-Some-rest.rest c.in-Say-Some.input
    c.split_word.ensures c.in-Some-rest.is c.split_word-2.ensures c.in-Say-Some.is-1 in
    say_is (slice_range c.args.bytes.now c.args.start c.args.end) c.split_word.result.0.now c.split_word-2.result.0.now c.split_word.result.1 c.split_word-2.result.1 c.in-Some-rest.rest c.in-Say-Some.input
    c.split_word.ensures c.in-Some-rest.is c.split_word-2.ensures c.in-Say-Some.is-1 (sym c.step_word.ensures ∙ c.in-Some.is ∙ ap Some c.in-Say-Some.is-0)
    ∙ ap (λ (n : Option ℕ). ok_or (option_map (λ session. Say session c.in-Say-Some.input.now) n) BadNumber)
    (sym c.read_session-in-Say-Some.ensures ∙ ap (λ (s : Option SessionNumber). option_map (λ session. session.number) s) c.in-Some-read_session.is)
    ∙ ap (λ (input : List ℕ). Ok (Say c.in-Some-read_session.session.number input))
    (sym (end_between c.args.bytes.now c.in-Say-Some.input.now c.args.start c.args.end c.requires.order c.requires.within ends))
