use Rattle.std.proofs.Common.{ℕ, List, ◌∙◌, subst}
use Rattle.flash_streams.specs.Writing.{IsWritten}
use Rattle.flash_check.proofs.Answering.{is_one, writes, said}
use Rattle.flash_check.proofs.run.answer_bytes.Goals as goal

pub returns-in-Ok-write_all-clause-unwritten : goal.returns-in-Ok-write_all-clause-unwritten
returns-in-Ok-write_all-clause-unwritten g c =
    λ none. absurd (writes c.in-Ok.answer (is_one c.in-Ok.answer c.args.bytes.now c.in-Ok.ensures) none)

pub returns-in-Ok-write_all-clause-said : goal.returns-in-Ok-write_all-clause-said
returns-in-Ok-write_all-clause-said g c =
    said c.args.bytes.now _ _ _ _ c.in-Ok.answer (is_one c.in-Ok.answer c.args.bytes.now c.in-Ok.ensures) c.in-Ok.ensures
    (subst (λ (l : List ℕ). IsWritten l (g.K.Sink.held c.args.sink.now) (g.K.Sink.held c.write_all.new.sink)) (c.deref.ensures.value ∙ c.in-Ok-answer_line.ensures) c.in-Ok-write_all.ensures.written)
