use Rattle.std.proofs.Common.{ℕ, List, sym, subst}
use Rattle.flash_streams.specs.Reading.{HasRead}
use Rattle.flash_check.proofs.Answering.{is_checked}
use Rattle.flash_check.proofs.run.run_check.Goals as goal

pub returns-in-Ok-clause-checked : goal.returns-in-Ok-clause-checked
returns-in-Ok-clause-checked g c =
    is_checked c.deref.result.now _ (subst (λ (l : List ℕ). HasRead 16777216 l (g.S.Source.left c.args.source.now) (g.S.Source.left c.read_all.new.source)) (sym c.deref.ensures.value) c.in-Ok.ensures.read) c.answer_bytes.result c.answer_bytes.ensures.said
