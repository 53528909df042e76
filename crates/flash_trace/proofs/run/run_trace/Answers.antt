use Rattle.std.proofs.Common.{◌≡◌, sym, ◌∙◌}
use Rattle.flash_trace.specs.CommandLine.{journal_wanted}
use Rattle.flash_trace.proofs.Writing.Ending.{is_traced, read_bytes}
use Rattle.flash_trace.proofs.run.run_trace.Goals as goal

pub returns-in-Ok-clause-traced : goal.returns-in-Ok-clause-traced
returns-in-Ok-clause-traced g c =
    is_traced (journal_wanted c.args.words.now) (c.run_bytes.new.device ≡ c.args.device.now) _ _ _ c.deref.result.now c.in-Some.with_journal
    (read_bytes _ _ _ _ c.deref.ensures.value c.in-Ok.ensures.read) (sym c.read_trace_words.ensures ∙ c.in-Some.is)
    c.every_trace_is_right.ensures c.run_bytes.result c.run_bytes.ensures.ends c.run_bytes.ensures.asked
