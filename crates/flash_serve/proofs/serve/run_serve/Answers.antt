use Rattle.std.proofs.Common.{subst}
use Rattle.flash_serve.specs.Words.{IsReadingOf}
use Rattle.flash_serve.proofs.Ending.{ends_by}
use Rattle.flash_serve.proofs.serve.run_serve.Goals as goal

pub returns-in-Options-clause-ends : goal.returns-in-Options-clause-ends
returns-in-Options-clause-ends g c = ends_by c.args.words.now c.in-Options.options _ c.serve_options.result
    (subst (IsReadingOf c.args.words.now) c.in-Options.is c.in-Ok.ensures) c.serve_options.ensures
