use Rattle.std.proofs.Common.{sym, ◌∙◌}
use Rattle.flash_core.proofs.sought.leaving_cause.Goals as goal

pub has_ended-requires : goal.has_ended-requires
has_ended-requires c = λ place at. c.requires.fit.given c.requires.id.0 place (sym (c.place.ensures c.requires.id.0 c.requires.id.1) ∙ at)
