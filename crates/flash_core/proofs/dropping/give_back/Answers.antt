use Rattle.std.proofs.Common.{◌≡◌, false, refl, sym, ◌∙◌}
use Rattle.flash_core.proofs.dropping.give_back.Goals as goal

pub has_ended-requires : goal.has_ended-requires
has_ended-requires c = (c.requires c.in-Some.place c.in-Some.is).inside
