use Rattle.flash_core.proofs.dropping.has_ended.Goals as goal

pub has_ended-requires : goal.has_ended-requires
has_ended-requires c = (c.requires c.in-Some.place c.in-Some.is).inside
