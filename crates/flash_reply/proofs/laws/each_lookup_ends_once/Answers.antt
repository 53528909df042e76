use Rattle.flash_reply.proofs.Lookups.{ends_once}
use Rattle.flash_reply.proofs.laws.each_lookup_ends_once.Goals as goal

pub returns : goal.returns
returns c = ends_once
