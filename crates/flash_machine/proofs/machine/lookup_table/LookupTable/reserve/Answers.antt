use Rattle.std.proofs.Common.{sym, ◌∙◌}
use Rattle.flash_machine.proofs.machine.lookup_table.LookupTable.reserve.Goals as goal

pub returns-clause-same : goal.returns-clause-same
returns-clause-same c = λ g h was. record {
  open_ = λ id. was.open_ id ∙ sym (c.reserve.ensures.entries.2 (id.pass, id.seq));
  buffered = was.buffered;
  hits = was.hits;
  damaged = was.damaged;
}
