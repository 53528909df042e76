use Rattle.std.proofs.Common.{◌++◌}
use Rattle.flash_actors.proofs.Streams.{written_both, begun_after, append_nothing}
use Rattle.flash_actors.proofs.output.Output.send_with.Goals as goal

-- all was written
pub returns-in-Ok-write_all-clause-taken : goal.returns-in-Ok-write_all-clause-taken
returns-in-Ok-write_all-clause-taken g c =
    let before = c.args.self.now.gathered.items in
    let piece = c.args.piece.now in
    let held = g.K.Sink.held in
    record {
      sent = before ++ piece;
      parts = append_nothing (before ++ piece) c.send.new.self.gathered.items c.in-Ok.ensures.empty;
      written = written_both before piece (held c.args.sink.now) (held c.send.new.sink) (held c.write_all.new.sink) c.in-Ok.ensures.written c.in-Ok-write_all.ensures.written;
    }

-- the piece was begun
pub returns-in-Err-write_all-clause-begun : goal.returns-in-Err-write_all-clause-begun
returns-in-Err-write_all-clause-begun g c =
    let held = g.K.Sink.held in
    begun_after c.args.self.now.gathered.items c.args.piece.now (held c.args.sink.now) (held c.send.new.sink) (held c.write_all.new.sink) c.in-Ok.ensures.written c.in-Err-write_all.ensures.begun
