use Rattle.std.proofs.Common.{◌+◌, ◌-◌, length, arith}
use Rattle.std.proofs.lemmas.Slice.{drop-put_mid}
use Rattle.flash_record.proofs.writing.put.Goals as goal

pub returns-clause-rest : goal.returns-clause-rest
returns-clause-rest c =
    let next = c.args.at + length c.args.bytes.now in
    drop-put_mid c.args.at (next - c.args.at) c.args.into.now c.copy_from_slice.new.self next (omega arith) (omega arith) (omega arith)
