use Rattle.std.proofs.Common.{◌<◌, length, sym, arith}
use Rattle.std.proofs.lemmas.List.{take_all}
use Rattle.flash_reader.specs.declared.front.TheConstants.{LINE_LIMIT}
use Rattle.flash_reader.proofs.front.window.Goals as goal

pub returns-then-bytes-lt-LINE_LIMIT-clause-front : goal.returns-then-bytes-lt-LINE_LIMIT-clause-front
returns-then-bytes-lt-LINE_LIMIT-clause-front c =
    let less : length c.args.bytes.now < LINE_LIMIT = c.if-bytes-lt-LINE_LIMIT.true in sym (take_all LINE_LIMIT c.args.bytes.now (omega (arith, less)))
