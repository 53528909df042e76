use Rattle.std.proofs.Common.{◌/◌, length, take, ◌∙◌, arith, length-take}
use Rattle.flash_device.proofs.Halves.{part_of}
use Rattle.flash_device.proofs.page_memory.put_half.Goals as goal

pub returns-clause-spoiled : goal.returns-clause-spoiled
returns-clause-spoiled c =
    let bytes = c.args.bytes.now in
    let half = take (length bytes / 2) bytes in
    let part = part_of c.args.offset (length bytes) half c.args.page.now (omega (arith, length-take (length bytes / 2) bytes)) c.requires in
    (part.0, part.1, c.put.ensures ∙ part.2)
