use Rattle.std.proofs.Common.{arith}
use Rattle.std.proofs.lemmas.Grind.{common_steps}
use Rattle.flash_device.proofs.page_memory.PageMemory.write_half.Goals as goal

pub returns-clause-spoiled : goal.returns-clause-spoiled
returns-clause-spoiled c =
    let left = c.put_half.ensures.spoiled in
    (left.0, left.1, grind (arith, common_steps, left.2))
