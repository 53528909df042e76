use Rattle.std.proofs.Common.{arith}
use Rattle.flash_crc.proofs.Pieces.{word_from}
use Rattle.flash_crc.proofs.block.remainder_of_word.Goals as goal

pub returns : goal.returns
returns c =
    word_from c.args.zeros c.args.word c.to_le_bytes.result (omega arith) c.to_le_bytes.ensures
    c.remainder_of.result c.remainder_of-2.result c.remainder_of-3.result c.remainder_of-4.result c.remainder_of-5.result c.remainder_of-6.result c.remainder_of-7.result c.remainder_of-8.result
    c.remainder_of.ensures c.remainder_of-2.ensures c.remainder_of-3.ensures c.remainder_of-4.ensures c.remainder_of-5.ensures c.remainder_of-6.ensures c.remainder_of-7.ensures c.remainder_of-8.ensures
