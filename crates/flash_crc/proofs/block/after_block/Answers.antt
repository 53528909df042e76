use Rattle.std.proofs.Common.{sym, arith, rules}
use Rattle.flash_crc.proofs.Pieces.{two_words}
use Rattle.flash_crc.proofs.block.after_block.Goals as goal

pub returns : goal.returns
returns c =
    rw (c.remainder_of_word.ensures, c.remainder_of_word-2.ensures, c.word.ensures, c.word-second.ensures, c.from.ensures)
    (sym (two_words c.args.start c.args.block.now (search rules) (λ i. omega (arith, c.fits-block i))))
