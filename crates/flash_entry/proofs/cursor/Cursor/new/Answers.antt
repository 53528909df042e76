use Rattle.std.proofs.Common.{◌==◌, arith}
use Rattle.std.proofs.lemmas.List.Sums.{count_by-le-length}
use Rattle.flash_entry.proofs.WordLemmas.{length-words}
use Rattle.flash_entry.proofs.cursor.Cursor.new.Goals as goal

pub invariant_of-result : goal.invariant_of-result
invariant_of-result c =
    omega (arith, length-words c.args.line.now, count_by-le-length (λ b. b == 32) c.args.line.now)
