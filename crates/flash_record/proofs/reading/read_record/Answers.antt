use Rattle.std.proofs.Common.{arith}
use Rattle.flash_record.proofs.Answered.{found, only}
use Rattle.flash_record.proofs.reading.read_record.Goals as goal

pub returns-clause-found : goal.returns-clause-found
returns-clause-found c = found c.args.bytes.now c.first_of.result (λ i. omega (arith, c.type_inv.bytes i)) c.first_of.ensures.exact c.first_of.ensures.length

pub returns-clause-only : goal.returns-clause-only
returns-clause-only c = only c.args.bytes.now c.first_of.result (λ i. omega (arith, c.type_inv.bytes i)) c.first_of.ensures.exact
