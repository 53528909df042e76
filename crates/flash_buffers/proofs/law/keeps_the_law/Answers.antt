use Rattle.flash_buffers.proofs.LawLemmas.{kept}
use Rattle.flash_buffers.proofs.QueueLemmas.{all_out, all_order}
use Rattle.flash_buffers.proofs.OrderLemmas.{all_part}
use Rattle.flash_buffers.proofs.RecordsLemmas.{are_records}
use Rattle.flash_buffers.proofs.law.keeps_the_law.Goals as goal

pub returns-clause-kept : goal.returns-clause-kept
returns-clause-kept c = kept

pub returns-clause-out : goal.returns-clause-out
returns-clause-out c = all_out

pub returns-clause-in_order : goal.returns-clause-in_order
returns-clause-in_order c = all_order

pub returns-clause-part : goal.returns-clause-part
returns-clause-part c = all_part

pub returns-clause-records : goal.returns-clause-records
returns-clause-records c = are_records
