use Rattle.flash_record.proofs.Offsets.{record_bytes_length}
use Rattle.flash_record.proofs.laws.exact_length.Goals as goal

pub returns : goal.returns
returns c = record_bytes_length
