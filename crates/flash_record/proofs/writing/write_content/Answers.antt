use Rattle.std.proofs.Common.{refl, ◌∙◌, arith}
use Rattle.flash_record.specs.Record.{content}
use Rattle.flash_record.proofs.Written.{later}
use Rattle.flash_record.proofs.writing.write_content.Goals as goal

pub returns-clause-written : goal.returns-clause-written
unfolding content
returns-clause-written c =
    rw (c.put.ensures.written, c.put-value_at.ensures.written, c.put-key_at.ensures.written, c.put-version_at.ensures.written, c.put-cas_at.ensures.written, c.put-length_at.ensures.written, c.put-flags_at.ensures.written, c.to_be_bytes.ensures, c.to_be_bytes-2.ensures, c.to_be_bytes-3.ensures, c.to_be_bytes-4.ensures) refl

pub returns-clause-rest : goal.returns-clause-rest
returns-clause-rest c =
    let end = c.put.result in
    c.put.ensures.rest
    ∙ later c.put-value_at.result end c.put-value_at.new.into c.put-key_at.new.into c.put-value_at.ensures.rest (omega arith)
    ∙ later c.put-key_at.result end c.put-key_at.new.into c.put-version_at.new.into c.put-key_at.ensures.rest (omega arith)
    ∙ later c.put-version_at.result end c.put-version_at.new.into c.put-cas_at.new.into c.put-version_at.ensures.rest (omega arith)
    ∙ later c.put-cas_at.result end c.put-cas_at.new.into c.put-length_at.new.into c.put-cas_at.ensures.rest (omega arith)
    ∙ later c.put-length_at.result end c.put-length_at.new.into c.put-flags_at.new.into c.put-length_at.ensures.rest (omega arith)
    ∙ later c.put-flags_at.result end c.put-flags_at.new.into c.args.into.now c.put-flags_at.ensures.rest (omega arith)
