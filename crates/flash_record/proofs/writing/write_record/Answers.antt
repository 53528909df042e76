use Rattle.std.proofs.Common.{◌≡◌, ℕ, List, ◌++◌, take, drop, ap, sym, ◌∙◌, arith}
use Rattle.std.proofs.lemmas.List.{take-append-drop}
use Rattle.std.specs.Int.{to_be_bytes, w32}
use Rattle.flash_crc.specs.Crc32c.{crc32c}
use Rattle.flash_record.specs.Record.{Parts, content, record_bytes}
use Rattle.flash_record.proofs.Written.{later}
use Rattle.flash_record.proofs.writing.write_record.Goals as goal

pub returns-clause-written : goal.returns-clause-written
unfolding record_bytes
returns-clause-written c =
    let parts : List ℕ → Parts = λ key. record { key = key; flags = c.args.flags; cas = c.args.cas; version = c.args.version; value = c.args.value.now } in
    let p = parts c.args.key.now in
    let end = c.write_content-checksum_offset.result in
    let next = c.put.result in
    let before = c.write_content-checksum_offset.new.into in
    let after = c.put.new.into in
    let front : take end before ≡ content p = c.write_content-checksum_offset.ensures.written ∙ ap (λ (key : List ℕ). content (parts key)) c.bytes-key.ensures.same in
    let sum : c.to_be_bytes.result ≡ to_be_bytes w32 (crc32c (content p)) = c.to_be_bytes.ensures ∙ ap (to_be_bytes w32) (c.crc32c-sum.ensures ∙ ap crc32c front) in
    let whole : take next after ≡ content p ++ to_be_bytes w32 (crc32c (content p)) =
    c.put.ensures.written ∙ ap (λ (l : List ℕ). l ++ c.to_be_bytes.result) front ∙ ap (λ (l : List ℕ). content p ++ l) sum in
    sym (take-append-drop next after)
    ∙ ap (λ (l : List ℕ). l ++ drop next after) whole
    ∙ ap (λ (l : List ℕ). (content p ++ to_be_bytes w32 (crc32c (content p))) ++ l) (c.put.ensures.rest ∙ later end next before c.args.into.now c.write_content-checksum_offset.ensures.rest (omega arith))
