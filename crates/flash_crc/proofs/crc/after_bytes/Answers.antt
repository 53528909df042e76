use Rattle.std.proofs.Common.{◌≡◌, ℕ, ◌/◌, ◌*◌, [], length, drop, ap, sym, ◌∙◌, arith}
use Rattle.std.proofs.Math.Seq.{drop-length}
use Rattle.std.specs.List.{fold}
use Rattle.flash_crc.specs.Crc32c.{remainder}
use Rattle.flash_crc.proofs.Pieces.{blocks_joined}
use Rattle.flash_crc.proofs.crc.after_bytes.Goals as goal

pub returns : goal.returns
returns c =
    let start = c.args.start in
    let bytes = c.args.bytes.now in
    let blocks = c.as_chunks.result.0.now in
    let count = length bytes / 16 in
    let at : c.whole.block-index ≡ length blocks = omega arith in
    let over : drop c.whole.block-index blocks ≡ [] = ap (λ (n : ℕ). drop n blocks) at ∙ drop-length blocks in
    let whole : c.whole.remainder ≡ fold remainder start blocks = ap (fold remainder c.whole.remainder) (sym over) ∙ c.whole.invariant in
    c.after_each.ensures
    ∙ ap (remainder c.whole.remainder) c.as_chunks.ensures.back
    ∙ ap (λ (r : ℕ). remainder r (drop (count * 16) bytes)) (whole ∙ ap (fold remainder start) c.as_chunks.ensures.front)
    ∙ blocks_joined start count bytes
