use Rattle.std.proofs.Common.{ℕ, ◌/◌, ap, sym, ◌∙◌, bit_xor}
use Rattle.std.proofs.lemmas.Nat.{and_mask}
use Rattle.flash_crc.specs.Crc32c.{after_bits}
use Rattle.flash_crc.proofs.Linear.{byte_step}
use Rattle.flash_crc.proofs.block.after_byte.Goals as goal

pub returns : goal.returns
returns c =
    ap (bit_xor (c.args.start / 256)) (c.remainder_of.ensures ∙ ap (λ (x : ℕ). after_bits 8 (bit_xor x c.args.byte)) (and_mask c.args.start 8))
    ∙ sym (byte_step c.args.start c.args.byte)
