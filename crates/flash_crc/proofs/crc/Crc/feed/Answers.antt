use Rattle.std.proofs.Common.{ℕ, ap, sym, ◌∙◌}
use Rattle.flash_crc.specs.Crc32c.{all_ones, remainder}
use Rattle.flash_crc.proofs.Linear.{joined}
use Rattle.flash_crc.proofs.crc.Crc.feed.Goals as goal

pub returns-clause-behind : goal.returns-clause-behind
returns-clause-behind c fed is = c.after_bytes-self-inside.ensures ∙ ap (λ (r : ℕ). remainder r c.args.bytes.now) (c.self.view_is ∙ is) ∙ sym (joined all_ones fed c.args.bytes.now)
