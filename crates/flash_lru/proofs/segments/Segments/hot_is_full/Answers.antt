use Rattle.std.proofs.Common.{ℕ, ◌*◌, ◌/◌, ◌∙◌, ap, sym, ltb}
use Rattle.flash_lru.proofs.Calls.{hot_bytes_read, memory_read}
use Rattle.flash_lru.proofs.segments.Segments.hot_is_full.Goals as goal

pub returns : goal.returns
returns c =
    ap (λ (k : ℕ). ltb k c.self.inside.hot_bytes) (c.hot_share.ensures ∙ ap (λ (m : ℕ). m * 20 / 100) (sym (memory_read _ _ _ _ c.self.inside.memory _ c.self.invariant c.self.view_is)))
    ∙ ap (λ (k : ℕ). ltb (c.args.self.now.memory * 20 / 100) k) (sym (hot_bytes_read _ _ _ _ c.self.inside.memory _ c.self.invariant c.self.view_is))
