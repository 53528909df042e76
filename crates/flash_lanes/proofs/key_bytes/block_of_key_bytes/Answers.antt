use Rattle.std.proofs.Common.{◌≡◌, ℕ, Bool, true, false, not, nat_eq, nat_le, length, take, ap, sym, ◌∙◌, arith, w8}
use Rattle.std.specs.Prelude.{◌&&◌}
use Rattle.std.specs.List.{list_all}
use Rattle.std.proofs.lemmas.Bool.{ne_eqb}
use Rattle.std.proofs.lemmas.List.{take_all}
use Rattle.std.proofs.lemmas.Simd.{bitmask_splat}
use Rattle.flash_lanes.specs.KeyBytes.{is_key_byte}
use Rattle.flash_lanes.proofs.Masks.{none_set, key_bytes}
use Rattle.flash_lanes.proofs.key_bytes.block_of_key_bytes.Goals as goal

pub returns-then-low-eq0 : goal.returns-then-low-eq0
returns-then-low-eq0 c =
    let block = c.args.block.now in
    let lanes = take 16 block in
    let whole : lanes ≡ block = take_all 16 block (omega arith) in
    let long : length lanes ≡ 16 = ap length whole ∙ c.requires in
    let low : list_all (λ x. not (nat_le x 32)) lanes ≡ true =
    sym (none_set (λ x. nat_le x 32) lanes) ∙ ap (λ (m : ℕ). nat_eq m 0) (sym (bitmask_splat w8 nat_le lanes 16 32 long (omega arith)) ∙ c.if-low-eq0.true) in
    ap (λ (m : ℕ). nat_eq m 0) (bitmask_splat w8 nat_eq lanes 16 127 long (omega arith))
    ∙ none_set (λ x. nat_eq x 127) lanes
    ∙ ap (λ (b : Bool). b && list_all (λ x. not (nat_eq x 127)) lanes) (sym low)
    ∙ key_bytes lanes
    ∙ ap (list_all is_key_byte) whole

pub returns-else-low-eq0 : goal.returns-else-low-eq0
returns-else-low-eq0 c =
    let block = c.args.block.now in
    let lanes = take 16 block in
    let whole : lanes ≡ block = take_all 16 block (omega arith) in
    let long : length lanes ≡ 16 = ap length whole ∙ c.requires in
    let is = bitmask_splat w8 nat_le lanes 16 32 long (omega arith) in
    let low : list_all (λ x. not (nat_le x 32)) lanes ≡ false =
    sym (none_set (λ x. nat_le x 32) lanes) ∙ ne_eqb _ 0 (λ e. c.if-low-eq0.false (is ∙ e)) in
    ap (λ (m : ℕ). nat_eq m 0) is
    ∙ none_set (λ x. nat_le x 32) lanes
    ∙ low
    ∙ ap (λ (b : Bool). b && list_all (λ x. not (nat_eq x 127)) lanes) (sym low)
    ∙ key_bytes lanes
    ∙ ap (list_all is_key_byte) whole
