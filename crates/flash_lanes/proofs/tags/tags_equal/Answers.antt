use Rattle.std.proofs.Common.{◌≡◌, ℕ, nat_eq, length, ap, ◌∙◌, arith, w8}
use Rattle.std.specs.Int.{bit_at}
use Rattle.std.proofs.lemmas.Simd.{bitmask_splat}
use Rattle.flash_lanes.proofs.Masks.{tag_mask, tag_bit, fits_16}
use Rattle.flash_lanes.proofs.tags.tags_equal.Goals as goal

pub overflow_cast-result : goal.overflow_cast-result
overflow_cast-result c =
    let tags = c.args.tags.now in
    let long : length tags ≡ 16 = omega arith in
    let is = bitmask_splat w8 nat_eq tags 16 c.args.tag long (omega arith) in
    rw is (record { fits = fits_16 (λ x. nat_eq x c.args.tag) tags long })

pub returns-clause-mask : goal.returns-clause-mask
returns-clause-mask c =
    let tags = c.args.tags.now in
    let long : length tags ≡ 16 = omega arith in
    bitmask_splat w8 nat_eq tags 16 c.args.tag long (omega arith) ∙ tag_mask tags c.args.tag

pub returns-clause-bits : goal.returns-clause-bits
returns-clause-bits c i inside =
    let tags = c.args.tags.now in
    let long : length tags ≡ 16 = omega arith in
    ap (λ (m : ℕ). bit_at m i) (bitmask_splat w8 nat_eq tags 16 c.args.tag long (omega arith)) ∙ tag_bit tags c.args.tag i (omega arith)
