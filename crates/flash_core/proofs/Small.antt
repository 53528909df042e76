-- A value that fits is small.
use Rattle.std.proofs.Common.{ℕ, ◌≤◌, length, arith}
use Rattle.flash_items.specs.declared.item.Body.{Body}
use Rattle.flash_items.specs.declared.item.Body.TheVariants.{Here, Away}
use Rattle.flash_items.specs.Item.{IsSmall}
use Rattle.flash_index.specs.Known.{known_value}

pub small_body : (body : Body) (most : ℕ) → length (known_value 0 body) ≤ most → most ≤ 1047552 → IsSmall body
small_body (Here value) most fits bound = omega (arith, fits, bound)
small_body (Away place) most fits bound = omega arith
