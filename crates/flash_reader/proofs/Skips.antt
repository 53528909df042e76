-- Where bytes to come are skipped, none are unread.
use Rattle.std.proofs.Common.{◌≡◌, ℕ, ◌+◌, ◌-◌, ◌<◌, List, ◌++◌, length, drop, min, ◌∙◌, ap, arith}
use Rattle.std.proofs.lemmas.List.{length-append, length-drop}

-- no byte comes
pub skip_kept : (skip start dest : ℕ) (old items : List ℕ) → (0 < skip → start ≡ length old) → dest ≡ 0 → drop dest items ≡ drop start old → 0 < skip → dest ≡ length items
skip_kept skip start dest old items none zero kept some =
    let all = none some in
    let before = length-drop start old in
    let after = length-drop dest items in
    let same : length (drop dest items) ≡ length (drop start old) = ap length kept in omega (arith, all, zero, before, after, same)

-- as long as bytes are left to skip, all that come are passed over
pub skip_passed : (skip n passed start dest : ℕ) (old items more : List ℕ) → (0 < skip → start ≡ length old) → dest ≡ 0 → drop dest items ≡ drop start old ++ more
    → passed ≡ min n skip → length more ≡ n - passed → 0 < skip - passed → dest ≡ length items
skip_passed skip n passed start dest old items more none zero kept least rest some =
    let all = none (omega (arith, some)) in
    let before = length-drop start old in
    let after = length-drop dest items in
    let same : length (drop dest items) ≡ length (drop start old) + length more = ap length kept ∙ length-append (drop start old) more in
    omega (arith, all, zero, before, after, same, least, rest, some)
