-- What a buffer keeps where a record is written after those that are there.
use Rattle.std.proofs.Common.{◌≡◌, ℕ, ◌+◌, ◌-◌, ◌<◌, ◌≤◌, List, ◌++◌, length, take, drop, replicate, sym, ap, ◌∙◌, subst, arith, append_assoc, length-append, length-drop}
use Rattle.std.proofs.Math.Seq.{take-append_seam}
use Rattle.std.proofs.lemmas.List.{drop-replicate, drop-drop, drop_at}

-- the bytes that the buffer has after its bytes were lent and became new
abbrev pub lent : {X : Type 0} → ℕ → List X → List X → List X
lent len items new = take len (new ++ drop (length new) items)

pub lent_is : {X : Type 0} (len : ℕ) (items new : List X) → length new ≡ len → lent len items new ≡ new
lent_is len items new same = subst (λ (n : ℕ). take n (new ++ drop (length new) items) ≡ new) same (take-append_seam new (drop (length new) items))

-- the used bytes lie in the buffer, whose bytes end below 2^32 of the page, and zeros are after them
abbrev pub Keeps : ℕ → ℕ → List ℕ → Type 0
Keeps offset used bytes = (used ≤ length bytes) × (offset + length bytes < 4294967296) × (drop used bytes ≡ replicate (length bytes - used) 0)

zeros : (n k : ℕ) (bytes : List ℕ) (used : ℕ) → drop used bytes ≡ replicate k 0 → drop (used + n) bytes ≡ replicate (k - n) 0
zeros n k bytes used is = sym (drop-drop n used bytes) ∙ ap (λ (l : List ℕ). drop n l) is ∙ drop-replicate n k 0

-- what is after the record is as it was
rest_is : (used n : ℕ) (items new front : List ℕ) → new ≡ take used items ++ (front ++ drop (used + n) items) → length new ≡ length items → used + n ≤ length items → drop (used + n) new ≡ drop (used + n) items
rest_is used n items new front is same inside =
    let before : List ℕ = take used items ++ front in
    let joined : new ≡ before ++ drop (used + n) items = is ∙ sym (append_assoc (take used items) front (drop (used + n) items)) in
    let size : length before ≡ used + n = omega (arith, same, ap length joined, length-append before (drop (used + n) items), length-drop (used + n) items) in
    subst (λ (l : List ℕ). drop (used + n) l ≡ drop (used + n) items) (sym joined) (drop_at before (drop (used + n) items) (used + n) size)

pub keeps : (offset used n len : ℕ) (items new front : List ℕ) → len ≡ length items → length new ≡ length items → used + n ≤ length items → new ≡ take used items ++ (front ++ drop (used + n) items) → Keeps offset used items → Keeps offset (used + n) (lent len items new)
keeps offset used n len items new front size same inside written was =
    let rest = rest_is used n items new front written same inside in
    let is : lent len items new ≡ new = lent_is len items new (same ∙ sym size) in
    let left : length items - used - n ≡ length new - (used + n) = omega (arith, same) in
    let zero : drop (used + n) new ≡ replicate (length new - (used + n)) 0 = rest ∙ zeros n (length items - used) items used was.2 ∙ ap (λ (k : ℕ). replicate k 0) left in
    subst (Keeps offset (used + n)) (sym is) (omega (arith, same, inside), omega (arith, same, was.1), zero)
