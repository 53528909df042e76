-- A write of a part of the bytes of a range leaves some bytes in that range, and the rest as it was.
use Rattle.std.proofs.Common.{◌≡◌, ℕ, ◌+◌, ◌-◌, ◌≤◌, List, ◌++◌, length, take, drop, sym, ap, ◌∙◌, arith, append_assoc, length-append, length-take, length-drop}
use Rattle.std.proofs.lemmas.List.{take-append-drop, drop-drop}
use Rattle.flash_device.specs.Pages.{put_at}

pub part_of : (offset n : ℕ) (xs page : List ℕ) → length xs ≤ n → offset + n ≤ length page → (bytes : List ℕ) × (length bytes ≡ n) × (put_at offset xs page ≡ put_at offset bytes page)
part_of offset n xs page short within =
    let from = offset + length xs in
    let rest = take (n - length xs) (drop from page) in
    let size : length (xs ++ rest) ≡ n = omega (arith, length-append xs rest, length-take (n - length xs) (drop from page), length-drop from page) in
    let end : from + (n - length xs) ≡ offset + length (xs ++ rest) = omega arith in
    let back : drop from page ≡ rest ++ drop (offset + length (xs ++ rest)) page =
    sym (take-append-drop (n - length xs) (drop from page))
    ∙ ap (λ (l : List ℕ). rest ++ l) (drop-drop (n - length xs) from page ∙ ap (λ (k : ℕ). drop k page) end) in
    (xs ++ rest, size, ap (λ (l : List ℕ). take offset page ++ l) (ap (λ (l : List ℕ). xs ++ l) back ∙ sym (append_assoc xs rest (drop (offset + length (xs ++ rest)) page))))
