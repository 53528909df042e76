-- What is read from a source and written to a sink in pieces.
use Rattle.std.proofs.Common.{◌≡◌, ℕ, ◌+◌, ◌-◌, ◌≤◌, List, [], ◌++◌, Option, None, Some, refl, Result, Ok, Err, OnErr, sym, ◌∙◌, ap, arith, append_assoc, length, length-drop, take, drop}
use Rattle.std.proofs.lemmas.List.{drop-take, take-append-drop, take-take, take_all}
use Rattle.flash_names.specs.Faults.{Rose}
use Rattle.flash_names.specs.Told.{with_front, with_more}
use Rattle.flash_streams.specs.Reading.{IsRest}

in_front_both : (xs ys : List ℕ) (rest : Option (List ℕ)) → with_front xs (with_front ys rest) ≡ with_front (xs ++ ys) rest
in_front_both xs ys None = refl
in_front_both xs ys (Some bytes) = ap (λ (l : List ℕ). Some l) (sym (append_assoc xs ys bytes))

behind_both : (xs ys : List ℕ) (front : Option (List ℕ)) → with_more ys (with_more xs front) ≡ with_more (xs ++ ys) front
behind_both xs ys None = refl
behind_both xs ys (Some bytes) = ap (λ (l : List ℕ). Some l) (append_assoc bytes xs ys)

-- bytes that were read, and more
pub read_on : (xs ys : List ℕ) (first mid last : Option (List ℕ)) → first ≡ with_front xs mid → mid ≡ with_front ys last → first ≡ with_front (xs ++ ys) last
read_on xs ys first mid last one two = one ∙ ap (with_front xs) two ∙ in_front_both xs ys last

-- bytes that were written, and more
pub written_on : (xs ys : List ℕ) (first mid last : Option (List ℕ)) → mid ≡ with_more xs first → last ≡ with_more ys mid → last ≡ with_more (xs ++ ys) first
written_on xs ys first mid last one two = two ∙ ap (with_more ys) one ∙ behind_both xs ys first

-- nothing that was read or written
pub read_none : (first : Option (List ℕ)) → first ≡ with_front [] first
read_none None = refl
read_none (Some bytes) = refl

-- a count that rose later rose
pub rose_later : (a b c : ℕ) → a ≤ b → Rose b c → Rose a c
rose_later a b c kept rose = omega (arith, kept, rose)

-- the front of a list, and the front of what is after it
pub take_on : (n m : ℕ) (xs : List ℕ) → take n xs ++ take m (drop n xs) ≡ take (n + m) xs
take_on n m xs =
    ap (λ (l : List ℕ). l ++ take m (drop n xs)) (sym (take-take n (n + m) xs (omega arith)))
    ∙ ap (λ (l : List ℕ). take n (take (n + m) xs) ++ l) (sym (drop-take n m xs))
    ∙ take-append-drop n (take (n + m) xs)

-- what is after a place, as a slice up to the end
pub slice_from : (n : ℕ) (xs : List ℕ) → take (length xs - n) (drop n xs) ≡ drop n xs
slice_from n xs = take_all (length xs - n) (drop n xs) (omega (arith, length-drop n xs))

-- a rest of what is left after some bytes
pub rest_on : (xs : List ℕ) (first mid last : Option (List ℕ)) → first ≡ with_front xs mid → IsRest mid last → IsRest first last
rest_on xs first mid last one rest = record { front = xs ++ rest.front; taken = read_on xs rest.front first mid last one rest.taken }

-- what holds at any end holds after an error
pub at_error : {A E : Type 0} (r : Result A E) (P : Type 0) → P → OnErr r P
at_error (Ok v) P holds = tt
at_error (Err e) P holds = holds
