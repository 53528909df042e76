-- The rows of the tables are held against the definition by computing: each is the row before it with eight
-- steps more, where the numbers from 0 on are before the first.
use Rattle.std.proofs.Common.{◌≡◌, ℕ, zero, suc, ◌+◌, ◌*◌, ◌<◌, Bool, true, false, ◌&&◌, nat_eq, List, [], ◌∷◌, length, get_or, refl, sym, ap, ◌∙◌, arith}
use Rattle.std.proofs.lemmas.Bool.{and_parts, eqb-true}
use Rattle.flash_crc.specs.Crc32c.{after_bits}
use Rattle.flash_crc.specs.declared.tables.TheConstants.{TABLES}
use Rattle.flash_crc.proofs.Linear.{in_turn, from_zero}

numbers : ℕ → ℕ → List ℕ
numbers zero start = []
numbers (suc n) start = start ∷ numbers n (suc start)

number_at : (n start i : ℕ) → i < n → get_or (numbers n start) i 0 ≡ start + i
unfolding numbers
number_at zero start i lt = absurd (omega arith)
number_at (suc n) start zero lt = omega arith
number_at (suc n) start (suc i) lt = number_at n (suc start) i (omega arith) ∙ omega arith

follows : List ℕ → List ℕ → Bool
follows [] [] = true
follows [] (y ∷ ys) = false
follows (x ∷ xs) [] = false
follows (x ∷ xs) (y ∷ ys) = nat_eq y (after_bits 8 x) && follows xs ys

rows_follow : List ℕ → List (List ℕ) → Bool
rows_follow before [] = true
rows_follow before (row ∷ rest) = follows before row && rows_follow row rest

entry_follows : (xs ys : List ℕ) → follows xs ys ≡ true → (i : ℕ) → get_or ys i 0 ≡ after_bits 8 (get_or xs i 0)
unfolding follows
entry_follows [] [] is i = sym (from_zero 8)
entry_follows [] (y ∷ ys) is i = absurd (cc is)
entry_follows (x ∷ xs) [] is i = absurd (cc is)
entry_follows (x ∷ xs) (y ∷ ys) is zero = eqb-true y (after_bits 8 x) (and_parts (nat_eq y (after_bits 8 x)) (follows xs ys) is).0
entry_follows (x ∷ xs) (y ∷ ys) is (suc i) = entry_follows xs ys (and_parts (nat_eq y (after_bits 8 x)) (follows xs ys) is).1 i

row_entry : (before : List ℕ) (rows : List (List ℕ)) → rows_follow before rows ≡ true → (k : ℕ) → k < length rows → (i : ℕ) → get_or (get_or rows k []) i 0 ≡ after_bits (8 * k + 8) (get_or before i 0)
unfolding rows_follow
row_entry before [] is k lt i = absurd (omega arith)
row_entry before (row ∷ rest) is zero lt i = entry_follows before row (and_parts (follows before row) (rows_follow row rest) is).0 i
row_entry before (row ∷ rest) is (suc k) lt i =
    let count : 8 + (8 * k + 8) ≡ 8 * suc k + 8 = omega arith in
    row_entry row rest (and_parts (follows before row) (rows_follow row rest) is).1 k (omega arith) i
    ∙ ap (after_bits (8 * k + 8)) (entry_follows before row (and_parts (follows before row) (rows_follow row rest) is).0 i)
    ∙ sym (in_turn 8 (8 * k + 8) (get_or before i 0))
    ∙ ap (λ (j : ℕ). after_bits j (get_or before i 0)) count

tables_follow : rows_follow (numbers 256 0) TABLES ≡ true
unfolding rows_follow follows numbers after_bits
tables_follow = refl

pub table_entry : (k byte : ℕ) → k < 16 → byte < 256 → get_or (get_or TABLES k []) byte 0 ≡ after_bits (8 * k + 8) byte
table_entry k byte row column =
    row_entry (numbers 256 0) TABLES tables_follow k row byte
    ∙ ap (after_bits (8 * k + 8)) (number_at 256 0 byte column ∙ omega arith)
