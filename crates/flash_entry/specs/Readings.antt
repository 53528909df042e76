-- Readings of a line's words from left to right, with the first fault that is met.
use Rattle.std.specs.Prelude.{◌≡◌, ◌≢◌, ℕ, ◌+◌, List, [], ◌∷◌, Option, None, Some, Result, Ok, Err, refl}
use Rattle.std.specs.Coded.{Coded, code_by, coded×, coded_ℕ, coded_list}
use Rattle.flash_entry.specs.declared.entry_fault.EntryFault.{EntryFault}
use Rattle.flash_entry.specs.declared.entry_fault.EntryFault.TheVariants.{BadWord, Short, NoMemory}

-- the words that are left, and the place of the last one that was read
pub record Left : Type 0 where
  pub words : List (List ℕ)
  pub place : ℕ

-- as a pair
abbrev pub left_code : Coded Left
left_code =
    code_by (List (List ℕ) × ℕ) (coded× (coded_list (coded_list coded_ℕ)) coded_ℕ) (λ l. (l.words, l.place))
    (λ p. record { words = p.0; place = p.1 }) (λ _. refl)

-- a value and what is left after its words, or the first fault
abbrev pub Outcome : Type 0 → Type 0
Outcome A = Result (A × Left) EntryFault

-- what is read of the words that are left
abbrev pub Reading : Type 0 → Type 0
Reading A = Left → Outcome A

-- the second after the first
abbrev pub and_then : {A B : Type 0} → Outcome A → (A → Reading B) → Outcome B
and_then (Ok read) next = next read.0 read.1
and_then (Err fault) next = Err fault

infixl 10 ◌>>=◌
abbrev pub ◌>>=◌ : {A B : Type 0} → Reading A → (A → Reading B) → Reading B
first >>= next = λ left. and_then (first left) next

-- a value of no word
abbrev pub give : {A : Type 0} → A → Reading A
give value = λ left. Ok (value, left)

-- a value, or the fault of the word that was read last
abbrev pub value_or : {A : Type 0} → Option A → (ℕ → EntryFault) → Reading A
value_or None bad = λ left. Err (bad left.place)
value_or (Some value) bad = give value

-- the first of these words, which comes after this place
abbrev pub first_word : List (List ℕ) → ℕ → Outcome (List ℕ)
first_word [] place = Err Short
first_word (word ∷ words) place = Ok (word, record { words = words; place = place + 1 })

-- the next word
unfoldable pub next_word : Reading (List ℕ)
next_word left = first_word left.words left.place

-- a word more than the form has is a bad one
abbrev pub no_more : List (List ℕ) → ℕ → Outcome Unit
no_more [] place = Ok (tt, record { words = []; place = place })
no_more (word ∷ words) place = Err (BadWord (place + 1))

-- the end of the line
unfoldable pub end_of_line : Reading Unit
end_of_line left = no_more left.words left.place

-- a call answers what the reading has, and leaves what it leaves
abbrev pub Reads : {A : Type 0} → Outcome A → Result A EntryFault → Left → Type 0
Reads outcome (Ok value) left = outcome ≡ Ok (value, left)
Reads outcome (Err fault) left = outcome ≡ Err fault

-- the same of a call that takes memory, unless that runs out
abbrev pub ReadsInMemory : {A : Type 0} → Outcome A → Result A EntryFault → Left → Type 0
ReadsInMemory outcome (Ok value) left = outcome ≡ Ok (value, left)
ReadsInMemory outcome (Err fault) left = fault ≢ NoMemory → outcome ≡ Err fault
