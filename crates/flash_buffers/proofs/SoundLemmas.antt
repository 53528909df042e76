-- What each call keeps of the buffers, over their slots and their queue.
use Rattle.std.proofs.Common.{◌≡◌, ℕ, zero, suc, ◌^◌, ◌<◌, ◌≤◌, Bool, false, nat_eq, IsSome, List, [], ◌∷◌, ◌++◌, length, get_or, set, take, drop, replicate, All, Option, None, Some, refl, sym, ap, ◌∙◌, subst, arith, length-append, inl, inr}
use Rattle.std.proofs.Math.ListN.{get_or-map}
use Rattle.std.proofs.lemmas.Bool.{or_parts}
use Rattle.std.proofs.lemmas.Bool.Decides.{nat_tests, eqb_tells}
use Rattle.std.proofs.lemmas.List.{map-set, length-map, length-set, get_or-set_other, length-replicate, get_or-replicate}
use Rattle.std.proofs.lemmas.Grind.{get_or-set_at}
use Rattle.std.proofs.lemmas.List.Elements.{All-set}
use Rattle.std.specs.List.{AllByRecursion, IsDistinct, list_any}
use Rattle.flash_names.specs.declared.place.Label.{Label}
use Rattle.flash_buffers.specs.Block.{Block, Slot, blocks_in, block_with_record}
use Rattle.flash_buffers.proofs.Pigeonhole.{distinct_few}
use Rattle.flash_buffers.specs.BufferTable.{BufferTable, block_of, first_free, IsOpen}
use Rattle.flash_buffers.specs.Calls.{with_first_free, with_block, table_after, takes}
use Rattle.flash_buffers.specs.Sound.{IsSound, IsTaken, free_slot}

-- the block of a buffer by its number
pub block_at : (slots : List Slot) (n : ℕ) → get_or (blocks_in slots) n None ≡ (get_or slots n free_slot).block
block_at slots n = get_or-map (λ slot. slot.block) slots n free_slot

-- within a list it doesn't matter what is read after its end
pub inside_or : {X : Type 0} (xs : List X) (n : ℕ) (d e : X) → n < length xs → get_or xs n d ≡ get_or xs n e
inside_or [] n d e inside = absurd (omega (arith, inside))
inside_or (x ∷ xs) zero d e inside = refl
inside_or (x ∷ xs) (suc n) d e inside = inside_or xs n d e (omega (arith, inside))

-- a block's number is that of its buffer
pub number_inside : (t : BufferTable) (slots : List Slot) (n : ℕ) → blocks_in slots ≡ t.blocks → n < length t.blocks → n < length slots
number_inside t slots n same inside = omega (arith, inside, ap (λ (l : List (Option Block)). length l) same, length-map slots (λ slot. slot.block))

pub appended_blocks : (size : ℕ) (slots : List Slot) (n : ℕ) (old new : Slot) (key : List ℕ) (flags cas : ℕ) (value : List ℕ) → All (λ slot. slot.size ≡ size) slots → n < length slots → old ≡ get_or slots n old → new ≡ record old { block = block_with_record old.size key flags cas value old.block } → blocks_in (set slots n new) ≡ set (blocks_in slots) n (block_with_record size key flags cas value (get_or (blocks_in slots) n None))
appended_blocks size slots n old new key flags cas value sizes inside is new_is =
    let same : old ≡ get_or slots n free_slot = is ∙ inside_or slots n old free_slot inside in
    let block : old.block ≡ get_or (blocks_in slots) n None = ap (λ (s : Slot). s.block) same ∙ sym (block_at slots n) in
    let long : old.size ≡ size = ap (λ (s : Slot). s.size) same ∙ sizes n free_slot inside in
    map-set (λ slot. slot.block) slots n new ∙ ap (λ (b : Option Block). set (blocks_in slots) n b) (ap (λ (s : Slot). s.block) new_is ∙ rw (block, long) refl)

-- a number that is taken stays so where another buffer changes, or this one to one that is taken
stays_taken : (slots : List Slot) (n m : ℕ) (slot : Slot) → (n ≡ m → IsSome slot.block) → IsTaken slots m → IsTaken (set slots n slot) m
stays_taken slots n m slot here taken =
    let inside : m < length (set slots n slot) = omega (arith, taken.0, length-set slots n slot) in
    elim (eqb_tells n m) [
      | inl is ↦ (inside, subst (λ (s : Slot). IsSome s.block) (sym (get_or-set_at slots n m slot free_slot (sym is.1) (omega (arith, taken.0, is.1)))) (here is.1))
      | inr is ↦ (inside, subst (λ (s : Slot). IsSome s.block) (sym (get_or-set_other slots n m slot free_slot (λ same. is.1 (sym same)))) taken.1)
    ]

pub all_stay : (slots : List Slot) (n : ℕ) (slot : Slot) (queue : List ℕ) → IsSome slot.block → AllByRecursion (IsTaken slots) queue → AllByRecursion (IsTaken (set slots n slot)) queue
all_stay slots n slot [] some taken = tt
all_stay slots n slot (m ∷ rest) some taken = (stays_taken slots n m slot (λ _. some) taken.0, all_stay slots n slot rest some taken.1)

-- the others stay taken
others_stay : (slots : List Slot) (n : ℕ) (slot : Slot) (rest : List ℕ) → AllByRecursion (λ m. nat_eq n m ≡ false) rest → AllByRecursion (IsTaken slots) rest → AllByRecursion (IsTaken (set slots n slot)) rest
others_stay slots n slot [] apart taken = tt
others_stay slots n slot (m ∷ rest) apart taken =
    (stays_taken slots n m slot (λ same. absurd (grind (arith, nat_tests, apart.0, same))) taken.0, others_stay slots n slot rest apart.1 taken.1)

-- one more at the queue's end
taken_push : (slots : List Slot) (queue : List ℕ) (n : ℕ) → IsTaken slots n → AllByRecursion (IsTaken slots) queue → AllByRecursion (IsTaken slots) (queue ++ n ∷ [])
taken_push slots [] n is taken = (is, tt)
taken_push slots (m ∷ rest) n is taken = (taken.0, taken_push slots rest n is taken.1)

apart_push : (m n : ℕ) (rest : List ℕ) → nat_eq m n ≡ false → AllByRecursion (λ y. nat_eq m y ≡ false) rest → AllByRecursion (λ y. nat_eq m y ≡ false) (rest ++ n ∷ [])
apart_push m n [] differ apart = (differ, tt)
apart_push m n (y ∷ rest) differ apart = (apart.0, apart_push m n rest differ apart.1)

distinct_push : (queue : List ℕ) (n : ℕ) → list_any (λ m. nat_eq m n) queue ≡ false → IsDistinct nat_eq queue → IsDistinct nat_eq (queue ++ n ∷ [])
unfolding IsDistinct
distinct_push [] n none distinct = (tt, tt)
distinct_push (m ∷ rest) n none distinct =
    let parts = or_parts (nat_eq m n) (list_any (λ y. nat_eq y n) rest) none in
    (apart_push m n rest parts.0 distinct.0, distinct_push rest n parts.1 distinct.1)

pub below_of : (slots : List Slot) (queue : List ℕ) → AllByRecursion (IsTaken slots) queue → AllByRecursion (λ n. n < length slots) queue
below_of slots [] taken = tt
below_of slots (n ∷ rest) taken = (taken.0.0, below_of slots rest taken.1)

-- the queue has room for one more
pub shorter : (size : ℕ) (slots : List Slot) (queue : List ℕ) (room n : ℕ) → IsSound size slots queue room → IsTaken slots n → list_any (λ m. nat_eq m n) queue ≡ false → length queue < room
shorter size slots queue room n sound is none =
    let all : length (queue ++ n ∷ []) ≤ length slots = distinct_few (length slots) (queue ++ n ∷ []) (below_of slots (queue ++ n ∷ []) (taken_push slots queue n is sound.taken)) (distinct_push queue n none sound.distinct) in
    omega (arith, all, sound.rooms, length-append queue (n ∷ []))

pub sound_push : (size : ℕ) (slots : List Slot) (queue : List ℕ) (room more n : ℕ) → IsSound size slots queue room → IsTaken slots n → list_any (λ m. nat_eq m n) queue ≡ false → room ≤ more → IsSound size slots (queue ++ n ∷ []) more
sound_push size slots queue room more n sound is none wider = record {
  sizes = sound.sizes;
  few = sound.few;
  rooms = omega (arith, sound.rooms, wider);
  taken = taken_push slots queue n is sound.taken;
  distinct = distinct_push queue n none sound.distinct;
}

-- a buffer is taken, or keeps being so
pub sound_set : (size : ℕ) (slots : List Slot) (queue : List ℕ) (room n : ℕ) (slot : Slot) → IsSound size slots queue room → slot.size ≡ size → IsSome slot.block → IsSound size (set slots n slot) queue room
sound_set size slots queue room n slot sound long some = record {
  sizes = All-set (λ (s : Slot). s.size ≡ size) slots n slot long sound.sizes;
  few = omega (arith, sound.few, length-set slots n slot);
  rooms = omega (arith, sound.rooms, length-set slots n slot);
  taken = all_stay slots n slot queue some sound.taken;
  distinct = sound.distinct;
}

-- the first of the queue is free
pub sound_written : (size : ℕ) (slots : List Slot) (queue : List ℕ) (room n : ℕ) (slot : Slot) → IsSound size slots queue room → 0 < length queue → n ≡ get_or queue 0 n → slot.size ≡ size → IsSound size (set slots n slot) (drop 1 queue) room
unfolding IsDistinct
sound_written size slots [] room n slot sound some first long = absurd (omega (arith, some))
sound_written size slots (m ∷ rest) room n slot sound some first long =
    subst (λ (k : ℕ). IsSound size (set slots k slot) rest room) (sym first) (record {
      sizes = All-set (λ (s : Slot). s.size ≡ size) slots m slot long sound.sizes;
      few = omega (arith, sound.few, length-set slots m slot);
      rooms = omega (arith, sound.rooms, length-set slots m slot);
      taken = others_stay slots m slot rest sound.distinct.0 sound.taken.1;
      distinct = sound.distinct.1;
    })

pub written_table : (size : ℕ) (slots : List Slot) (queue : List ℕ) (in_flight : Bool) (n : ℕ) (slot : Slot) → 0 < length queue → n ≡ get_or queue 0 n → slot.block ≡ None → record { size = size; blocks = blocks_in (set slots n slot); queue = drop 1 queue; in_flight = false } ≡ with_first_free (record { size = size; blocks = blocks_in slots; queue = queue; in_flight = in_flight }) queue
written_table size slots [] in_flight n slot some first free = absurd (omega (arith, some))
written_table size slots (m ∷ rest) in_flight n slot some first free =
    ap (λ (blocks : List (Option Block)). record { size = size; blocks = blocks; queue = rest; in_flight = false }) (map-set (λ s. s.block) slots n slot ∙ rw (first, free) refl)

-- a taken buffer by its number
pub number_taken : (t : BufferTable) (slots : List Slot) (n : ℕ) → blocks_in slots ≡ t.blocks → n < length t.blocks → IsSome (block_of t n) → IsTaken slots n
number_taken t slots n same inside some =
    (number_inside t slots n same inside, subst (λ (b : Option Block). IsSome b) (ap (λ (l : List (Option Block)). get_or l n None) (sym same) ∙ block_at slots n) some)

-- a free buffer is taken by a block
pub taken_table : (t : BufferTable) (slots : List Slot) (n : ℕ) (label : Label) (offset : ℕ) (new : Slot) → blocks_in slots ≡ t.blocks → first_free t ≡ Some n → new.block ≡ Some (record { label = label; offset = offset; records = [] }) → record t { blocks = blocks_in (set slots n new) } ≡ table_after (takes label offset) t
taken_table t slots n label offset new same first block =
    let blocks : blocks_in (set slots n new) ≡ set t.blocks n (Some (record { label = label; offset = offset; records = [] })) =
    map-set (λ slot. slot.block) slots n new ∙ rw (same, block) refl in
    ap (λ (l : List (Option Block)). record t { blocks = l }) blocks ∙ ap (with_block t label offset) (sym first)

-- the first buffers
pub sound_first : (size n : ℕ) (slots : List Slot) (queue : List ℕ) (room : ℕ) → slots ≡ replicate n (record { size = size; block = None }) → queue ≡ [] → n < 2 ^ 32 → n ≤ room → IsSound size slots queue room
unfolding IsDistinct
sound_first size n slots queue room slots_are queue_is few rooms =
    let long : length slots ≡ n = ap (λ (l : List Slot). length l) slots_are ∙ length-replicate n _ in
    record {
      sizes = λ k d inside. (let at : get_or slots k d ≡ record { size = size; block = None } = ap (λ (l : List Slot). get_or l k d) slots_are ∙ get_or-replicate n k _ d (omega (arith, inside, long)) in ap (λ (s : Slot). s.size) at);
      few = omega (arith, few, long);
      rooms = omega (arith, rooms, long);
      taken = subst (AllByRecursion (IsTaken slots)) (sym queue_is) tt;
      distinct = subst (IsDistinct nat_eq) (sym queue_is) tt;
    }

pub first_blocks : (size n : ℕ) → blocks_in (replicate n (record { size = size; block = None })) ≡ replicate n None
first_blocks size zero = refl
first_blocks size (suc n) = ap (λ (l : List (Option Block)). None ∷ l) (first_blocks size n)

pub without_first : (queue : List ℕ) → take 0 queue ++ drop 1 queue ≡ drop 1 queue
without_first [] = refl
without_first (n ∷ rest) = refl

pub first_inside : (slots : List Slot) (queue : List ℕ) (n : ℕ) → AllByRecursion (IsTaken slots) queue → 0 < length queue → n ≡ get_or queue 0 n → n < length slots
first_inside slots [] n taken some first = absurd (omega (arith, some))
first_inside slots (m ∷ rest) n taken some first = omega (arith, first, taken.0.0)

-- a free buffer isn't in the queue
not_queued : (slots : List Slot) (queue : List ℕ) (n : ℕ) → AllByRecursion (IsTaken slots) queue → (get_or slots n free_slot).block ≡ None → list_any (λ m. nat_eq m n) queue ≡ false
not_queued slots [] n taken free = refl
not_queued slots (m ∷ rest) n taken free = rw (differs, not_queued slots rest n taken.1 free) refl where
  differs : nat_eq m n ≡ false
  differs =
      elim (eqb_tells m n) [
        | inl same ↦ absurd (let none : IsSome {T = Block} None = subst (λ (b : Option Block). IsSome b) free (subst (λ (k : ℕ). IsSome (get_or slots k free_slot).block) same.1 taken.0.1) in cc none)
        | inr other ↦ other.0
      ]

-- a buffer that was free and is taken is open
pub taken_open : (size : ℕ) (slots : List Slot) (queue : List ℕ) (room n : ℕ) (new : Slot) (in_flight : Bool) → IsSound size slots queue room → n < length slots → (get_or slots n free_slot).block ≡ None → IsSome new.block → IsOpen (record { size = size; blocks = blocks_in (set slots n new); queue = queue; in_flight = in_flight }) n
taken_open size slots queue room n new in_flight sound inside free some = record {
  inside = omega (arith, inside, length-map (set slots n new) (λ slot. slot.block), length-set slots n new);
  taken = subst (λ (b : Option Block). IsSome b) (sym (block_at (set slots n new) n ∙ ap (λ (s : Slot). s.block) (get_or-set_at slots n n new free_slot refl inside))) some;
  unsealed = not_queued slots queue n sound.taken free;
}
