-- What is left where the buffers of a label are freed.
use Rattle.std.proofs.Common.{◌≡◌, ℕ, zero, suc, ◌+◌, ◌<◌, Bool, true, false, not, cond, nat_eq, is_some, IsSome, List, [], ◌∷◌, ◌++◌, length, get_or, set, take, drop, map, filter, All, Option, None, Some, refl, sym, ap, ◌∙◌, subst, arith, add-one}
use Rattle.std.proofs.Math.ListN.{get_or-map}
use Rattle.std.proofs.lemmas.List.{length-map}
use Rattle.std.specs.List.{AllByRecursion, IsDistinct}
use Rattle.flash_names.specs.declared.place.Label.{Label}
use Rattle.flash_buffers.specs.Block.{Block, Slot, blocks_in}
use Rattle.flash_buffers.specs.Covering.{has_label}
use Rattle.flash_buffers.specs.BufferTable.{block_without, slot_without}
use Rattle.flash_buffers.specs.Calls.{table_after, drops}
use Rattle.flash_buffers.specs.Sound.{IsSound, IsTaken, free_slot}
use Rattle.flash_buffers.proofs.SoundLemmas.{block_at, inside_or, below_of}

-- one more element is changed
set_step : {X : Type 0} (f : X → X) (xs : List X) (i : ℕ) (d : X) → i < length xs → set (map f (take i xs) ++ drop i xs) i (f (get_or xs i d)) ≡ map f (take (suc i) xs) ++ drop (suc i) xs
set_step f [] i d inside = absurd (omega (arith, inside))
set_step f (x ∷ xs) zero d inside = refl
set_step {X} f (x ∷ xs) (suc i) d inside = ap (λ (l : List X). f x ∷ l) (set_step f xs i d (omega (arith, inside)))

get_step : {X : Type 0} (f : X → X) (xs : List X) (i : ℕ) (d : X) → get_or (map f (take i xs) ++ drop i xs) i d ≡ get_or xs i d
get_step f [] zero d = refl
get_step f [] (suc i) d = refl
get_step f (x ∷ xs) zero d = refl
get_step f (x ∷ xs) (suc i) d = get_step f xs i d

pub map_step : (f : Slot → Slot) (xs now : List Slot) (i : ℕ) (item new : Slot) → i < length xs → now ≡ map f (take i xs) ++ drop i xs → item ≡ get_or now i item → new ≡ f item → set now i new ≡ map f (take (i + 1) xs) ++ drop (i + 1) xs
map_step f xs now i item new inside now_is item_is new_is =
    let item_was : item ≡ get_or xs i item = item_is ∙ ap (λ (l : List Slot). get_or l i item) now_is ∙ get_step f xs i item in
    let changed : new ≡ f (get_or xs i item) = new_is ∙ ap f item_was in
    let both : set now i new ≡ set (map f (take i xs) ++ drop i xs) i (f (get_or xs i item)) = ap (λ (l : List Slot). set l i new) now_is ∙ ap (λ (s : Slot). set (map f (take i xs) ++ drop i xs) i s) changed in
    rw add-one (both ∙ set_step f xs i item inside)

-- the blocks that are left
pub dropped_blocks : (label : Label) (slots : List Slot) → blocks_in (map (slot_without label) slots) ≡ map (block_without label) (blocks_in slots)
dropped_blocks label [] = refl
dropped_blocks label (slot ∷ rest) = ap (λ (l : List (Option Block)). block_without label slot.block ∷ l) (dropped_blocks label rest)

pub dropped_sizes : (size : ℕ) (label : Label) (slots : List Slot) → All (λ slot. slot.size ≡ size) slots → All (λ slot. slot.size ≡ size) (map (slot_without label) slots)
dropped_sizes size label slots sizes = λ k d inside.
    (let at : get_or (map (slot_without label) slots) k d ≡ slot_without label (get_or slots k d) = inside_or (map (slot_without label) slots) k d (slot_without label d) inside ∙ get_or-map (slot_without label) slots k d in
    ap (λ (s : Slot). s.size) at ∙ sizes k d (omega (arith, inside, length-map slots (slot_without label))))

-- a taken buffer is left where it isn't of the label
left_taken : (label : Label) (block : Option Block) → IsSome block → is_some (block_without label block) ≡ not (has_label label block)
left_taken label None some = absurd (cc some)
left_taken label (Some block) some = is_left (has_label label (Some block)) block where
  is_left : (of : Bool) (block : Block) → is_some (cond of None (Some block)) ≡ not of
  is_left true block = refl
  is_left false block = refl

-- the block that a number has after
left_at : (label : Label) (slots : List Slot) (n : ℕ) → (get_or (map (slot_without label) slots) n free_slot).block ≡ block_without label (get_or slots n free_slot).block
left_at label slots n = ap (λ (s : Slot). s.block) (get_or-map (slot_without label) slots n free_slot)

-- the queue that is left
pub dropped_queue : (label : Label) (slots : List Slot) (queue : List ℕ) → AllByRecursion (IsTaken slots) queue → filter (λ n. is_some (get_or (map (slot_without label) slots) n free_slot).block) queue ≡ filter (λ n. not (has_label label (get_or (blocks_in slots) n None))) queue
dropped_queue label slots [] taken = refl
dropped_queue label slots (n ∷ rest) taken =
    let test : is_some (get_or (map (slot_without label) slots) n free_slot).block ≡ not (has_label label (get_or (blocks_in slots) n None)) =
    ap (λ (b : Option Block). is_some b) (left_at label slots n) ∙ left_taken label (get_or slots n free_slot).block taken.0.1 ∙ ap (λ (b : Option Block). not (has_label label b)) (sym (block_at slots n)) in
    rw (test, dropped_queue label slots rest taken.1) refl

-- what stays of the queue is taken
pub taken_left : (slots : List Slot) (queue : List ℕ) → AllByRecursion (λ n. n < length slots) queue → AllByRecursion (IsTaken slots) (filter (λ n. is_some (get_or slots n free_slot).block) queue)
taken_left slots [] below = tt
taken_left slots (n ∷ rest) below = keep slots n rest (is_some (get_or slots n free_slot).block) refl below.0 (taken_left slots rest below.1) where
  keep : (slots : List Slot) (n : ℕ) (rest : List ℕ) (some : Bool) → is_some (get_or slots n free_slot).block ≡ some → n < length slots → AllByRecursion (IsTaken slots) (filter (λ n. is_some (get_or slots n free_slot).block) rest) → AllByRecursion (IsTaken slots) (cond some (n ∷ filter (λ n. is_some (get_or slots n free_slot).block) rest) (filter (λ n. is_some (get_or slots n free_slot).block) rest))
  keep slots n rest true is inside later = ((inside, is), later)
  keep slots n rest false is inside later = later

apart_left : (p : ℕ → Bool) (n : ℕ) (queue : List ℕ) → AllByRecursion (λ m. nat_eq n m ≡ false) queue → AllByRecursion (λ m. nat_eq n m ≡ false) (filter p queue)
apart_left p n [] apart = tt
apart_left p n (m ∷ rest) apart = keep p n m rest (p m) apart.0 (apart_left p n rest apart.1) where
  keep : (p : ℕ → Bool) (n m : ℕ) (rest : List ℕ) (stays : Bool) → nat_eq n m ≡ false → AllByRecursion (λ m. nat_eq n m ≡ false) (filter p rest) → AllByRecursion (λ m. nat_eq n m ≡ false) (cond stays (m ∷ filter p rest) (filter p rest))
  keep p n m rest true differ later = (differ, later)
  keep p n m rest false differ later = later

pub distinct_left : (p : ℕ → Bool) (queue : List ℕ) → IsDistinct nat_eq queue → IsDistinct nat_eq (filter p queue)
unfolding IsDistinct
distinct_left p [] distinct = tt
distinct_left p (n ∷ rest) distinct = keep p n rest (p n) distinct.0 (distinct_left p rest distinct.1) where
  keep : (p : ℕ → Bool) (n : ℕ) (rest : List ℕ) (stays : Bool) → AllByRecursion (λ m. nat_eq n m ≡ false) rest → IsDistinct nat_eq (filter p rest) → IsDistinct nat_eq (cond stays (n ∷ filter p rest) (filter p rest))
  keep p n rest true apart later = (apart_left p n rest apart, later)
  keep p n rest false apart later = later

pub sound_dropped : (size : ℕ) (label : Label) (slots left : List Slot) (queue kept : List ℕ) (room : ℕ) → IsSound size slots queue room → left ≡ map (slot_without label) slots → kept ≡ filter (λ n. is_some (get_or left n free_slot).block) queue → IsSound size left kept room
sound_dropped size label slots left queue kept room sound left_is kept_is =
    let long : length left ≡ length slots = ap (λ (l : List Slot). length l) left_is ∙ length-map slots (slot_without label) in
    let below : AllByRecursion (λ n. n < length left) queue = subst (λ (n : ℕ). AllByRecursion (λ m. m < n) queue) (sym long) (below_of slots queue sound.taken) in
    record {
      sizes = subst (λ (l : List Slot). All (λ slot. slot.size ≡ size) l) (sym left_is) (dropped_sizes size label slots sound.sizes);
      few = omega (arith, sound.few, long);
      rooms = omega (arith, sound.rooms, long);
      taken = subst (AllByRecursion (IsTaken left)) (sym kept_is) (taken_left left queue below);
      distinct = subst (IsDistinct nat_eq) (sym kept_is) (distinct_left (λ n. is_some (get_or left n free_slot).block) queue sound.distinct);
    }

-- the table that is left
pub dropped_table : (size : ℕ) (label : Label) (slots left : List Slot) (queue kept : List ℕ) (room : ℕ) (in_flight : Bool) → IsSound size slots queue room → left ≡ map (slot_without label) slots → kept ≡ filter (λ n. is_some (get_or left n free_slot).block) queue → record { size = size; blocks = blocks_in left; queue = kept; in_flight = in_flight } ≡ table_after (drops label) (record { size = size; blocks = blocks_in slots; queue = queue; in_flight = in_flight })
dropped_table size label slots left queue kept room in_flight sound left_is kept_is =
    let blocks : blocks_in left ≡ map (block_without label) (blocks_in slots) = ap (λ (l : List Slot). blocks_in l) left_is ∙ dropped_blocks label slots in
    let kept_queue : kept ≡ filter (λ n. not (has_label label (get_or (blocks_in slots) n None))) queue = kept_is ∙ ap (λ (l : List Slot). filter (λ n. is_some (get_or l n free_slot).block) queue) left_is ∙ dropped_queue label slots queue sound.taken in
    rw (blocks, kept_queue) refl
