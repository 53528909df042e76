-- The queue keeps its order, also where a label is dropped.
use Rattle.std.proofs.Common.{◌≡◌, ℕ, Bool, true, false, not, cond, List, [], ◌∷◌, ◌++◌, filter, inl, inr, refl, sym, ◌∙◌, subst, append_assoc, append-nil}
use Rattle.flash_buffers.specs.Covering.{has_label}
use Rattle.flash_buffers.specs.BufferTable.{BufferTable, block_of}
use Rattle.flash_buffers.specs.Calls.{Call, takes, appends, seals, begins, writes, unwrites, drops, table_after}
use Rattle.flash_buffers.specs.Law.{after_all, seals_of, writes_of, all_seals, all_writes, IsPartOf}
use Rattle.flash_buffers.proofs.QueueLemmas.{step_order}

part_same : (xs : List ℕ) → IsPartOf xs xs
part_same [] = tt
part_same (x ∷ xs) = inl (refl, part_same xs)

part_of_same : (xs ys : List ℕ) → ys ≡ xs → IsPartOf xs ys
part_of_same xs ys same = subst (λ (l : List ℕ). IsPartOf xs l) (sym same) (part_same xs)

part_later : (xs ys : List ℕ) (y : ℕ) → IsPartOf xs ys → IsPartOf xs (y ∷ ys)
part_later [] ys y part = tt
part_later (x ∷ xs) ys y part = inr part

part_front : (front xs ys : List ℕ) → IsPartOf xs ys → IsPartOf (front ++ xs) (front ++ ys)
part_front [] xs ys part = part
part_front (z ∷ front) xs ys part = inl (refl, part_front front xs ys part)

part_back : (xs ys back : List ℕ) → IsPartOf xs ys → IsPartOf (xs ++ back) (ys ++ back)
part_back [] [] back part = part_same back
part_back [] (y ∷ ys) back part = part_later back (ys ++ back) y (part_back [] ys back tt)
part_back (x ∷ xs) [] back part = absurd part
part_back (x ∷ xs) (y ∷ ys) back (inl here) = inl (here.0, part_back xs ys back here.1)
part_back (x ∷ xs) (y ∷ ys) back (inr later) = inr (part_back (x ∷ xs) ys back later)

part_in_turn : (xs ys zs : List ℕ) → IsPartOf xs ys → IsPartOf ys zs → IsPartOf xs zs
part_in_turn [] ys zs first second = tt
part_in_turn (x ∷ xs) [] zs first second = absurd first
part_in_turn (x ∷ xs) (y ∷ ys) [] first second = absurd second
part_in_turn (x ∷ xs) (y ∷ ys) (z ∷ zs) first (inr later) = inr (part_in_turn (x ∷ xs) (y ∷ ys) zs first later)
part_in_turn (x ∷ xs) (y ∷ ys) (z ∷ zs) (inl here) (inl there) = inl (here.0 ∙ there.0, part_in_turn xs ys zs here.1 there.1)
part_in_turn (x ∷ xs) (y ∷ ys) (z ∷ zs) (inr later) (inl there) = inr (part_in_turn (x ∷ xs) ys zs later there.1)

part_filter : (p : ℕ → Bool) (xs : List ℕ) → IsPartOf (filter p xs) xs
part_filter p [] = tt
part_filter p (x ∷ xs) = left (p x) x (filter p xs) xs (part_filter p xs) where
  left : (stays : Bool) (x : ℕ) (some all : List ℕ) → IsPartOf some all → IsPartOf (cond stays (x ∷ some) some) (x ∷ all)
  left true x some all part = inl (refl, part)
  left false x some all part = part_later some all x part

-- one call keeps the order of what it leaves
step_part : (t : BufferTable) (call : Call) → IsPartOf (writes_of t call ++ (table_after call t).queue) (t.queue ++ seals_of call)
step_part t (takes label offset) = part_of_same _ _ (step_order t (takes label offset) tt)
step_part t (appends number key flags cas value) = part_of_same _ _ (step_order t (appends number key flags cas value) tt)
step_part t (seals number) = part_of_same _ _ (step_order t (seals number) tt)
step_part t begins = part_of_same _ _ (step_order t begins tt)
step_part t (writes job) = part_of_same _ _ (step_order t (writes job) tt)
step_part t (unwrites job) = part_of_same _ _ (step_order t (unwrites job) tt)
step_part t (drops label) =
    let left : List ℕ = filter (λ n. not (has_label label (block_of t n))) t.queue in
    subst (λ (l : List ℕ). IsPartOf left l) (sym (append-nil t.queue)) (part_filter (λ n. not (has_label label (block_of t n))) t.queue)

pub all_part : (t : BufferTable) (calls : List Call) → IsPartOf (all_writes t calls ++ (after_all calls t).queue) (t.queue ++ all_seals calls)
all_part t [] = part_of_same t.queue (t.queue ++ []) (append-nil t.queue)
all_part t (call ∷ rest) =
    let one : List ℕ = writes_of t call in
    let now : BufferTable = table_after call t in
    let end : List ℕ = (after_all rest now).queue in
    let later : IsPartOf (one ++ (all_writes now rest ++ end)) (one ++ (now.queue ++ all_seals rest)) = part_front one _ _ (all_part now rest) in
    let here : IsPartOf ((one ++ now.queue) ++ all_seals rest) ((t.queue ++ seals_of call) ++ all_seals rest) = part_back (one ++ now.queue) (t.queue ++ seals_of call) (all_seals rest) (step_part t call) in
    let from : IsPartOf (one ++ (now.queue ++ all_seals rest)) (t.queue ++ (seals_of call ++ all_seals rest)) =
    subst (λ (l : List ℕ). IsPartOf l (t.queue ++ (seals_of call ++ all_seals rest))) (append_assoc one now.queue (all_seals rest)) (subst (λ (l : List ℕ). IsPartOf ((one ++ now.queue) ++ all_seals rest) l) (append_assoc t.queue (seals_of call) (all_seals rest)) here) in
    subst (λ (l : List ℕ). IsPartOf l (t.queue ++ (seals_of call ++ all_seals rest))) (sym (append_assoc one (all_writes now rest) end)) (part_in_turn (one ++ (all_writes now rest ++ end)) (one ++ (now.queue ++ all_seals rest)) (t.queue ++ (seals_of call ++ all_seals rest)) later from)
