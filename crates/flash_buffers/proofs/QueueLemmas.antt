-- The job that is out, and the order of the queue.
use Rattle.std.proofs.Common.{◌≡◌, ◌≢◌, ℕ, true, false, not, nat_eq, List, [], ◌∷◌, ◌++◌, get_or, set, take, map, filter, Option, None, Some, option_map, refl, sym, ap, ◌∙◌, subst, arith, append_assoc, append-nil}
use Rattle.std.proofs.Math.ListN.{get_or-map}
use Rattle.std.proofs.lemmas.Bool.Decides.{nat_tests}
use Rattle.std.proofs.lemmas.List.{get_or-set_other}
use Rattle.std.specs.List.{list_any}
use Rattle.flash_buffers.specs.declared.buffers.WriteJob.{WriteJob}
use Rattle.flash_buffers.specs.Block.{Block, block_with_record}
use Rattle.flash_buffers.specs.Covering.{has_label}
use Rattle.flash_buffers.specs.BufferTable.{BufferTable, block_of, first_free, first_block, block_without}
use Rattle.flash_buffers.specs.Calls.{Call, takes, appends, seals, begins, writes, unwrites, drops, Allowed, table_after, with_block, with_first_free, job_of, IsInFlight}
use Rattle.flash_buffers.specs.Law.{AllAllowed, after_all, KeepsJob, NoneGivesBack, DropsNone, AllDropNone, seals_of, writes_of, all_seals, all_writes}
use Rattle.flash_buffers.proofs.LawLemmas.{free_at}

-- the job of the first of a queue
abbrev FirstIs : ℕ → List (Option Block) → List ℕ → WriteJob → Type 0
FirstIs size blocks queue job = option_map (λ b. job_of size b) (first_block blocks queue) ≡ Some job

-- another buffer changes
other_first : (size : ℕ) (blocks : List (Option Block)) (n k : ℕ) (rest : List ℕ) (new : Option Block) (job : WriteJob) → n ≢ k → FirstIs size blocks (n ∷ rest) job → FirstIs size (set blocks k new) (n ∷ rest) job
other_first size blocks n k rest new job other is = subst (λ (b : Option Block). option_map (λ b. job_of size b) b ≡ Some job) (sym (get_or-set_other blocks k n new None other)) is

-- the first of a queue isn't free
not_free : (size : ℕ) (blocks : List (Option Block)) (n k : ℕ) (rest : List ℕ) (job : WriteJob) → FirstIs size blocks (n ∷ rest) job → get_or blocks k None ≡ None → n ≢ k
not_free size blocks n k rest job is free = λ same.
    (let none : get_or blocks n None ≡ None = subst (λ (m : ℕ). get_or blocks m None ≡ None) (sym same) free in
    let gone : option_map (λ b. job_of size b) None ≡ Some job = subst (λ (b : Option Block). option_map (λ b. job_of size b) b ≡ Some job) none is in
    cc)

-- a buffer that isn't in the queue isn't its first
not_first : (n k : ℕ) (rest : List ℕ) → list_any (λ m. nat_eq m k) (n ∷ rest) ≡ false → n ≢ k
not_first n k rest none = λ same. absurd (grind (arith, nat_tests, none, same))

step_out : (t : BufferTable) (job : WriteJob) (queue : List ℕ) (call : Call) → t.queue ≡ queue → Allowed t call → KeepsJob call → t.in_flight ≡ true → FirstIs t.size t.blocks queue job → IsInFlight (table_after call t) job
step_out t job [] call queue_is may rests in_flight is = absurd (cc is)
step_out t job (n ∷ rest) (takes label offset) queue_is may rests in_flight is = taken (first_free t) refl where
  taken : (number : Option ℕ) → first_free t ≡ number → IsInFlight (with_block t label offset number) job
  taken None found = record { in_flight = in_flight; job_is = subst (λ (l : List ℕ). FirstIs t.size t.blocks l job) (sym queue_is) is }
  taken (Some number) found =
      let free : get_or t.blocks number None ≡ None = free_at t.blocks number found in
      let first = other_first t.size t.blocks n number rest (Some (record { label = label; offset = offset; records = [] })) job (not_free t.size t.blocks n number rest job is free) is in
      record { in_flight = in_flight; job_is = subst (λ (l : List ℕ). FirstIs t.size (set t.blocks number (Some (record { label = label; offset = offset; records = [] }))) l job) (sym queue_is) first }
step_out t job (n ∷ rest) (appends number key flags cas value) queue_is may rests in_flight is =
    let new : Option Block = block_with_record t.size key flags cas value (block_of t number) in
    let unsealed : list_any (λ m. nat_eq m number) (n ∷ rest) ≡ false = subst (λ (l : List ℕ). list_any (λ m. nat_eq m number) l ≡ false) queue_is may.unsealed in
    let first = other_first t.size t.blocks n number rest new job (not_first n number rest unsealed) is in
    record { in_flight = in_flight; job_is = subst (λ (l : List ℕ). FirstIs t.size (set t.blocks number new) l job) (sym queue_is) first }
step_out t job (n ∷ rest) (seals number) queue_is may rests in_flight is =
    record { in_flight = in_flight; job_is = subst (λ (l : List ℕ). FirstIs t.size t.blocks (l ++ number ∷ []) job) (sym queue_is) is }
step_out t job (n ∷ rest) begins queue_is may rests in_flight is =
    record { in_flight = rw in_flight refl; job_is = subst (λ (l : List ℕ). FirstIs t.size t.blocks l job) (sym queue_is) is }
step_out t job (n ∷ rest) (writes done) queue_is may rests in_flight is = absurd rests
step_out t job (n ∷ rest) (unwrites done) queue_is may rests in_flight is = absurd rests
step_out t job (n ∷ rest) (drops label) queue_is may rests in_flight is =
    let other : has_label label (get_or t.blocks n None) ≡ false = subst (λ (l : List ℕ). has_label label (first_block t.blocks l) ≡ false) queue_is (may in_flight) in
    let same : get_or (map (block_without label) t.blocks) n None ≡ get_or t.blocks n None = get_or-map (block_without label) t.blocks n None ∙ rw other refl in
    let left : filter (λ m. not (has_label label (block_of t m))) (n ∷ rest) ≡ n ∷ filter (λ m. not (has_label label (block_of t m))) rest = rw other refl in
    let first : FirstIs t.size (map (block_without label) t.blocks) (n ∷ filter (λ m. not (has_label label (block_of t m))) rest) job = ap (λ (b : Option Block). option_map (λ b. job_of t.size b) b) same ∙ is in
    record { in_flight = in_flight; job_is = subst (λ (l : List ℕ). FirstIs t.size (map (block_without label) t.blocks) l job) (sym (ap (λ (l : List ℕ). filter (λ m. not (has_label label (block_of t m))) l) queue_is ∙ left)) first }

-- a job that is out stays so until it is given back
pub all_out : (t : BufferTable) (job : WriteJob) (calls : List Call) → AllAllowed t calls → NoneGivesBack calls → IsInFlight t job → IsInFlight (after_all calls t) job
all_out t job [] may rests is = is
all_out t job (call ∷ rest) may rests is = all_out (table_after call t) job rest may.1 rests.1 (step_out t job t.queue call refl may.0 rests.0 is.in_flight is.job_is)

-- one call keeps the order
pub step_order : (t : BufferTable) (call : Call) → DropsNone call → t.queue ++ seals_of call ≡ writes_of t call ++ (table_after call t).queue
step_order t (takes label offset) stays = taken (first_free t) where
  taken : (number : Option ℕ) → t.queue ++ [] ≡ [] ++ (with_block t label offset number).queue
  taken None = append-nil t.queue
  taken (Some number) = append-nil t.queue
step_order t (appends number key flags cas value) stays = append-nil t.queue
step_order t (seals number) stays = refl
step_order t begins stays = append-nil t.queue
step_order t (writes job) stays = written t.queue refl where
  written : (queue : List ℕ) → t.queue ≡ queue → queue ++ [] ≡ take 1 queue ++ (with_first_free t queue).queue
  written [] is = sym is
  written (number ∷ rest) is = append-nil (number ∷ rest)
step_order t (unwrites job) stays = append-nil t.queue
step_order t (drops label) stays = absurd stays

pub all_order : (t : BufferTable) (calls : List Call) → AllDropNone calls → t.queue ++ all_seals calls ≡ all_writes t calls ++ (after_all calls t).queue
all_order t [] stays = append-nil t.queue
all_order t (call ∷ rest) stays =
    sym (append_assoc t.queue (seals_of call) (all_seals rest)) ∙ ap (λ (l : List ℕ). l ++ all_seals rest) (step_order t call stays.0)
    ∙ append_assoc (writes_of t call) (table_after call t).queue (all_seals rest) ∙ ap (λ (l : List ℕ). writes_of t call ++ l) (all_order (table_after call t) rest stays.1)
    ∙ sym (append_assoc (writes_of t call) (all_writes (table_after call t) rest) (after_all rest (table_after call t)).queue)
