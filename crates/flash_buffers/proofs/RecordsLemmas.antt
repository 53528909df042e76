-- The bytes of each buffer are whole records, over any calls.
use Rattle.std.proofs.Common.{◌≡◌, ℕ, ◌+◌, ◌^◌, ◌<◌, ◌≤◌, Bool, true, false, cond, List, [], ◌∷◌, ◌++◌, length, get_or, set, replicate, Option, None, Some, inl, inr, refl, sym, ap, ◌∙◌, subst, arith, append_assoc, append-nil}
use Rattle.std.proofs.Math.ListN.{get_or-map}
use Rattle.std.proofs.lemmas.Bool.{leb-true}
use Rattle.std.proofs.lemmas.Bool.Decides.{eqb_tells}
use Rattle.std.proofs.lemmas.List.{get_or-set_other}
use Rattle.std.specs.List.{AllByRecursion}
use Rattle.flash_names.specs.declared.place.Label.{Label}
use Rattle.flash_record.specs.Record.{Parts, record_length, record_bytes}
use Rattle.flash_buffers.specs.Block.{Block, fits_in, parts_in, with_record, block_with_record}
use Rattle.flash_buffers.specs.Covering.{has_label}
use Rattle.flash_buffers.specs.BufferTable.{BufferTable, first_table, block_of, first_free, block_without}
use Rattle.flash_buffers.specs.Calls.{Call, takes, appends, seals, begins, writes, unwrites, drops, table_after, with_block, with_first_free}
use Rattle.flash_buffers.specs.Law.{after_all, HasWidths, AllHaveWidths}
use Rattle.flash_buffers.specs.Records.{bytes_of_all, IsOf, AreRecords}
use Rattle.flash_buffers.proofs.LawLemmas.{set_at, none_at, step_size}

-- one record more
push_all : (version : ℕ) (all : List Parts) (p : Parts) → AllByRecursion (IsOf version) all → IsOf version p → AllByRecursion (IsOf version) (all ++ p ∷ [])
push_all version [] p each is = (is, tt)
push_all version (q ∷ rest) p each is = (each.0, push_all version rest p each.1 is)

push_bytes : (all : List Parts) (p : Parts) → bytes_of_all (all ++ p ∷ []) ≡ bytes_of_all all ++ record_bytes p
push_bytes [] p = append-nil (record_bytes p)
push_bytes (q ∷ rest) p =
    ap (λ (l : List ℕ). record_bytes q ++ l) (push_bytes rest p) ∙ sym (append_assoc (record_bytes q) (bytes_of_all rest) (record_bytes p))

more_records : (size : ℕ) (p : Parts) (block : Block) → (fits_in size (record_length p) block ≡ true → IsOf block.label.version p) → AreRecords block → AreRecords (with_record size p block)
more_records size p block is records = choose (fits_in size (record_length p) block) refl where
  choose : (fits : Bool) → fits_in size (record_length p) block ≡ fits → AreRecords (cond fits (record block { records = block.records ++ record_bytes p }) block)
  choose true room = (
    records.0 ++ p ∷ [],
    push_all block.label.version records.0 p records.1 (is room),
    ap (λ (l : List ℕ). l ++ record_bytes p) records.2 ∙ sym (push_bytes records.0 p),
  )
  choose false room = records

-- the version of a block, and its bytes
abbrev Good : Block → Type 0
Good block = (block.label.version < 2 ^ 64) × AreRecords block

same_label_kept : (size : ℕ) (p : Parts) (block : Block) → (with_record size p block).label ≡ block.label
same_label_kept size p block = alike (fits_in size (record_length p) block) where
  alike : (fits : Bool) → (cond fits (record block { records = block.records ++ record_bytes p }) block).label ≡ block.label
  alike true = refl
  alike false = refl

-- a record that fits has fewer than 2^32 bytes, and so its parts fit
parts_fit : (size : ℕ) (number : ℕ) (key : List ℕ) (flags cas : ℕ) (value : List ℕ) (block : Block) → size < 2 ^ 32 → block.label.version < 2 ^ 64 → HasWidths (appends number key flags cas value) → fits_in size (record_length (parts_in key flags cas value block)) block ≡ true → IsOf block.label.version (parts_in key flags cas value block)
parts_fit size number key flags cas value block small version widths room =
    let low : length block.records + record_length (parts_in key flags cas value block) ≤ size = leb-true _ _ room in
    (refl, record { key = widths.0; flags = widths.1; cas = widths.2; version = version; value = omega (arith, small, low) })

appended_good : (size : ℕ) (number : ℕ) (key : List ℕ) (flags cas : ℕ) (value : List ℕ) (block : Block) → size < 2 ^ 32 → HasWidths (appends number key flags cas value) → Good block → Good (with_record size (parts_in key flags cas value block) block)
appended_good size number key flags cas value block small widths good =
    let p : Parts = parts_in key flags cas value block in
    let kept : (with_record size p block).label.version ≡ block.label.version = ap (λ (l : Label). l.version) (same_label_kept size p block) in
    (omega (arith, kept, good.0), more_records size p block (parts_fit size number key flags cas value block small good.0 widths) good.1)

-- each buffer that is taken has such a block
abbrev GoodAt : Option Block → Type 0
GoodAt taken = (block : Block) → taken ≡ Some block → Good block

abbrev AllGood : List (Option Block) → Type 0
AllGood blocks = (n : ℕ) → GoodAt (get_or blocks n None)

none_good : (taken : Option Block) → taken ≡ None → GoodAt taken
none_good taken none = λ block is. absurd (let gone : ◌≡◌ {A = Option Block} None (Some block) = sym none ∙ is in cc)

some_good : (block : Block) → Good block → GoodAt (Some block)
some_good block good = λ other is. (let same : block ≡ other = cc in subst Good same good)

set_good : (blocks : List (Option Block)) (k : ℕ) (new : Option Block) → GoodAt new → AllGood blocks → AllGood (set blocks k new)
set_good blocks k new good all = λ n.
    elim (eqb_tells n k) [
      | inl same ↦ subst (λ (m : ℕ). GoodAt (get_or (set blocks k new) m None)) (sym same.1) (elim (set_at blocks k new) [
        | inl there ↦ subst GoodAt (sym there) good
        | inr gone ↦ none_good (get_or (set blocks k new) k None) gone
      ])
      | inr other ↦ subst GoodAt (sym (get_or-set_other blocks k n new None other.1)) (all n)
    ]

appended_at : (size : ℕ) (number : ℕ) (key : List ℕ) (flags cas : ℕ) (value : List ℕ) (taken : Option Block) → size < 2 ^ 32 → HasWidths (appends number key flags cas value) → GoodAt taken → GoodAt (block_with_record size key flags cas value taken)
appended_at size number key flags cas value None small widths good = none_good None refl
appended_at size number key flags cas value (Some block) small widths good =
    some_good (with_record size (parts_in key flags cas value block) block) (appended_good size number key flags cas value block small widths (good block refl))

dropped_at : (label : Label) (taken : Option Block) → GoodAt taken → GoodAt (block_without label taken)
dropped_at label taken good = left (has_label label taken) where
  left : (of : Bool) → GoodAt (cond of None taken)
  left true = none_good None refl
  left false = good

step_good : (t : BufferTable) (call : Call) → t.size < 2 ^ 32 → HasWidths call → AllGood t.blocks → AllGood (table_after call t).blocks
step_good t (takes label offset) small widths all = taken (first_free t) where
  taken : (number : Option ℕ) → AllGood (with_block t label offset number).blocks
  taken None = all
  taken (Some number) = set_good t.blocks number (Some (record { label = label; offset = offset; records = [] })) (some_good (record { label = label; offset = offset; records = [] }) (widths, ([], tt, refl))) all
step_good t (appends number key flags cas value) small widths all =
    set_good t.blocks number (block_with_record t.size key flags cas value (block_of t number)) (appended_at t.size number key flags cas value (block_of t number) small widths (all number)) all
step_good t (seals number) small widths all = all
step_good t begins small widths all = all
step_good t (writes job) small widths all = written t.queue where
  written : (queue : List ℕ) → AllGood (with_first_free t queue).blocks
  written [] = all
  written (number ∷ rest) = set_good t.blocks number None (none_good None refl) all
step_good t (unwrites job) small widths all = all
step_good t (drops label) small widths all = λ n. subst GoodAt (sym (get_or-map (block_without label) t.blocks n None)) (dropped_at label (get_or t.blocks n None) (all n))

all_good : (t : BufferTable) (calls : List Call) → t.size < 2 ^ 32 → AllHaveWidths calls → AllGood t.blocks → AllGood (after_all calls t).blocks
all_good t [] small widths all = all
all_good t (call ∷ rest) small widths all =
    all_good (table_after call t) rest (omega (arith, small, step_size t call)) widths.1 (step_good t call small widths.0 all)

pub are_records : (buffers size : ℕ) (calls : List Call) (number : ℕ) → size < 2 ^ 32 → AllHaveWidths calls → (block : Block) → block_of (after_all calls (first_table buffers size)) number ≡ Some block → AreRecords block
are_records buffers size calls number small widths block is =
    (all_good (first_table buffers size) calls small widths (λ n. none_good (get_or (replicate buffers None) n None) (none_at buffers n)) number block is).1
