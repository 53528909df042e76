-- What one call keeps, and so any list of calls.
use Rattle.std.proofs.Common.{◌≡◌, ◌≢◌, ℕ, zero, suc, ◌+◌, ◌-◌, ◌<◌, ◌≤◌, Bool, true, false, cond, is_none, List, [], ◌∷◌, ◌++◌, length, get_or, set, take, drop, replicate, Option, None, Some, inl, inr, ◌⊎◌, refl, sym, ap, ◌∙◌, subst, arith, length-append, length-drop}
use Rattle.std.proofs.Math.ListN.{get_or-map}
use Rattle.std.proofs.lemmas.Bool.Decides.{eqb_tells}
use Rattle.std.proofs.lemmas.Bool.{leb-true}
use Rattle.std.proofs.lemmas.List.{get_or-set_other, get_or-set_same, drop-append-le, take-append-le, drop_at}
use Rattle.std.proofs.Math.Seq.{take-length}
use Rattle.std.specs.List.{position_from}
use Rattle.flash_names.specs.declared.place.Label.{Label}
use Rattle.flash_names.specs.declared.place.Place.{Place}
use Rattle.flash_names.specs.Labels.{same_label}
use Rattle.flash_record.specs.Record.{Parts, record_length, record_bytes}
use Rattle.flash_record.proofs.Offsets.{record_bytes_length}
use Rattle.flash_buffers.specs.Block.{Block, fits_in, parts_in, with_record, place_in, block_with_record}
use Rattle.flash_buffers.specs.Covering.{has_label, covers}
use Rattle.flash_buffers.specs.BufferTable.{BufferTable, first_table, block_of, first_free, IsClear, block_without, first_block, read_of}
use Rattle.flash_buffers.specs.Calls.{Call, takes, appends, seals, begins, writes, unwrites, drops, Allowed, table_after, with_block, with_first_free}
use Rattle.flash_buffers.specs.Law.{AllAllowed, after_all, Leaves, AllLeave}
use Rattle.flash_buffers.proofs.ReadLemmas.{label_is, same_self, covering, covers_is, first_byte, read_only, in_records}

-- the buffer has this byte of a label
abbrev pub byte_at : Label → ℕ → Place
byte_at label at = record { label = label; offset = at; length = 1 }

-- a byte of a label is in one buffer at most
abbrev pub Apart : ℕ → List (Option Block) → Type 0
Apart size blocks = (n m : ℕ) (label : Label) (at : ℕ) → covers size (byte_at label at) (get_or blocks n None) ≡ true → covers size (byte_at label at) (get_or blocks m None) ≡ true → n ≡ m

-- the buffers have no byte that they hadn't
abbrev Fewer : ℕ → List (Option Block) → List (Option Block) → Type 0
Fewer size was now = (n : ℕ) (label : Label) (at : ℕ) → covers size (byte_at label at) (get_or now n None) ≡ true → covers size (byte_at label at) (get_or was n None) ≡ true

fewer_apart : (size : ℕ) (was now : List (Option Block)) → Fewer size was now → Apart size was → Apart size now
fewer_apart size was now fewer apart = λ n m label at one other. apart n m label at (fewer n label at one) (fewer m label at other)

-- what is at a place that was written, if there is such a place
pub set_at : (blocks : List (Option Block)) (k : ℕ) (block : Option Block) → (get_or (set blocks k block) k None ≡ block) ⊎ (get_or (set blocks k block) k None ≡ None)
set_at [] zero block = inr refl
set_at [] (suc k) block = inr refl
set_at (first ∷ rest) zero block = inl refl
set_at (first ∷ rest) (suc k) block = set_at rest k block

-- what covers a place there, and what covers one elsewhere
at_new : (size : ℕ) (place : Place) (blocks : List (Option Block)) (k : ℕ) (block : Option Block) → covers size place (get_or (set blocks k block) k None) ≡ true → covers size place block ≡ true
at_new size place blocks k block has =
    elim (set_at blocks k block) [
      | inl is ↦ subst (λ (b : Option Block). covers size place b ≡ true) is has
      | inr is ↦ absurd (let none : covers size place None ≡ true = subst (λ (b : Option Block). covers size place b ≡ true) is has in cc)
    ]

at_old : (size : ℕ) (place : Place) (blocks : List (Option Block)) (k n : ℕ) (block : Option Block) → n ≢ k → covers size place (get_or (set blocks k block) n None) ≡ true → covers size place (get_or blocks n None) ≡ true
at_old size place blocks k n block other has = subst (λ (b : Option Block). covers size place b ≡ true) (get_or-set_other blocks k n block None other) has

-- a buffer in whose place is one that has no byte that it hadn't
set_fewer : (size : ℕ) (blocks : List (Option Block)) (k : ℕ) (block : Option Block) → ((label : Label) (at : ℕ) → covers size (byte_at label at) block ≡ true → covers size (byte_at label at) (get_or blocks k None) ≡ true) → Fewer size blocks (set blocks k block)
set_fewer size blocks k block less = λ n label at has.
    elim (eqb_tells n k) [
      | inl same ↦ subst (λ (m : ℕ). covers size (byte_at label at) (get_or blocks m None) ≡ true) (sym same.1) (less label at (at_new size (byte_at label at) blocks k block (subst (λ (m : ℕ). covers size (byte_at label at) (get_or (set blocks k block) m None) ≡ true) same.1 has)))
      | inr other ↦ at_old size (byte_at label at) blocks k n block other.1 has
    ]

-- the first free buffer is free
free_here : (block : Option Block) → is_none block ≡ true → block ≡ None
free_here None is = refl
free_here (Some block) is = absurd (cc is)

free_of : (n : ℕ) (blocks : List (Option Block)) (number : ℕ) → position_from (λ block. is_none block) n blocks ≡ Some number → (k : ℕ) × (number ≡ n + k) × (get_or blocks k None ≡ None)
free_of n [] number is = absurd (cc is)
free_of n (block ∷ rest) number is = free_next n block rest number (is_none block) refl is (free_of (n + 1) rest number) where
  free_next : (n : ℕ) (block : Option Block) (rest : List (Option Block)) (number : ℕ) (free : Bool) → is_none block ≡ free → cond free (Some n) (position_from (λ block. is_none block) (n + 1) rest) ≡ Some number → (position_from (λ block. is_none block) (n + 1) rest ≡ Some number → (k : ℕ) × (number ≡ n + 1 + k) × (get_or rest k None ≡ None)) → (k : ℕ) × (number ≡ n + k) × (get_or (block ∷ rest) k None ≡ None)
  free_next n block rest number true free is later = (zero, (let same : n ≡ number = cc in omega (arith, same)), free_here block free)
  free_next n block rest number false free is later = let found = later is in (suc found.0, omega (arith, found.1), found.2)

pub free_at : (blocks : List (Option Block)) (number : ℕ) → position_from (λ block. is_none block) 0 blocks ≡ Some number → get_or blocks number None ≡ None
free_at blocks number is =
    let found = free_of 0 blocks number is in
    let same : found.0 ≡ number = omega (arith, found.1) in subst (λ (k : ℕ). get_or blocks k None ≡ None) same found.2

-- a byte of the new block is in no other buffer
new_alone : (t : BufferTable) (label : Label) (offset : ℕ) → IsClear t label offset → (m : ℕ) (other : Label) (at : ℕ) → covers t.size (byte_at other at) (Some (record { label = label; offset = offset; records = [] })) ≡ true → covers t.size (byte_at other at) (get_or t.blocks m None) ≡ true → ⊥
new_alone t label offset clear m other at new old =
    let block : Block = record { label = label; offset = offset; records = [] } in
    let parts = covering t.size (byte_at other at) block new in
    let same : other ≡ label = sym (label_is label other parts.label) in
    let none : covers t.size (byte_at label at) (get_or t.blocks m None) ≡ false = clear m at parts.low (omega (arith, parts.high)) in
    let some : covers t.size (byte_at label at) (get_or t.blocks m None) ≡ true = subst (λ (l : Label). covers t.size (byte_at l at) (get_or t.blocks m None) ≡ true) same old in
    cc

-- a taken buffer
taken_apart : (t : BufferTable) (label : Label) (offset number : ℕ) → IsClear t label offset → Apart t.size t.blocks → Apart t.size (set t.blocks number (Some (record { label = label; offset = offset; records = [] })))
taken_apart t label offset number clear apart = λ n m other at one two.
    elim (eqb_tells n number) [
      | inl first ↦ elim (eqb_tells m number) [
        | inl second ↦ first.1 ∙ sym second.1
        | inr second ↦ absurd (new_alone t label offset clear m other at
            (at_new t.size (byte_at other at) t.blocks number _ (subst (λ (k : ℕ). covers t.size (byte_at other at) (get_or (set t.blocks number (Some (record { label = label; offset = offset; records = [] }))) k None) ≡ true) first.1 one))
            (at_old t.size (byte_at other at) t.blocks number m _ second.1 two))
      ]
      | inr first ↦ elim (eqb_tells m number) [
        | inl second ↦ absurd (new_alone t label offset clear n other at
            (at_new t.size (byte_at other at) t.blocks number _ (subst (λ (k : ℕ). covers t.size (byte_at other at) (get_or (set t.blocks number (Some (record { label = label; offset = offset; records = [] }))) k None) ≡ true) second.1 two))
            (at_old t.size (byte_at other at) t.blocks number n _ first.1 one))
        | inr second ↦ apart n m other at (at_old t.size (byte_at other at) t.blocks number n _ first.1 one) (at_old t.size (byte_at other at) t.blocks number m _ second.1 two)
      ]
    ]

-- a record that is appended changes no buffer's place
appended_covers : (size : ℕ) (place : Place) (key : List ℕ) (flags cas : ℕ) (value : List ℕ) (block : Option Block) → covers size place (block_with_record size key flags cas value block) ≡ covers size place block
appended_covers size place key flags cas value None = refl
appended_covers size place key flags cas value (Some block) = alike (fits_in size (record_length (parts_in key flags cas value block)) block) (block.records ++ record_bytes (parts_in key flags cas value block)) where
  alike : (fits : Bool) (records : List ℕ) → covers size place (Some (cond fits (record block { records = records }) block)) ≡ covers size place (Some block)
  alike true records = refl
  alike false records = refl

-- what is dropped has no place
dropped_covers : (size : ℕ) (place : Place) (label : Label) (block : Option Block) → covers size place (block_without label block) ≡ true → covers size place block ≡ true
dropped_covers size place label block has = was (has_label label block) block has where
  was : (of : Bool) (block : Option Block) → covers size place (cond of None block) ≡ true → covers size place block ≡ true
  was true block has = absurd (cc has)
  was false block has = has

pub step_apart : (t : BufferTable) (call : Call) → Allowed t call → Apart t.size t.blocks → Apart (table_after call t).size (table_after call t).blocks
step_apart t (takes label offset) may apart = taken (first_free t) where
  taken : (number : Option ℕ) → Apart (with_block t label offset number).size (with_block t label offset number).blocks
  taken None = apart
  taken (Some number) = taken_apart t label offset number may.clear apart
step_apart t (appends number key flags cas value) may apart =
    fewer_apart t.size t.blocks _ (set_fewer t.size t.blocks number _ (λ label at has. sym (appended_covers t.size (byte_at label at) key flags cas value (get_or t.blocks number None)) ∙ has)) apart
step_apart t (seals number) may apart = apart
step_apart t begins may apart = apart
step_apart t (writes job) may apart = written t.queue where
  written : (queue : List ℕ) → Apart (with_first_free t queue).size (with_first_free t queue).blocks
  written [] = apart
  written (number ∷ rest) = fewer_apart t.size t.blocks _ (set_fewer t.size t.blocks number None (λ label at has. absurd (cc has))) apart
step_apart t (unwrites job) may apart = apart
step_apart t (drops label) may apart =
    fewer_apart t.size t.blocks _ (λ n other at has. dropped_covers t.size (byte_at other at) label (get_or t.blocks n None) (subst (λ (b : Option Block). covers t.size (byte_at other at) b ≡ true) (get_or-map (block_without label) t.blocks n None) has)) apart

-- the block has these bytes at the place, within its records
pub record HasAt (size : ℕ) (place : Place) (bytes : List ℕ) (block : Block) : Type 0 where
  pub covers_it : covers size place (Some block) ≡ true
  pub within : place.offset + place.length ≤ block.offset + length block.records
  pub bytes_are : take place.length (drop (place.offset - block.offset) block.records) ≡ bytes

-- the buffer has such a block
abbrev pub Holds : ℕ → Place → List ℕ → ℕ → List (Option Block) → Type 0
Holds size place bytes n blocks = (block : Block) × (get_or blocks n None ≡ Some block) × HasAt size place bytes block

-- another buffer changes
other_holds : (size : ℕ) (place : Place) (bytes : List ℕ) (n k : ℕ) (new : Option Block) (blocks : List (Option Block)) → n ≢ k → Holds size place bytes n blocks → Holds size place bytes n (set blocks k new)
other_holds size place bytes n k new blocks other holds = (holds.0, get_or-set_other blocks k n new None other ∙ holds.1, holds.2)

more_bytes : (place : Place) (more : List ℕ) (block : Block) → block.offset ≤ place.offset → place.offset + place.length ≤ block.offset + length block.records → take place.length (drop (place.offset - block.offset) (block.records ++ more)) ≡ take place.length (drop (place.offset - block.offset) block.records)
more_bytes place more block low high =
    let start : ℕ = place.offset - block.offset in
    let block_without : drop start (block.records ++ more) ≡ drop start block.records ++ more = drop-append-le start block.records more (omega (arith, low, high)) in
    ap (λ (l : List ℕ). take place.length l) block_without ∙ take-append-le place.length (drop start block.records) more (omega (arith, low, high, length-drop start block.records))

-- a record more in the same block
more_has : (size : ℕ) (place : Place) (bytes more : List ℕ) (block : Block) → HasAt size place bytes block → HasAt size place bytes (record block { records = block.records ++ more })
more_has size place bytes more block has = record {
  covers_it = has.covers_it;
  within = omega (arith, has.within, length-append block.records more);
  bytes_are = more_bytes place more block (covering size place block has.covers_it).low has.within ∙ has.bytes_are;
}

pub record_has : (size : ℕ) (place : Place) (bytes : List ℕ) (p : Parts) (block : Block) → HasAt size place bytes block → HasAt size place bytes (with_record size p block)
record_has size place bytes p block has = either (fits_in size (record_length p) block) where
  either : (fits : Bool) → HasAt size place bytes (cond fits (record block { records = block.records ++ record_bytes p }) block)
  either true = more_has size place bytes (record_bytes p) block has
  either false = has

pub step_holds : (t : BufferTable) (place : Place) (bytes : List ℕ) (n : ℕ) (call : Call) → Allowed t call → Leaves t place call → Holds t.size place bytes n t.blocks → Holds (table_after call t).size place bytes n (table_after call t).blocks
step_holds t place bytes n (takes label offset) may leaves holds = taken (first_free t) refl where
  taken : (number : Option ℕ) → first_free t ≡ number → Holds (with_block t label offset number).size place bytes n (with_block t label offset number).blocks
  taken None is = holds
  taken (Some number) is =
      let free : get_or t.blocks number None ≡ None = free_at t.blocks number is in
      other_holds t.size place bytes n number _ t.blocks (λ same. (let none : get_or t.blocks n None ≡ None = subst (λ (k : ℕ). get_or t.blocks k None ≡ None) (sym same) free in let some : get_or t.blocks n None ≡ Some holds.0 = holds.1 in cc)) holds
step_holds t place bytes n (appends number key flags cas value) may leaves holds =
    elim (eqb_tells n number) [
      | inl same ↦ (let new : Option Block = block_with_record t.size key flags cas value (get_or t.blocks number None) in
          let at : get_or t.blocks number None ≡ Some holds.0 = subst (λ (k : ℕ). get_or t.blocks k None ≡ Some holds.0) same.1 holds.1 in
          let there : get_or (set t.blocks number new) n None ≡ new = subst (λ (k : ℕ). get_or (set t.blocks number new) k None ≡ new) (sym same.1) (get_or-set_same t.blocks number new None may.inside) in (
            with_record t.size (parts_in key flags cas value holds.0) holds.0,
            there ∙ ap (λ (b : Option Block). block_with_record t.size key flags cas value b) at,
            record_has t.size place bytes (parts_in key flags cas value holds.0) holds.0 holds.2,
          ))
      | inr other ↦ other_holds t.size place bytes n number _ t.blocks other.1 holds
    ]
step_holds t place bytes n (seals number) may leaves holds = holds
step_holds t place bytes n begins may leaves holds = holds
step_holds t place bytes n (writes job) may leaves holds = written t.queue leaves where
  written : (queue : List ℕ) → covers t.size place (first_block t.blocks queue) ≡ false → Holds (with_first_free t queue).size place bytes n (with_first_free t queue).blocks
  written [] apart = holds
  written (number ∷ rest) apart = other_holds t.size place bytes n number None t.blocks
      (λ same. (let at : get_or t.blocks number None ≡ Some holds.0 = subst (λ (k : ℕ). get_or t.blocks k None ≡ Some holds.0) same holds.1 in
      let none : covers t.size place (Some holds.0) ≡ false = subst (λ (b : Option Block). covers t.size place b ≡ false) at apart in
      let some : covers t.size place (Some holds.0) ≡ true = holds.2.covers_it in
      cc))
      holds
step_holds t place bytes n (unwrites job) may leaves holds = holds
step_holds t place bytes n (drops label) may leaves holds =
    let own : holds.0.label ≡ place.label = label_is holds.0.label place.label (covering t.size place holds.0 holds.2.covers_it).label in
    let other : same_label holds.0.label label ≡ false = subst (λ (l : Label). same_label l label ≡ false) (sym own) leaves in
    let stays : block_without label (Some holds.0) ≡ Some holds.0 = rw other refl in
    (holds.0, get_or-map (block_without label) t.blocks n None ∙ ap (block_without label) holds.1 ∙ stays, holds.2)

-- what a buffer holds is read
pub held_read : (t : BufferTable) (place : Place) (bytes : List ℕ) (n : ℕ) → 0 < place.length → Apart t.size t.blocks → Holds t.size place bytes n t.blocks → read_of t place ≡ Some bytes
held_read t place bytes n some apart holds =
    let block : Block = holds.0 in
    let covers_it : covers t.size place (Some block) ≡ true = holds.2.covers_it in
    let here : covers t.size (byte_at place.label place.offset) (get_or t.blocks n None) ≡ true = subst (λ (b : Option Block). covers t.size (byte_at place.label place.offset) b ≡ true) (sym holds.1) (first_byte t.size place (Some block) some covers_it) in
    let first = read_only t.size place t.blocks n block holds.1 covers_it (λ m at. apart m n place.label place.offset (first_byte t.size place (get_or t.blocks m None) some at) here) in
    first ∙ ap (λ (l : List ℕ). Some l) (in_records place t.size block (covering t.size place block covers_it).low holds.2.within ∙ holds.2.bytes_are)

-- it is read after any calls that leave it
all_read : (t : BufferTable) (place : Place) (bytes : List ℕ) (n : ℕ) (calls : List Call) → 0 < place.length → AllAllowed t calls → AllLeave t place calls → Apart t.size t.blocks → Holds t.size place bytes n t.blocks → read_of (after_all calls t) place ≡ Some bytes
all_read t place bytes n [] some may leave apart holds = held_read t place bytes n some apart holds
all_read t place bytes n (call ∷ rest) some may leave apart holds =
    all_read (table_after call t) place bytes n rest some may.1 leave.1 (step_apart t call may.0 apart) (step_holds t place bytes n call may.0 leave.0 holds)

-- the size of the buffers stays
pub step_size : (t : BufferTable) (call : Call) → (table_after call t).size ≡ t.size
step_size t (takes label offset) = taken (first_free t) where
  taken : (number : Option ℕ) → (with_block t label offset number).size ≡ t.size
  taken None = refl
  taken (Some number) = refl
step_size t (appends number key flags cas value) = refl
step_size t (seals number) = refl
step_size t begins = refl
step_size t (writes job) = written t.queue where
  written : (queue : List ℕ) → (with_first_free t queue).size ≡ t.size
  written [] = refl
  written (number ∷ rest) = refl
step_size t (unwrites job) = refl
step_size t (drops label) = refl

all_size : (t : BufferTable) (calls : List Call) → (after_all calls t).size ≡ t.size
all_size t [] = refl
all_size t (call ∷ rest) = all_size (table_after call t) rest ∙ step_size t call

all_apart : (t : BufferTable) (first second : List Call) → AllAllowed t (first ++ second) → Apart t.size t.blocks → Apart (after_all first t).size (after_all first t).blocks × AllAllowed (after_all first t) second
all_apart t [] second may apart = (apart, may)
all_apart t (call ∷ rest) second may apart = all_apart (table_after call t) rest second may.1 (step_apart t call may.0 apart)

-- so many free buffers
abbrev none_of : ℕ → List (Option Block)
none_of n = replicate n None

pub none_at : (n k : ℕ) → get_or (none_of n) k None ≡ None
none_at zero k = refl
none_at (suc n) zero = refl
none_at (suc n) (suc k) = none_at n k

pub first_apart : (buffers size : ℕ) → Apart size (first_table buffers size).blocks
first_apart buffers size = λ n m label at one other. absurd (let none : covers size (byte_at label at) None ≡ true = subst (λ (b : Option Block). covers size (byte_at label at) b ≡ true) (none_at buffers n) one in cc)

-- the block of a buffer that a record was appended to has it at its place
new_has : (size : ℕ) (p : Parts) (block : Block) → fits_in size (record_length p) block ≡ true → HasAt size (record { label = block.label; offset = block.offset + length block.records; length = record_length p }) (record_bytes p) (record block { records = block.records ++ record_bytes p })
new_has size p block fits =
    let room : length block.records + record_length p ≤ size = leb-true _ _ fits in
    let start : ℕ = block.offset + length block.records - block.offset in
    let place : Place = record { label = block.label; offset = block.offset + length block.records; length = record_length p } in
    let new : Block = record block { records = block.records ++ record_bytes p } in
    record {
      covers_it = covers_is size place new (record { label = same_self block.label; low = omega arith; high = omega (arith, room) });
      within = omega (arith, length-append block.records (record_bytes p), record_bytes_length p);
      bytes_are = ap (λ (l : List ℕ). take (record_length p) l) (drop_at block.records (record_bytes p) start (omega arith)) ∙ subst (λ (n : ℕ). take n (record_bytes p) ≡ record_bytes p) (record_bytes_length p) (take-length (record_bytes p));
    }

-- the parts of a record at a place
abbrev pub parts_at : List ℕ → ℕ → ℕ → List ℕ → Place → Parts
parts_at key flags cas value place = record { key = key; flags = flags; cas = cas; version = place.label.version; value = value }

pub appended_has : (size : ℕ) (key : List ℕ) (flags cas : ℕ) (value : List ℕ) (place : Place) (block : Option Block) → place_in size key flags cas value block ≡ Some place → (new : Block) × (block_with_record size key flags cas value block ≡ Some new) × HasAt size place (record_bytes (parts_at key flags cas value place)) new × (0 < place.length)
appended_has size key flags cas value place None is = absurd (cc is)
appended_has size key flags cas value place (Some block) is = either (fits_in size (record_length p) block) refl is where
  p : Parts
  p = parts_in key flags cas value block

  either : (fits : Bool) → fits_in size (record_length p) block ≡ fits → cond fits (Some (record { label = block.label; offset = block.offset + length block.records; length = record_length p })) None ≡ Some place → (new : Block) × (Some (cond fits (record block { records = block.records ++ record_bytes p }) block) ≡ Some new) × HasAt size place (record_bytes (parts_at key flags cas value place)) new × (0 < place.length)
  either true fits is =
      let at : Place = record { label = block.label; offset = block.offset + length block.records; length = record_length p } in
      let same : at ≡ place = cc in
      let new : Block = record block { records = block.records ++ record_bytes p } in
      (new, refl, subst (λ (q : Place). HasAt size q (record_bytes (parts_at key flags cas value q)) new) same (new_has size p block fits), subst (λ (q : Place). 0 < q.length) same (omega arith))
  either false fits is = absurd (cc is)

-- what was appended is read until its block was written or its page dropped
pub kept : (buffers size : ℕ) (first second : List Call) (number : ℕ) (key : List ℕ) (flags cas : ℕ) (value : List ℕ) (place : Place) →
    AllAllowed (first_table buffers size) (first ++ appends number key flags cas value ∷ second)
    → place_in size key flags cas value (block_of (after_all first (first_table buffers size)) number) ≡ Some place
    → AllLeave (table_after (appends number key flags cas value) (after_all first (first_table buffers size))) place second
    → read_of (after_all second (table_after (appends number key flags cas value) (after_all first (first_table buffers size)))) place ≡ Some (record_bytes (parts_at key flags cas value place))
kept buffers size first second number key flags cas value place may is leave =
    let t : BufferTable = after_all first (first_table buffers size) in
    let call : Call = appends number key flags cas value in
    let before = all_apart (first_table buffers size) first (call ∷ second) may (first_apart buffers size) in
    let long : size ≡ t.size = sym (all_size (first_table buffers size) first) in
    let place_is : place_in t.size key flags cas value (block_of t number) ≡ Some place = subst (λ (n : ℕ). place_in n key flags cas value (block_of t number) ≡ Some place) long is in
    let has = appended_has t.size key flags cas value place (block_of t number) place_is in
    let at : get_or (set t.blocks number (block_with_record t.size key flags cas value (block_of t number))) number None ≡ Some has.0 = get_or-set_same t.blocks number _ None before.1.0.inside ∙ has.1 in
    all_read (table_after call t) place (record_bytes (parts_at key flags cas value place)) number second has.3 before.1.1 leave (step_apart t call before.1.0 before.0) (has.0, at, has.2)
