-- A record that the buffers hold is held after each call that frees no buffer, and is read.
use Rattle.std.proofs.Common.{◌≡◌, ℕ, zero, suc, ◌<◌, Bool, true, false, cond, nat_eq, List, [], ◌∷◌, length, get_or, set, Option, Some, None, refl, sym, ap, ◌∙◌, subst, arith, inl, inr}
use Rattle.std.proofs.lemmas.Bool.Decides.{eqb_tells}
use Rattle.std.proofs.lemmas.List.{get_or-set_same}
use Rattle.flash_names.specs.declared.place.Label.{Label}
use Rattle.flash_names.specs.declared.place.Place.{Place}
use Rattle.flash_record.specs.Record.{Parts, record_bytes}
use Rattle.flash_pages.specs.declared.page_row.Bucket.{Bucket}
use Rattle.flash_buffers.specs.declared.buffers.BufferId.{BufferId}
use Rattle.flash_buffers.specs.Block.{Block, parts_in, with_record as block_with, block_with_record}
use Rattle.flash_buffers.specs.BufferTable.{BufferTable, block_of, first_free, read_of}
use Rattle.flash_buffers.specs.Calls.{with_block}
use Rattle.flash_buffers.proofs.LawLemmas.{free_at, record_has, held_read}
use Rattle.flash_blocks.specs.declared.open_page.OpenPage.{OpenPage}
use Rattle.flash_blocks.specs.declared.answers.Room.{Room}
use Rattle.flash_blocks.specs.declared.answers.Room.TheVariants.{Here, Next, Opens, NoBuffer, NoPage}
use Rattle.flash_blocks.specs.BlockTable.{BlockTable, open_page, page_of, block_offset}
use Rattle.flash_blocks.specs.Rooms.{room}
use Rattle.flash_blocks.specs.Calls.{Call, puts, seals, takes_live, begins, unwrites, writes, fails, pins, unpins, ends, frees, table_after, after_put, length_of, holds_record, with_sealed, with_closed, with_block_sealed, with_page_opened, with_taken, with_appended, with_room}
use Rattle.flash_blocks.specs.Held.{HasBytes, IsHeld, IsInOne, FreesNone}
use Rattle.flash_blocks.proofs.StepLemmas.{other_block}
use Rattle.flash_blocks.proofs.RoomLemmas.{opened_size}

-- another buffer gets a block
set_other : (buffers : BufferTable) (place : Place) (bytes : List ℕ) (n : ℕ) (new : Option Block) (has : HasBytes buffers place bytes) → nat_eq n has.number ≡ false → HasBytes (record buffers { blocks = set buffers.blocks n new }) place bytes
set_other buffers place bytes n new has differ = record {
  number = has.number;
  block = has.block;
  there = other_block buffers n has.number new differ ∙ has.there;
  covered = has.covered;
  within = has.within;
  bytes_are = has.bytes_are;
}

sealed_has : (buffers : BufferTable) (place : Place) (bytes : List ℕ) (buffer : Option BufferId) → HasBytes buffers place bytes → HasBytes (with_sealed buffers buffer) place bytes
sealed_has buffers place bytes None has = has
sealed_has buffers place bytes (Some id) has = record { number = has.number; block = has.block; there = has.there; covered = has.covered; within = has.within; bytes_are = has.bytes_are }

closed_has : (t : BlockTable) (bucket : Bucket) (page : Option OpenPage) (place : Place) (bytes : List ℕ) → HasBytes t.buffers place bytes → HasBytes (with_closed t bucket page).buffers place bytes
closed_has t bucket None place bytes has = has
closed_has t bucket (Some page) place bytes has = sealed_has t.buffers place bytes page.buffer has

block_taken_has : (buffers : BufferTable) (place : Place) (bytes : List ℕ) (label : Label) (offset : ℕ) (free : Option ℕ) → first_free buffers ≡ free → HasBytes buffers place bytes → HasBytes (with_block buffers label offset free) place bytes
block_taken_has buffers place bytes label offset None is has = has
block_taken_has buffers place bytes label offset (Some n) is has =
    set_other buffers place bytes n _ has (elim (eqb_tells n has.number) [
      | inl same ↦ absurd (
          let gone : block_of buffers has.number ≡ None = subst (λ (k : ℕ). block_of buffers k ≡ None) same.1 (free_at buffers.blocks n is) in
          let there = has.there in
          cc)
      | inr other ↦ other.0
    ])

taken_has : (t : BlockTable) (bucket : Bucket) (page : Option OpenPage) (place : Place) (bytes : List ℕ) → HasBytes t.buffers place bytes → HasBytes (with_taken t bucket page).buffers place bytes
taken_has t bucket None place bytes has = has
taken_has t bucket (Some page) place bytes has = block_taken_has t.buffers place bytes page.label (block_offset t.buffers.size page) (first_free t.buffers) refl has

-- a block that is there has its number in the list
inside_of : (blocks : List (Option Block)) (n : ℕ) (block : Block) → get_or blocks n None ≡ Some block → n < length blocks
inside_of [] n block is = absurd (cc is)
inside_of (first ∷ rest) zero block is = omega arith
inside_of (first ∷ rest) (suc n) block is = omega (arith, inside_of rest n block is)

appended_has : (buffers : BufferTable) (place : Place) (bytes : List ℕ) (buffer : Option BufferId) (key : List ℕ) (flags cas : ℕ) (value : List ℕ) → HasBytes buffers place bytes → HasBytes (with_appended buffers buffer key flags cas value) place bytes
appended_has buffers place bytes None key flags cas value has = has
appended_has buffers place bytes (Some id) key flags cas value has =
    let new : Option Block = block_with_record buffers.size key flags cas value (block_of buffers id.number) in
    elim (eqb_tells id.number has.number) [
      | inr other ↦ set_other buffers place bytes id.number new has other.0
      | inl same ↦ (
          let p : Parts = parts_in key flags cas value has.block in
          let at : block_of buffers id.number ≡ Some has.block = subst (λ (k : ℕ). block_of buffers k ≡ Some has.block) (sym same.1) has.there in
          let more = record_has buffers.size place bytes p has.block (record { covers_it = has.covered; within = has.within; bytes_are = has.bytes_are }) in
          record {
            number = id.number;
            block = block_with buffers.size p has.block;
            there = get_or-set_same buffers.blocks id.number new None (inside_of buffers.blocks id.number has.block at) ∙ ap (λ (b : Option Block). block_with_record buffers.size key flags cas value b) at;
            covered = more.covers_it;
            within = more.within;
            bytes_are = more.bytes_are;
          })
    ]

-- making room
room_has : (t : BlockTable) (bucket : Bucket) (at : Room) (place : Place) (bytes : List ℕ) → HasBytes t.buffers place bytes → HasBytes (with_room t bucket at).buffers place bytes
room_has t bucket Here place bytes has = has
room_has t bucket Next place bytes has =
    taken_has (with_block_sealed t bucket) bucket (open_page (with_block_sealed t bucket) bucket) place bytes (closed_has t bucket (open_page t bucket) place bytes has)
room_has t bucket (Opens label) place bytes has =
    let s : BlockTable = with_block_sealed t bucket in
    let sealed : HasBytes s.buffers place bytes = closed_has t bucket (open_page t bucket) place bytes has in
    let opened : HasBytes (with_page_opened s bucket label).buffers place bytes = subst (λ (b : BufferTable). HasBytes b place bytes) (sym (opened_size s bucket label)) sealed in
    taken_has (with_page_opened s bucket label) bucket (open_page (with_page_opened s bucket label) bucket) place bytes opened
room_has t bucket NoBuffer place bytes has = has
room_has t bucket NoPage place bytes has = has

put_has : (t : BlockTable) (bucket : Bucket) (key : List ℕ) (flags cas : ℕ) (value : List ℕ) (at : Room) (place : Place) (bytes : List ℕ) → HasBytes t.buffers place bytes → HasBytes (after_put t bucket key flags cas value at).buffers place bytes
put_has t bucket key flags cas value Here place bytes has = appended_has t.buffers place bytes (page_of t bucket).buffer key flags cas value has
put_has t bucket key flags cas value Next place bytes has =
    let s : BlockTable = with_room t bucket Next in appended_has s.buffers place bytes (page_of s bucket).buffer key flags cas value (room_has t bucket Next place bytes has)
put_has t bucket key flags cas value (Opens label) place bytes has =
    let s : BlockTable = with_room t bucket (Opens label) in appended_has s.buffers place bytes (page_of s bucket).buffer key flags cas value (room_has t bucket (Opens label) place bytes has)
put_has t bucket key flags cas value NoBuffer place bytes has = has
put_has t bucket key flags cas value NoPage place bytes has = has

seal_has : (t : BlockTable) (bucket : Bucket) (holds : Bool) (place : Place) (bytes : List ℕ) → HasBytes t.buffers place bytes → HasBytes (cond holds (with_block_sealed t bucket) t).buffers place bytes
seal_has t bucket true place bytes has = closed_has t bucket (open_page t bucket) place bytes has
seal_has t bucket false place bytes has = has

flight_has : (buffers : BufferTable) (in_flight : Bool) (place : Place) (bytes : List ℕ) → HasBytes buffers place bytes → HasBytes (record buffers { in_flight = in_flight }) place bytes
flight_has buffers in_flight place bytes has = record { number = has.number; block = has.block; there = has.there; covered = has.covered; within = has.within; bytes_are = has.bytes_are }

step_has : (t : BlockTable) (call : Call) (place : Place) (bytes : List ℕ) → FreesNone call → HasBytes t.buffers place bytes → HasBytes (table_after call t).buffers place bytes
step_has t (puts bucket key flags cas value) place bytes keeps has = put_has t bucket key flags cas value (room t bucket (length_of key value)) place bytes has
step_has t (seals bucket) place bytes keeps has = seal_has t bucket (holds_record t bucket) place bytes has
step_has t (takes_live other) place bytes keeps has = has
step_has t begins place bytes keeps has = flight_has t.buffers _ place bytes has
step_has t (unwrites job) place bytes keeps has = flight_has t.buffers false place bytes has
step_has t (writes job) place bytes keeps has = absurd keeps
step_has t (fails job) place bytes keeps has = absurd keeps
step_has t (pins label) place bytes keeps has = has
step_has t (unpins label) place bytes keeps has = has
step_has t (ends label) place bytes keeps has = has
step_has t (frees label) place bytes keeps has = has

pub stays_held : (t : BlockTable) (call : Call) (place : Place) (p : Parts) → FreesNone call → IsHeld t place p → IsHeld (table_after call t) place p
stays_held t call place p keeps held = record { version = held.version; some = held.some; bytes = step_has t call place (record_bytes p) keeps held.bytes }

pub held_is_read : (t : BlockTable) (place : Place) (p : Parts) → IsInOne t.buffers → IsHeld t place p → read_of t.buffers place ≡ Some (record_bytes p)
held_is_read t place p one held =
    let has = held.bytes in
    held_read t.buffers place (record_bytes p) has.number held.some one (has.block, has.there, record { covers_it = has.covered; within = has.within; bytes_are = has.bytes_are })
