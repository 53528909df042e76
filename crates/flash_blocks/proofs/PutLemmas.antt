-- A record that is put is held at its place and counted there, and the table stays in order.
use Rattle.std.proofs.Common.{◌≡◌, ℕ, ◌+◌, ◌≤◌, true, cond, IsSome, List, length, Option, Some, None, Ok, refl, sym, ap, ◌∙◌, subst}
use Rattle.std.specs.Option.{ForSome}
use Rattle.std.proofs.lemmas.Bool.{le-leb}
use Rattle.std.proofs.lemmas.List.{get_or-set_same}
use Rattle.flash_names.specs.declared.place.Label.{Label}
use Rattle.flash_names.specs.declared.place.Place.{Place}
use Rattle.flash_record.specs.Record.{record_bytes}
use Rattle.flash_pages.specs.declared.page_row.Bucket.{Bucket}
use Rattle.flash_pages.specs.declared.page_row.Bucket.TheVariants.{Default, Compact}
use Rattle.flash_pages.specs.declared.pages.Opened.{Opened}
use Rattle.flash_pages.specs.declared.pages.Opened.TheVariants.{Page}
use Rattle.flash_pages.specs.States.{is_open}
use Rattle.flash_pages.specs.PageTable.{PageTable, IsAt}
use Rattle.flash_pages.specs.Opening.{next_opening, with_page_opened as page_opened}
use Rattle.flash_pages.specs.Calls.{adds_live, table_after as pages_after}
use Rattle.flash_buffers.specs.Block.{Block, place_in, block_with_record, fits_in}
use Rattle.flash_buffers.specs.BufferTable.{BufferTable, first_free}
use Rattle.flash_buffers.proofs.LawLemmas.{appended_has}
use Rattle.flash_blocks.specs.declared.open_page.OpenPage.{OpenPage}
use Rattle.flash_blocks.specs.declared.answers.Room.{Room}
use Rattle.flash_blocks.specs.declared.answers.Room.TheVariants.{Here, Next, Opens, NoBuffer, NoPage}
use Rattle.flash_blocks.specs.declared.answers.Put.{Put}
use Rattle.flash_blocks.specs.BlockTable.{BlockTable, open_page, page_of, open_block, block_in, bytes_used}
use Rattle.flash_blocks.specs.Rooms.{room, fits_here}
use Rattle.flash_blocks.specs.Calls.{with_block_sealed, with_page_opened, with_taken, with_block_taken, with_room, with_record, next_place, after_put, put_in, put_answer, opened_in, length_of}
use Rattle.flash_blocks.specs.Held.{HasBytes, IsHeld}
use Rattle.flash_blocks.specs.InOrder.{IsInOrder}
use Rattle.flash_blocks.specs.Puts.{pages_opened, IsOpenedFor, CountsPut, IsPut}
use Rattle.flash_blocks.proofs.AppendLemmas.{appended}
use Rattle.flash_blocks.proofs.RoomLemmas.{pages_left, here_fits, sealed_leaves, next_ready, next_free, next_some, opens_free, opens_page, opened_some, opened_size, put_after}
use Rattle.flash_blocks.proofs.OrderLemmas.{sealed_in_order, taken_in_order, taken_has_room, opened_in_order, opened_ready, HasPlace, has_place, buffers_are, recorded_in_order}
use Rattle.flash_record.specs.Record.{parts_with}

-- the record that was appended is held behind the others
module _ (t : BlockTable) (bucket : Bucket) (key : List ℕ) (flags cas : ℕ) (value : List ℕ) (has : HasPlace t bucket key flags cas value) where
  abbrev block : Block
  block = has.appends.block

  abbrev at : Place
  at = record { label = block.label; offset = block.offset + length block.records; length = length_of key value }

  fits : fits_in t.buffers.size (length_of key value) block ≡ true
  fits = le-leb _ _ has.appends.fits

  place_is : at ≡ next_place t bucket (length_of key value)
  place_is =
      let used : length block.records ≡ bytes_used (open_block t bucket) =
      sym (ap (λ (p : Option OpenPage). bytes_used (block_in t.buffers p)) has.page ∙ ap (λ (b : Option Block). bytes_used b) has.appends.is) in
      λ j. record { label = has.appends.own.label j; offset = has.appends.own.offset j + used j; length = length_of key value }

  new_held : (place : Place) → at ≡ place → IsHeld (record t { buffers = appended t.buffers has.id.number key flags cas value }) place (parts_with key flags cas place.label.version value)
  new_held place is =
      let there : place_in t.buffers.size key flags cas value (Some block) ≡ Some place = ap (λ b. cond b (Some at) None) fits ∙ ap (λ (p : Place). Some p) is in
      let new = appended_has t.buffers.size key flags cas value place (Some block) there in
      record {
        version = refl;
        some = new.3;
        bytes = record {
          number = has.id.number;
          block = new.0;
          there = get_or-set_same t.buffers.blocks has.id.number _ None has.appends.unsealed.inside ∙ ap (λ (b : Option Block). block_with_record t.buffers.size key flags cas value b) has.appends.is ∙ new.1;
          covered = new.2.covers_it;
          within = new.2.within;
          bytes_are = new.2.bytes_are;
        };
      }

  pub recorded_held : IsHeld (with_record t bucket key flags cas value) (next_place t bucket (length_of key value)) (parts_with key flags cas (page_of t bucket).label.version value)
  recorded_held =
      let place : Place = next_place t bucket (length_of key value) in
      let held = new_held place place_is in
      record {
        version = held.version;
        some = held.some;
        bytes = subst (λ (b : BufferTable). HasBytes b place (record_bytes (parts_with key flags cas place.label.version value))) (sym (buffers_are t bucket key flags cas value has)) held.bytes;
      }

-- what a room that was made leaves
pub record MakesRoom (t : BlockTable) (bucket : Bucket) (n : ℕ) (opened : Option Label) (s : BlockTable) : Type 0 where
  pub order : IsInOrder s
  pub fits : fits_here s bucket n ≡ true
  pub opens : ForSome opened (IsOpenedFor t.pages bucket (page_of s bucket).label)
  pub pages : s.pages ≡ pages_opened bucket opened t.pages

pub taken_pages : (t : BlockTable) (bucket : Bucket) (page : Option OpenPage) → (with_taken t bucket page).pages ≡ t.pages
taken_pages t bucket None = refl
taken_pages t bucket (Some page) = pages_left t bucket _

-- the page that was opened has the next block
opened_label : (t : BlockTable) (bucket : Bucket) (label : Label) → (page_of (with_block_taken (with_page_opened t bucket label) bucket) bucket).label ≡ label
opened_label t Default label = refl
opened_label t Compact label = refl

module _ (t : BlockTable) (bucket : Bucket) (n : ℕ) (short : n ≤ t.buffers.size) (is : IsInOrder t) where
  abbrev sealed : BlockTable
  sealed = with_block_sealed t bucket

  sealed_order : IsInOrder sealed
  sealed_order = sealed_in_order t bucket is

  short_sealed : n ≤ sealed.buffers.size
  short_sealed = subst (λ (k : ℕ). n ≤ k) (sym (sealed_leaves t bucket).size) short

  room_made : (at : Room) (opened : Option Label) → at ≡ room t bucket n → opened_in at ≡ Ok opened → MakesRoom t bucket n opened (with_room t bucket at)
  room_made Here opened room_is answer =
      let none : None ≡ opened = cc in
      subst (λ (o : Option Label). MakesRoom t bucket n o t) none (record { order = is; fits = here_fits t bucket n room_is; opens = λ label yes. absurd (cc yes); pages = refl })
  room_made Next opened room_is answer =
      let none : None ≡ opened = cc in
      let page : Option OpenPage = open_page sealed bucket in
      subst (λ (o : Option Label). MakesRoom t bucket n o (with_room t bucket Next)) none (record {
        order = taken_in_order sealed bucket page refl (next_ready t bucket n room_is) sealed_order;
        fits = taken_has_room sealed bucket page n (next_some t bucket n room_is) sealed_order (next_free t bucket n room_is) short_sealed;
        opens = λ label yes. absurd (cc yes);
        pages = taken_pages sealed bucket page ∙ (sealed_leaves t bucket).pages;
      })
  room_made (Opens label) opened room_is answer =
      let some : Some label ≡ opened = cc in
      let new : BlockTable = with_page_opened sealed bucket label in
      let page : Option OpenPage = open_page new bucket in
      let next : next_opening sealed.pages bucket ≡ Page label = opens_page t bucket n label room_is in
      let order : IsInOrder new = opened_in_order sealed bucket label next sealed_order in
      let same : new.buffers ≡ sealed.buffers = opened_size sealed bucket label in
      subst (λ (o : Option Label). MakesRoom t bucket n o (with_room t bucket (Opens label))) some (record {
        order = taken_in_order new bucket page refl (opened_ready sealed bucket label order) order;
        fits = taken_has_room new bucket page n (opened_some sealed bucket label) order
            (subst (λ (b : BufferTable). IsSome (first_free b)) (sym same) (opens_free t bucket n label room_is)) (subst (λ (b : BufferTable). n ≤ b.size) (sym same) short_sealed);
        opens = λ other yes. (let one : label ≡ other = cc in
            subst (λ (l : Label). IsOpenedFor t.pages bucket (page_of (with_room t bucket (Opens label)) bucket).label l) one
            (record { next = ap (λ (p : PageTable). next_opening p bucket) (sym (sealed_leaves t bucket).pages) ∙ next; same = opened_label sealed bucket label }));
        pages =
            taken_pages new bucket page ∙ ap (λ (o : Opened). page_opened sealed.pages bucket o) next
            ∙ ap (λ (p : PageTable). page_opened p bucket (Page label)) (sealed_leaves t bucket).pages;
      })
  room_made NoBuffer opened room_is answer = absurd (cc answer)
  room_made NoPage opened room_is answer = absurd (cc answer)

module _ (t : BlockTable) (bucket : Bucket) (key : List ℕ) (flags cas : ℕ) (value : List ℕ) (is : IsInOrder t) (short : length_of key value ≤ t.buffers.size) where
  abbrev n : ℕ
  n = length_of key value

  module _ (at : Room) (opened : Option Label) (room_is : at ≡ room t bucket n) (answer : opened_in at ≡ Ok opened) where
    abbrev s : BlockTable
    s = with_room t bucket at

    made : MakesRoom t bucket n opened s
    made = room_made t bucket n short is at opened room_is answer

    place : HasPlace s bucket key flags cas value
    place = has_place s bucket key flags cas value made.fits made.order.sound

    pub order_put : IsInOrder (after_put t bucket key flags cas value at)
    order_put = subst IsInOrder (put_after t bucket key flags cas value at opened answer) (recorded_in_order s bucket key flags cas value place made.order)

    abbrev put : Put
    put = record { place = next_place s bucket n; opened = opened }

    held_put : IsHeld (after_put t bucket key flags cas value at) put.place (parts_with key flags cas put.place.label.version value)
    held_put =
        subst (λ (b : BlockTable). IsHeld b put.place (parts_with key flags cas put.place.label.version value)) (put_after t bucket key flags cas value at opened answer)
        (recorded_held s bucket key flags cas value place)

    counted_put : CountsPut t.pages bucket put (after_put t bucket key flags cas value at).pages
    counted_put = record {
      opened = made.opens;
      at = subst (λ (p : PageTable). IsAt is_open p put.place.label) made.pages place.own.at;
      counted =
          ap (λ (b : BlockTable). b.pages) (sym (put_after t bucket key flags cas value at opened answer))
          ∙ ap (λ (p : PageTable). pages_after (adds_live put.place.label n) p) made.pages;
    }

  -- the answer tells what was opened
  record Tells (at : Room) (answer : Put) : Type 0 where
    told : opened_in at ≡ Ok answer.opened
    same : record { place = next_place (with_room t bucket at) bucket n; opened = answer.opened } ≡ answer

  tells_of : (at : Room) (opened : Option Label) (answer : Put) → opened_in at ≡ Ok opened → record { place = next_place (with_room t bucket at) bucket n; opened = opened } ≡ answer → Tells at answer
  tells_of at opened answer is_opened same = record {
    told = is_opened ∙ ap (λ (p : Put). Ok p.opened) same;
    same = ap (λ (p : Put). record { place = next_place (with_room t bucket at) bucket n; opened = p.opened }) (sym same) ∙ same;
  }

  tells : (at : Room) (answer : Put) → put_in t bucket n at ≡ Ok answer → Tells at answer
  tells Here answer is_answer = tells_of Here None answer refl cc
  tells Next answer is_answer = tells_of Next None answer refl cc
  tells (Opens label) answer is_answer = tells_of (Opens label) (Some label) answer refl cc
  tells NoBuffer answer is_answer = absurd (cc is_answer)
  tells NoPage answer is_answer = absurd (cc is_answer)

  pub is_put : (answer : Put) → put_answer t bucket n ≡ Ok answer → IsPut t bucket key flags cas value answer
  is_put answer is_answer =
      let its : Tells (room t bucket n) answer = tells (room t bucket n) answer is_answer in
      subst (λ (p : Put). IsPut t bucket key flags cas value p) its.same (record {
        length = refl;
        held = held_put (room t bucket n) answer.opened refl its.told;
        pages = counted_put (room t bucket n) answer.opened refl its.told;
      })

  -- what is refused changes nothing
  order_by : (at : Room) → at ≡ room t bucket n → IsInOrder (after_put t bucket key flags cas value at)
  order_by Here room_is = order_put Here None room_is refl
  order_by Next room_is = order_put Next None room_is refl
  order_by (Opens label) room_is = order_put (Opens label) (Some label) room_is refl
  order_by NoBuffer room_is = is
  order_by NoPage room_is = is

  pub put_in_order : IsInOrder (after_put t bucket key flags cas value (room t bucket n))
  put_in_order = order_by (room t bucket n) refl
